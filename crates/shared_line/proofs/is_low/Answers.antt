use mathlib.Core.Path.{◌≡◌}
use Prim.Native.Nat.{ℕ}
use borrow.Author.Rules.{rules}
use lib.ListN.{length, get_or}
use mir.Syntax.{w8}
use mir.Val.{Fits}
use Rattle.crc.proofs.Bits.{below_all}
use Rattle.shared_line.proofs.Orders.{low_some}
use Rattle.shared_line.proofs.is_low.Goals as goal

pub returns-in-Some : goal.returns-in-Some
returns-in-Some c = let cid = c.args.cid in
    let least = c.in-Some.least in
    let n : length cid ≡ length least = search rules in
    let fa : (i : ℕ) → Fits w8 (get_or cid i 0) = λ i. search rules in
    let fb : (i : ℕ) → Fits w8 (get_or least i 0) = λ i. search rules in
    record {
      answer = low_some _ cid least c.in-Some.is n (below_all 256 cid (λ i. (fa i).fits)) (below_all 256 least (λ i. (fb i).fits)) _ c.eq.ensures;
    }
