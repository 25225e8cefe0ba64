use mathlib.Core.Path.{◌≡◌, ap, ◌∙◌}
use Prim.Native.Nat.{ℕ}
use borrow.Author.Rules.{rules}
use lib.ListN.{length, get_or}
use mir.Syntax.{w8}
use mir.Val.{Fits}
use Rattle.std.specs.Ordering.{is_lt}
use Rattle.crc.proofs.Bits.{below_all}
use Rattle.shared_line.proofs.Orders.{lower_some}
use Rattle.shared_line.proofs.is_lower.Goals as goal

pub returns-in-Some : goal.returns-in-Some
returns-in-Some c = let cid = c.args.cid in
    let found = c.in-Some.found in
    let n : length cid ≡ length found = search rules in
    let fa : (i : ℕ) → Fits w8 (get_or cid i 0) = λ i. search rules in
    let fb : (i : ℕ) → Fits w8 (get_or found i 0) = λ i. search rules in
    record {
      answer = lower_some _ cid found c.in-Some.is n (below_all 256 cid (λ i. (fa i).fits)) (below_all 256 found (λ i. (fb i).fits)) _ (c.is_lt.ensures ∙ ap is_lt c.cmp.ensures);
    }
