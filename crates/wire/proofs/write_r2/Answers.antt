-- `wire::write_r2` meets its contract: the register copied behind the first byte.
-- Assumes nothing.
use mathlib.Core.Path.{◌≡◌, ap}
use mathlib.Core.List.{List, [], ◌∷◌, ◌++◌}
use Prim.Native.Nat.{ℕ, suc, ◌≤◌}
use native.Mathlib.Omega.{arith}
use borrow.Author.Rules.{rules}
use borrow.Rule.Slice.PartMut.{put_mid}
use lib.ListN.{length, drop, set}
use Rattle.base.proofs.Output.{short, written}
use Rattle.wire.specs.Responses.{r2_frame}
use Rattle.wire.specs.declared.R2.{R2}
use Rattle.wire.proofs.write_r2.Goals as goal

long : (v : R2) → length v.register ≡ 16 → length (r2_frame v) ≡ 17
unfolding r2_frame
long v n = ap suc n

-- a whole register behind the first byte
stored : (v : R2) (o s : List ℕ) → 17 ≤ length o → s ≡ v.register → put_mid 1 16 (set o 0 63) s ≡ r2_frame v ++ drop 17 o
unfolding r2_frame
stored v [] s h e = absurd (omega arith)
stored v (x ∷ o) s h e = ap (λ (l : List ℕ). (63 ∷ l) ++ drop 16 o) e

pub returns-then-out-lt17-clause-answer : goal.returns-then-out-lt17-clause-answer
returns-then-out-lt17-clause-answer c =
    let r2 = c.args.r2 in
    let n : length r2.register ≡ 16 = search rules in short (r2_frame r2) c.args.out.now 17 (long r2 n) c.if-out-lt17.true

pub returns : goal.returns
returns c =
    let r2 = c.args.r2 in
    let o = c.args.out.now in
    let n : length r2.register ≡ 16 = search rules in
    let h = c.if-out-lt17.false in
    let w = written (r2_frame r2) o 17 (long r2 n) _ h (stored r2 o _ h c.copy_from_slice.ensures.after) in
    record { answer = w.0; output = w.1 }
