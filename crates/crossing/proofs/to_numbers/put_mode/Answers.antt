-- `crossing::to_numbers::put_mode` meets its contract: one store behind the link's numbers.
-- Assumes nothing.
use borrow.Author.Rules.{rules}
use native.Mathlib.Omega.{arith}
use mathlib.Core.Path.{◌≡◌, ◌∙◌}
use mathlib.Core.List.{List, [], ◌∷◌, ◌++◌}
use Prim.Native.Nat.{ℕ, ◌≤◌}
use lib.ListN.{length, take, drop}
use lib.Seq.{sets, sets-eq}
use Rattle.card_record.specs.declared.Mode.{Mode}
use Rattle.crossing.specs.Record.{mode_number, mode_numbers}
use Rattle.crossing.proofs.to_numbers.put_mode.Goals as goal

stored : (mode : Mode) (numbers : List ℕ) (number : ℕ) → 9 ≤ length numbers → number ≡ mode_number mode
    → sets numbers 8 (number ∷ []) ≡ take 8 numbers ++ mode_numbers mode ++ drop 9 numbers
unfolding mode_numbers
stored mode numbers number long e = sets-eq (number ∷ []) numbers 8 long ∙ simp e

pub returns : goal.returns
returns c =
    let long : length c.args.numbers.now ≡ 13 = search rules in
    stored c.args.mode c.args.numbers.now _ (omega (arith, long)) c.mode_number.ensures
