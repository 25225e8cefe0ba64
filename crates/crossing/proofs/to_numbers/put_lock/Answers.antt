-- `crossing::to_numbers::put_lock` meets its contract: two stores behind the mode's number.
-- Assumes nothing.
use borrow.Author.Rules.{rules}
use native.Mathlib.Omega.{arith}
use mathlib.Core.Path.{◌≡◌, refl, ◌∙◌}
use mathlib.Core.Bool.{Bool, true, false}
use mathlib.Core.List.{List, [], ◌∷◌, ◌++◌}
use Prim.Native.Nat.{ℕ, ◌≤◌}
use lib.ListN.{length, take, drop}
use lib.Seq.{sets, sets-eq}
use Rattle.std.specs.Int.{from_bool}
use Rattle.lock.specs.declared.Lock.{Lock}
use Rattle.status.specs.Status.{flag}
use Rattle.crossing.specs.Record.{lock_numbers}
use Rattle.crossing.proofs.to_numbers.put_lock.Goals as goal

is_flag : (b : Bool) → from_bool b ≡ flag b
is_flag true = refl
is_flag false = refl

stored : (lock : Lock) (numbers : List ℕ) (locked size : ℕ) → 11 ≤ length numbers → locked ≡ from_bool lock.locked → size ≡ lock.length
    → sets numbers 9 (locked ∷ size ∷ []) ≡ take 9 numbers ++ lock_numbers lock ++ drop 11 numbers
unfolding lock_numbers
stored lock numbers locked size long e1 e2 = sets-eq (locked ∷ size ∷ []) numbers 9 long ∙ simp (e1, is_flag lock.locked, e2)

pub returns : goal.returns
returns c =
    let long : length c.args.numbers.now ≡ 13 = search rules in
    stored c.args.lock c.args.numbers.now _ _ (omega (arith, long)) c.from.ensures c.from-2.ensures
