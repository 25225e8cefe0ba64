-- The decimal digits of a number.
--   written   those that the library writes are those of `decimal_of`
--   one       a number below 10 is its own digit
-- Assumes nothing.
use mathlib.Core.Path.{◌≡◌, refl, sym}
use mathlib.Core.List.{[], ◌∷◌}
use Prim.Native.Nat.{ℕ, ◌+◌, ◌^◌, ◌<◌}
use native.Mathlib.Omega.{arith}
use borrow.Author.Rules.{rules}
use borrow.Author.Tests.{lt-ltb}
use Rattle.std.specs.Fmt.{decimal}
use Rattle.std.proofs.lemmas.Fmt.{AppendsLastDigit, decimal_from_appends, length-decimal-le}
use Rattle.text.specs.Text.{digits_of, decimal_of}

appends : AppendsLastDigit digits_of
unfolding digits_of
appends = search rules

pub written : (n : ℕ) → n < 2 ^ 64 → decimal n ≡ decimal_of n
unfolding decimal_of
written n h = sym (decimal_from_appends digits_of appends 20 n h (length-decimal-le 20 n (omega arith) (omega arith) h))

pub one : (n : ℕ) → n < 10 → (48 + n) ∷ [] ≡ decimal_of n
unfolding decimal_of digits_of
one n h = simp (lt-ltb n 10 h) refl
