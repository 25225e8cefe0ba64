-- The span law: one test that antt computes over a span of numbers holds at each number of the span.
--   passes    the test passes at the n numbers from a on
--   span      so it passes at any number of them
--   below     the same of the numbers below m
-- Assumes nothing.
use mathlib.Core.Path.{◌≡◌, subst}
use mathlib.Core.Bool.{Bool, true}
use mathlib.Core.Logic.{⊎_elim}
use Prim.Native.Nat.{ℕ, zero, suc, ◌+◌, ◌≤◌, ◌<◌}
use native.Mathlib.Omega.{arith}
use native.Mathlib.Nat.{eq-or-lt_of_le}
use lib.Dec.{T}
use Rattle.base.proofs.Cases.{both, both_left, both_right}

abbrev pub passes : (ℕ → Bool) → ℕ → ℕ → Bool
passes f a zero = true
passes f a (suc n) = both (f a) (passes f (suc a) n)

pub span : (f : ℕ → Bool) (a n : ℕ) → T (passes f a n) → (i : ℕ) → a ≤ i → i < a + n → T (f i)
span f a zero t i lo hi = absurd (omega arith)
span f a (suc n) t i lo hi =
    ⊎_elim
    (λ (e : a ≡ i). subst (λ (m : ℕ). T (f m)) e (both_left (f a) (passes f (suc a) n) t))
    (λ (l : a < i). span f (suc a) n (both_right (f a) (passes f (suc a) n) t) i l (omega arith))
    (eq-or-lt_of_le lo)

pub below : (f : ℕ → Bool) (m : ℕ) → T (passes f 0 m) → (i : ℕ) → i < m → T (f i)
below f m t i h = span f 0 m t i (omega arith) (omega arith)
