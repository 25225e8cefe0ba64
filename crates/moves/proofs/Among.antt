-- A number among those of a list.
--   All     a property of each number of a list
--   each    so it is one of any number among them
-- Assumes nothing.
use mathlib.Core.Path.{◌≡◌, sym, subst}
use mathlib.Core.Bool.{true, false}
use mathlib.Core.List.{List, [], ◌∷◌}
use Prim.Native.Nat.{ℕ}
use borrow.Author.Tests.{eqb-true}
use lib.Dec.{eqb}
use Rattle.base.proofs.Cases.{cases, never}
use Rattle.moves.specs.Indices.{among}

abbrev pub All : (ℕ → Type 0) → List ℕ → Type 0
All P [] = Unit {0}
All P (k ∷ ks) = P k × All P ks

pub each : (P : ℕ → Type 0) (ks : List ℕ) → All P ks → (i : ℕ) → among i ks ≡ true → P i
each P [] all i h = never h
each P (k ∷ ks) all i h =
    cases (eqb i k)
    (λ (t : eqb i k ≡ true). subst P (sym (eqb-true i k t)) all.0)
    (λ (t : eqb i k ≡ false). each P ks all.1 i (rw t at h))
