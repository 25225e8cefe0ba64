-- Laws of `same`: it is equality, and how a comparison byte by byte reaches it.
--   same_itself   a list is the same as itself
--   same_equal    two lists that are the same are equal
--   same_differ   two lists that are not equal are not the same
--   same_length   so lists of different lengths, as a prefix and what it is a prefix of, are not the same
--   miss          different at a place below n, and so in the first n
-- Assumes nothing.
use mathlib.Core.Path.{◌≡◌, refl, sym, ap, ap₂, ◌∙◌}
use mathlib.Core.Bool.{true, false}
use mathlib.Core.List.{List, [], ◌∷◌}
use Prim.Native.Nat.{ℕ, ◌<◌}
use borrow.Author.Tests.{eq-eqb, eqb-true}
use lib.Dec.{eqb}
use lib.ListN.{length, take, get_or}
use lib.Seq.{get_or-take}
use Rattle.base.proofs.Cases.{cases, never}
use Rattle.lock.specs.Passwords.{same}

pub same_itself : (l : List ℕ) → same l l ≡ true
unfolding same
same_itself [] = refl
same_itself (x ∷ xs) = simp (eq-eqb x x refl) (same_itself xs)

pub same_equal : (a b : List ℕ) → same a b ≡ true → a ≡ b
unfolding same
same_equal [] [] e = refl
same_equal [] (y ∷ ys) e = never e
same_equal (x ∷ xs) [] e = never e
same_equal (x ∷ xs) (y ∷ ys) e =
    cases (eqb x y)
    (λ (t : eqb x y ≡ true). ap₂ (λ (z : ℕ) (zs : List ℕ). z ∷ zs) (eqb-true x y t) (same_equal xs ys (simp t at e)))
    (λ (t : eqb x y ≡ false). never (simp t at e))

pub same_differ : (a b : List ℕ) → (a ≡ b → ⊥) → same a b ≡ false
same_differ a b ne = cases (same a b) (λ (t : same a b ≡ true). absurd (ne (same_equal a b t))) (λ (t : same a b ≡ false). t)

pub same_length : (a b : List ℕ) → (length a ≡ length b → ⊥) → same a b ≡ false
same_length a b ne = same_differ a b (λ (e : a ≡ b). ne (ap length e))

pub miss : (s t : List ℕ) (i n : ℕ) → i < n → (get_or s i 0 ≡ get_or t i 0 → ⊥) → same (take n s) (take n t) ≡ false
miss s t i n h ne =
    same_differ (take n s) (take n t)
    (λ (e : take n s ≡ take n t). ne (sym (get_or-take n s i 0 h) ∙ ap (λ (l : List ℕ). get_or l i 0) e ∙ get_or-take n t i 0 h))
