-- How many distinct numbers a list has.
--   distinct_at_most    not more than its length
--   fewer_repeats       fewer than its length exactly if two places hold the same number
-- Assumes nothing.
use mathlib.Core.Path.{◌≡◌, refl, sym, ap, subst}
use mathlib.Core.Logic.{◌↔◌, ◌⊎◌, inl, inr, ⊎_elim}
use mathlib.Core.List.{List, [], ◌∷◌, Memᴰ}
use Prim.Native.Nat.{ℕ, zero, suc, ◌≤◌, ◌<◌}
use native.Mathlib.Omega.{arith}
use borrow.Author.Tests.{eqb-true, eq-eqb, ne_eqb, le-ltb}
use lib.Dec.{eqb, ltb}
use lib.ListN.{length, get_or}
use Rattle.base.proofs.Cases.{cases}
use Rattle.rounds.proofs.Distinct.{under_member, get_or_member, distinct_ascending, distinct_has, distinct_from}
use Rattle.rounds.specs.Distinct.{insert, distinct, Ascending, Repeats}

-- a number that is put in is there already, or makes one more
abbrev Put : ℕ → List ℕ → Type 0
Put x l = (Memᴰ x l × (length (insert x l) ≡ length l)) ⊎ (length (insert x l) ≡ suc (length l))

put : (x : ℕ) (l : List ℕ) → Put x l
unfolding insert
put x [] = inr refl
put x (y ∷ l) =
    cases (ltb x y) (λ p. rw p (inr refl))
    (λ p.
    rw p
    (cases (eqb x y) (λ q. rw q (inl (mathlib.Core.List.Memᴰ.head (eqb-true x y q), refl)))
    (λ q. rw q (⊎_elim (λ h. inl (mathlib.Core.List.Memᴰ.tail h.0, ap suc h.1)) (λ h. inr (ap suc h)) (put x l)))))

there : (x : ℕ) (l : List ℕ) → Ascending l → Memᴰ x l → length (insert x l) ≡ length l
unfolding insert Ascending
there x [] a m = absurd (mathlib.Core.List.Memᴰ.not-nil m)
there x (y ∷ l) a m =
    ⊎_elim (λ (e : x ≡ y). rw (le-ltb x y (omega arith), eq-eqb x y e))
    (λ (k : Memᴰ x l).
    let low = under_member y l a.0 x k in
    rw (le-ltb x y (omega arith), ne_eqb x y (λ e. omega arith)) (ap suc (there x l a.1 k))) (mathlib.Core.List.Memᴰ.cases_cons m)

put_at_most : (x : ℕ) (l : List ℕ) → length (insert x l) ≤ suc (length l)
put_at_most x l = ⊎_elim (λ h. omega (arith, h.1)) (λ h. omega arith) (put x l)

pub distinct_at_most : (xs : List ℕ) → length (distinct xs) ≤ length xs
unfolding distinct
distinct_at_most [] = omega arith
distinct_at_most (x ∷ xs) = omega (arith, put_at_most x (distinct xs), distinct_at_most xs)

pub place_in : (l : List ℕ) (x : ℕ) → Memᴰ x l → (i : ℕ) × ((i < length l) × (get_or l i 0 ≡ x))
place_in [] x m = absurd (mathlib.Core.List.Memᴰ.not-nil m)
place_in (y ∷ l) x (mathlib.Core.List.Memᴰ.head e) = (0, (omega arith, sym e))
place_in (y ∷ l) x (mathlib.Core.List.Memᴰ.tail m) = let w = place_in l x m in (suc w.0, (omega (arith, w.1.0), w.1.1))

-- one place further on
pub repeats_later : (x : ℕ) (xs : List ℕ) → Repeats xs → Repeats (x ∷ xs)
repeats_later x xs r = (suc r.0, (suc r.1.0, (omega (arith, r.1.1.0), (omega (arith, r.1.1.1.0), r.1.1.1.1))))

-- the first again
pub repeats_first : (x : ℕ) (xs : List ℕ) → Memᴰ x xs → Repeats (x ∷ xs)
repeats_first x xs m = let w = place_in xs x m in (0, (suc w.0, (omega arith, (omega (arith, w.1.0), sym w.1.1))))

repeats : (xs : List ℕ) → length (distinct xs) < length xs → Repeats xs
unfolding distinct
repeats [] h = absurd (omega arith)
repeats (x ∷ xs) h =
    ⊎_elim (λ p. repeats_first x xs (distinct_from xs x p.0)) (λ p. repeats_later x xs (repeats xs (omega arith))) (put x (distinct xs))

fewer : (xs : List ℕ) (i j : ℕ) → i < j → j < length xs → get_or xs i 0 ≡ get_or xs j 0 → length (distinct xs) < length xs
unfolding distinct
fewer [] i j h b e = absurd (omega arith)
fewer (x ∷ xs) i zero h b e = absurd (omega arith)
fewer (x ∷ xs) zero (suc j) h b e =
    let m : Memᴰ x xs = subst (λ (z : ℕ). Memᴰ z xs) (sym e) (get_or_member xs j (omega arith)) in
    omega (arith, there x (distinct xs) (distinct_ascending xs) (distinct_has xs x m), distinct_at_most xs)
fewer (x ∷ xs) (suc i) (suc j) h b e = omega (arith, put_at_most x (distinct xs), fewer xs i j (omega arith) (omega arith) e)

pub fewer_repeats : (xs : List ℕ) → (length (distinct xs) < length xs) ↔ Repeats xs
fewer_repeats xs = (repeats xs, λ r. fewer xs r.0 r.1.0 r.1.1.0 r.1.1.1.0 r.1.1.1.1)
