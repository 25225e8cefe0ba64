-- Laws of the distinct numbers of a list.
--   distinct_ascending              they are in ascending order
--   distinct_has, distinct_from     they are the numbers of the list
--   ascending_one                   two ascending lists of the same numbers are the same: so `distinct` is the only such list
--   without, distinct_without, without_first    all but one number; taking the smallest of the distinct ones leaves the others
--   rank_get, get_rank, rank_lt     at the place that counts the smaller ones stands the number itself
--   under_member, get_or_member       what is smaller than all is smaller than each; what stands at a place is in the list
-- Assumes nothing.
use mathlib.Core.Path.{◌≡◌, refl, sym, ap, ap₂, ◌∙◌, subst}
use mathlib.Core.Logic.{◌⊎◌, inl, inr, ⊎_elim}
use mathlib.Core.List.Memᴰ
use mathlib.Core.List.{List, [], ◌∷◌, Memᴰ}
use Prim.Native.Nat.{ℕ, zero, suc, ◌≤◌, ◌<◌}
use native.Mathlib.Omega.{arith}
use borrow.Author.Tests.{ltb-true, ltb-false, eqb-true, eqb-false, lt-ltb, le-ltb, eq-eqb, ne_eqb}
use lib.Dec.{eqb, ltb}
use lib.ListN.{length, get_or}
use Rattle.base.proofs.Cases.{cases}
use Rattle.base.specs.Choice.{pick}
use Rattle.rounds.specs.Distinct.{insert, distinct, rank, Under, Ascending}

-- all of a list but x
unfoldable pub without : ℕ → List ℕ → List ℕ
without x [] = []
without x (y ∷ ys) = pick (eqb y x) (without x ys) (y ∷ without x ys)

under_trans : (x y : ℕ) (l : List ℕ) → x < y → Under y l → Under x l
unfolding Under
under_trans x y [] h b = tt
under_trans x y (z ∷ l) h b = (omega (arith, b.0), under_trans x y l h b.1)

pub under_member : (x : ℕ) (l : List ℕ) → Under x l → (z : ℕ) → Memᴰ z l → x < z
unfolding Under
under_member x [] b z m = absurd (Memᴰ.not-nil m)
under_member x (y ∷ l) b z (Memᴰ.head e) = omega (arith, b.0)
under_member x (y ∷ l) b z (Memᴰ.tail m) = under_member x l b.1 z m

under_insert : (z x : ℕ) (l : List ℕ) → z < x → Under z l → Under z (insert x l)
unfolding Under insert
under_insert z x [] h b = (h, tt)
under_insert z x (y ∷ l) h b = cases (ltb x y) (λ p. rw p (h, b)) (λ p. rw p (cases (eqb x y) (λ q. rw q b) (λ q. rw q (b.0, under_insert z x l h b.1))))

insert_ascending : (x : ℕ) (l : List ℕ) → Ascending l → Ascending (insert x l)
unfolding Under insert Ascending
insert_ascending x [] a = (tt, tt)
insert_ascending x (y ∷ l) a =
    cases (ltb x y) (λ p. rw p ((ltb-true x y p, under_trans x y l (ltb-true x y p) a.0), a))
    (λ p. rw p (cases (eqb x y) (λ q. rw q a)
    (λ q. let e = eqb-false x y q in let g = ltb-false x y p in rw q (under_insert y x l (omega arith) a.0, insert_ascending x l a.1))))

pub distinct_ascending : (xs : List ℕ) → Ascending (distinct xs)
unfolding distinct Ascending
distinct_ascending [] = tt
distinct_ascending (x ∷ xs) = insert_ascending x (distinct xs) (distinct_ascending xs)

insert_here : (x : ℕ) (l : List ℕ) → Memᴰ x (insert x l)
unfolding insert
insert_here x [] = Memᴰ.head refl
insert_here x (y ∷ l) =
    cases (ltb x y) (λ p. rw p (Memᴰ.head refl))
    (λ p. rw p (cases (eqb x y) (λ q. rw q (Memᴰ.head (eqb-true x y q))) (λ q. rw q (Memᴰ.tail (insert_here x l)))))

insert_there : (z x : ℕ) (l : List ℕ) → Memᴰ z l → Memᴰ z (insert x l)
unfolding insert
insert_there z x [] m = Memᴰ.tail m
insert_there z x (y ∷ l) m =
    cases (ltb x y) (λ p. rw p (Memᴰ.tail m))
    (λ p.
    rw p
    (cases (eqb x y) (λ q. rw q m)
    (λ q. rw q (⊎_elim (λ e. Memᴰ.head e) (λ k. Memᴰ.tail (insert_there z x l k)) (Memᴰ.cases_cons m)))))

pub distinct_has : (xs : List ℕ) (z : ℕ) → Memᴰ z xs → Memᴰ z (distinct xs)
unfolding distinct
distinct_has [] z m = m
distinct_has (x ∷ xs) z (Memᴰ.head e) = subst (λ k. Memᴰ k (insert x (distinct xs))) (sym e) (insert_here x (distinct xs))
distinct_has (x ∷ xs) z (Memᴰ.tail m) = insert_there z x (distinct xs) (distinct_has xs z m)

insert_from : (z x : ℕ) (l : List ℕ) → Memᴰ z (insert x l) → (z ≡ x) ⊎ Memᴰ z l
unfolding insert
insert_from z x [] m = Memᴰ.cases_cons m
insert_from z x (y ∷ l) m =
    cases (ltb x y) (λ p. Memᴰ.cases_cons (rw p at m))
    (λ p. cases (eqb x y) (λ q. inr (rw (p, q) at m))
    (λ q.
    ⊎_elim (λ e. inr (Memᴰ.head e)) (λ k. ⊎_elim (λ e. inl e) (λ j. inr (Memᴰ.tail j)) (insert_from z x l k))
    (Memᴰ.cases_cons (rw (p, q) at m))))

pub distinct_from : (xs : List ℕ) (z : ℕ) → Memᴰ z (distinct xs) → Memᴰ z xs
unfolding distinct
distinct_from [] z m = m
distinct_from (x ∷ xs) z m = ⊎_elim (λ e. Memᴰ.head e) (λ k. Memᴰ.tail (distinct_from xs z k)) (insert_from z x (distinct xs) m)

-- nothing to take out
without_under : (x : ℕ) (l : List ℕ) → Under x l → without x l ≡ l
unfolding Under without
without_under x [] b = refl
without_under x (y ∷ l) b = rw (ne_eqb y x (λ e. omega (arith, b.0))) (ap (λ t. y ∷ t) (without_under x l b.1))

under_without : (z x : ℕ) (l : List ℕ) → Under z l → Under z (without x l)
unfolding Under without
under_without z x [] b = tt
under_without z x (y ∷ l) b = cases (eqb y x) (λ p. rw p (under_without z x l b.1)) (λ p. rw p (b.0, under_without z x l b.1))

insert_under : (x : ℕ) (l : List ℕ) → Under x l → insert x l ≡ x ∷ l
unfolding Under insert
insert_under x [] b = refl
insert_under x (y ∷ l) b = rw (lt-ltb x y b.0)

-- taking m out, before or after an insertion
without_insert : (m x : ℕ) (l : List ℕ) → Ascending l → without m (insert x l) ≡ pick (eqb x m) (without m l) (insert x (without m l))
unfolding Ascending without insert
without_insert m x [] a = refl
without_insert m x (y ∷ l) a =
    cases (ltb x y)
    (λ p. let h = ltb-true x y p in rw p
    (cases (eqb x m) (λ q. rw q) (λ q. rw q (cases (eqb y m)
    (λ r. rw r (sym (insert_under x (without m l) (under_without x m l (under_trans x y l h a.0)))))
    (λ r. rw (r, p))))))
    (λ p. rw p (cases (eqb x y)
    (λ q. let e = eqb-true x y q in rw (q, e) (cases (eqb y m) (λ r. rw r) (λ r. rw (r, eq-eqb y y refl, le-ltb y y (omega arith)))))
    (λ q. rw q (cases (eqb y m)
    (λ r. let ne = eqb-false x y q in let em = eqb-true y m r in rw r (without_insert m x l a.1 ∙ rw (ne_eqb x m (λ k. ne (k ∙ sym em)))))
    (λ r. rw r (cases (eqb x m)
    (λ t. rw t (ap (λ k. y ∷ k) (without_insert m x l a.1 ∙ rw t)))
    (λ t. rw (t, p, q) (ap (λ k. y ∷ k) (without_insert m x l a.1 ∙ rw t)))))))))

pub distinct_without : (m : ℕ) (xs : List ℕ) → distinct (without m xs) ≡ without m (distinct xs)
unfolding distinct without
distinct_without m [] = refl
distinct_without m (x ∷ xs) =
    cases (eqb x m)
    (λ p. rw p (distinct_without m xs ∙ sym (without_insert m x (distinct xs) (distinct_ascending xs) ∙ rw p)))
    (λ p. rw p (ap (insert x) (distinct_without m xs) ∙ sym (without_insert m x (distinct xs) (distinct_ascending xs) ∙ rw p)))

pub without_first : (m : ℕ) (l : List ℕ) → Ascending (m ∷ l) → without m (m ∷ l) ≡ l
unfolding without Ascending
without_first m l a = rw (eq-eqb m m refl) (without_under m l a.0)

pub rank_under : (x : ℕ) (l : List ℕ) → Under x l → rank l x ≡ 0
unfolding Under rank
rank_under x [] b = refl
rank_under x (y ∷ l) b = rw (le-ltb y x (omega (arith, b.0))) (rank_under x l b.1)

-- a list's element at k is in it
pub get_or_member : (l : List ℕ) (k : ℕ) → k < length l → Memᴰ (get_or l k 0) l
get_or_member [] k h = absurd (omega arith)
get_or_member (x ∷ l) zero h = Memᴰ.head refl
get_or_member (x ∷ l) (suc k) h = Memᴰ.tail (get_or_member l k (omega arith))

-- of an ascending list: the element at the place that counts the smaller ones
pub rank_get : (l : List ℕ) → Ascending l → (x : ℕ) → Memᴰ x l → get_or l (rank l x) 0 ≡ x
unfolding Ascending rank
rank_get [] a x m = absurd (Memᴰ.not-nil m)
rank_get (y ∷ l) a x m =
    ⊎_elim (λ e. rw (e, le-ltb y y (omega arith), rank_under y l a.0))
    (λ k. rw (lt-ltb y x (under_member y l a.0 x k)) (rank_get l a.1 x k)) (Memᴰ.cases_cons m)

rank_le : (l : List ℕ) (x : ℕ) → rank l x ≤ length l
unfolding rank
rank_le [] x = omega arith
rank_le (y ∷ l) x = cases (ltb y x) (λ p. rw p (omega (arith, rank_le l x))) (λ p. rw p (omega (arith, rank_le l x)))

pub rank_lt : (l : List ℕ) (x : ℕ) → Memᴰ x l → rank l x < length l
unfolding rank
rank_lt [] x m = absurd (Memᴰ.not-nil m)
rank_lt (y ∷ l) x (Memᴰ.head e) = rw (le-ltb y x (omega arith)) (omega (arith, rank_le l x))
rank_lt (y ∷ l) x (Memᴰ.tail m) = cases (ltb y x) (λ p. rw p (omega (arith, rank_lt l x m))) (λ p. rw p (omega (arith, rank_lt l x m)))

pub get_rank : (l : List ℕ) → Ascending l → (k : ℕ) → k < length l → rank l (get_or l k 0) ≡ k
unfolding Ascending rank
get_rank [] a k h = absurd (omega arith)
get_rank (y ∷ l) a zero h = rw (le-ltb y y (omega arith)) (rank_under y l a.0)
get_rank (y ∷ l) a (suc k) h =
    rw (lt-ltb y (get_or l k 0) (under_member y l a.0 (get_or l k 0) (get_or_member l k (omega arith)))) (ap suc (get_rank l a.1 k (omega arith)))

-- ---- an ascending list is told by its numbers
pub first_under : (x : ℕ) (xs : List ℕ) → Ascending (x ∷ xs) → (z : ℕ) → Memᴰ z (x ∷ xs) → x ≤ z
unfolding Ascending
first_under x xs a z m = ⊎_elim (λ e. omega arith) (λ k. let h = under_member x xs a.0 z k in omega arith) (Memᴰ.cases_cons m)

-- the numbers of the list behind its first
behind : (x y : ℕ) (xs ys : List ℕ) → x ≡ y → Ascending (x ∷ xs) → ((z : ℕ) → Memᴰ z (x ∷ xs) → Memᴰ z (y ∷ ys))
    → (z : ℕ) → Memᴰ z xs → Memᴰ z ys
unfolding Ascending
behind x y xs ys e a h z m =
    let low = under_member x xs a.0 z m in
    ⊎_elim (λ (q : z ≡ y). absurd (omega arith)) (λ (k : Memᴰ z ys). k) (Memᴰ.cases_cons (h z (Memᴰ.tail m)))

pub ascending_one : (xs ys : List ℕ) → Ascending xs → Ascending ys → ((z : ℕ) → Memᴰ z xs → Memᴰ z ys)
    → ((z : ℕ) → Memᴰ z ys → Memᴰ z xs) → xs ≡ ys
unfolding Ascending
ascending_one [] [] a b f g = refl
ascending_one [] (y ∷ ys) a b f g = absurd (Memᴰ.not-nil (g y (Memᴰ.head refl)))
ascending_one (x ∷ xs) [] a b f g = absurd (Memᴰ.not-nil (f x (Memᴰ.head refl)))
ascending_one (x ∷ xs) (y ∷ ys) a b f g =
    let low : y ≤ x = first_under y ys b x (f x (Memᴰ.head refl)) in
    let high : x ≤ y = first_under x xs a y (g y (Memᴰ.head refl)) in
    let e : x ≡ y = omega arith in
    ap₂ (λ (z : ℕ) (zs : List ℕ). z ∷ zs) e (ascending_one xs ys a.1 b.1 (behind x y xs ys e a f) (behind y x ys xs (sym e) b g))
