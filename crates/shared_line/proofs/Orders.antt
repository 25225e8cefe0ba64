-- Two CIDs compared, and what follows for the smallest.
--   order-..   the three answers of a comparison
--   by_order_lem   the three cases of one
--   lower_some     whether one more is smaller than what was found, as the bytes tell
--   low_some       whether it is what was found
-- Assumes nothing.
use mathlib.Core.Path.{◌≡◌, ◌∙◌}
use mathlib.Core.Bool.{Bool}
use mathlib.Core.List.{List}
use Prim.Native.Nat.{ℕ, ◌<◌}
use native.Mathlib.Omega.{arith}
use borrow.Author.Tests.{ltb-true, ltb-false, eqb-true, eqb-false, eq-eqb, ne_eqb, lt-ltb, le-ltb}
use lib.Dec.{eqb, ltb}
use lib.ListN.{length}
use lib.Pointwise.{pointwise}
use Rattle.std.specs.Prelude.{Some}
use Rattle.std.specs.declared.cmp.Ordering.TheVariants.{Less, Equal, Greater}
use Rattle.std.specs.Ordering.{is_lt, nat_cmp}
use Rattle.std.specs.Cmp.Lexicographic.{slice_cmp}
use Rattle.base.proofs.Cases.{cases}
use Rattle.crc.specs.Bits.{Below}
use Rattle.shared_line.proofs.Numbers.{number_less, number_same}
use Rattle.shared_line.specs.Lowest.{cid_number, order_of, Low, is_lower, is_low}

-- ---- a comparison
pub order_smaller : (a b : List ℕ) → cid_number a < cid_number b → order_of a b ≡ Less
unfolding order_of
order_smaller a b h = simp (lt-ltb (cid_number a) (cid_number b) h)

pub order_larger : (a b : List ℕ) → cid_number b < cid_number a → order_of a b ≡ Greater
unfolding order_of
order_larger a b h =
    simp (le-ltb (cid_number a) (cid_number b) (omega arith), ne_eqb (cid_number a) (cid_number b) (λ e. omega arith))

pub order_same : (a b : List ℕ) → cid_number a ≡ cid_number b → order_of a b ≡ Equal
unfolding order_of
order_same a b e = simp (le-ltb (cid_number a) (cid_number b) (omega arith), eq-eqb (cid_number a) (cid_number b) e)

-- the three cases of a comparison
pub by_order_lem : {P : Type 0} (a b : List ℕ) → (cid_number a < cid_number b → order_of a b ≡ Less → P) → (cid_number a ≡ cid_number b → order_of a b ≡ Equal → P)
    → (cid_number b < cid_number a → order_of a b ≡ Greater → P) → P
by_order_lem a b smaller same larger =
    cases (ltb (cid_number a) (cid_number b))
    (λ t. let h = ltb-true (cid_number a) (cid_number b) t in smaller h (order_smaller a b h))
    (λ t.
    cases (eqb (cid_number a) (cid_number b))
    (λ u. let h = eqb-true (cid_number a) (cid_number b) u in same h (order_same a b h))
    (λ u.
    let n = eqb-false (cid_number a) (cid_number b) u in
    let l = ltb-false (cid_number a) (cid_number b) t in
    let h : cid_number b < cid_number a = cases (ltb (cid_number b) (cid_number a)) (λ v. ltb-true (cid_number b) (cid_number a) v)
    (λ v. let k = ltb-false (cid_number b) (cid_number a) v in let e : cid_number a ≡ cid_number b = omega arith in absurd (n e)) in
    larger h (order_larger a b h)))

-- ---- the smallest
module _ (low : Low) (cid found : List ℕ) (is : low ≡ Some found) where
  pub lower_some : length cid ≡ length found → Below 256 cid → Below 256 found → (r : Bool)
      → r ≡ is_lt (slice_cmp nat_cmp cid found) → r ≡ is_lower low cid
  unfolding is_lower
  lower_some n wa wb r e =
      let x : ℕ = cid_number cid in
      let y : ℕ = cid_number found in
      let less : r ≡ ltb x y = e ∙ number_less cid found n wa wb in
      by_order_lem cid found (λ h by. rw (is, by) (less ∙ lt-ltb x y h)) (λ h by. rw (is, by) (less ∙ le-ltb x y (omega arith)))
      (λ h by. rw (is, by) (less ∙ le-ltb x y (omega arith)))

  pub low_some : length cid ≡ length found → Below 256 cid → Below 256 found → (r : Bool) → r ≡ pointwise eqb cid found → r ≡ is_low low cid
  unfolding is_low
  low_some n wa wb r e =
      let x : ℕ = cid_number cid in
      let y : ℕ = cid_number found in
      let same : r ≡ eqb x y = e ∙ number_same cid found n wa wb in
      by_order_lem cid found (λ h by. rw (is, by) (same ∙ ne_eqb x y (λ e. omega arith))) (λ h by. rw (is, by) (same ∙ eq-eqb x y h))
      (λ h by. rw (is, by) (same ∙ ne_eqb x y (λ e. omega arith)))
