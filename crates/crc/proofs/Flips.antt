-- Any one flipped bit is seen, in words of any length, by every divisor 2 ^ n + p with p odd. All laws are over the width n.
--   flip_below   a flipped word is a list of bits
--   word         what bits and a sum after them leave is the remainder of the bits, plus that sum
--   right        so the sum at the end of a word is right exactly if the whole word leaves 0
--   never_zero   dividing on with zeros leaves 0 of 0 alone
--   flip_seen    a word with one bit flipped leaves something else than the word
--   flip_found   in a word that ends with its sum, one flipped bit, before the sum or in it, makes the sum wrong
-- Assumes nothing.
use mathlib.Core.Path.{◌≡◌, refl, sym, ap, ap₂, ◌∙◌, subst}
use mathlib.Core.Logic.{◌↔◌}
use mathlib.Core.Bool.{Bool, true, false}
use mathlib.Core.List.{List, [], ◌∷◌, ◌++◌}
use Prim.Native.Nat.{ℕ, zero, suc, ◌+◌, ◌-◌, ◌*◌, ◌%◌, ◌^◌, ◌<◌}
use native.Mathlib.Nat.{mod-eq_of_lt, mul-mod_left, pow-suc, le_of_suc-le-suc, not-suc-le-zero}
use native.Mathlib.Omega.{arith}
use lib.Dec.{leb}
use lib.Pow.{pow_pos}
use lib.ListN.{length, take, drop, get_or, set, replicate, length-set, length-drop, take-append-drop}
use lib.Bits.{bit_xor, xor_self, xor_zero_r}
use borrow.Author.Tests.{lt-leb}
use Rattle.base.specs.Choice.{pick}
use Rattle.crc.specs.Bits.{bits_of, spelt, Below}
use Rattle.crc.specs.Crc.{reduced, divide, remainder}
use Rattle.crc.specs.Flip.{flip}
use Rattle.crc.proofs.Xor.{no_more, xor_equal}
use Rattle.crc.proofs.Bits.{below_take, below_drop, bits_of_below, spelt_lt, spelt_bits_of, bits_of_spelt}
use Rattle.crc.proofs.Linear.{G, Sum, none, more, zero_lt_two, sum_left, divide_sum, divide_append, step_lt}
use Rattle.crc.proofs.Remainder.{lower, only}

-- ---- words and their flips
below_set : (m k x : ℕ) (w : List ℕ) → Below m w → x < m → Below m (set w k x)
below_set m k x [] b h = tt
below_set m zero x (a ∷ w) b h = (h, b.1)
below_set m (suc k) x (a ∷ w) b h = (b.0, below_set m k x w b.1 h)

pub flip_below : (k : ℕ) (w : List ℕ) → Below 2 w → Below 2 (flip k w)
flip_below k w b = below_set 2 k (1 - get_or w k 0) w b (omega arith)

sum_self : (w : List ℕ) → Below 2 w → Sum w w (replicate (length w) 0)
sum_self [] b = none
sum_self (a ∷ w) b = more b.0 b.0 (sym (xor_self a)) (sum_self w b.1)

other : (a : ℕ) → a < 2 → 1 ≡ bit_xor a (1 - a)
other zero h = refl
other (suc zero) h = refl
other (suc (suc a)) h = absurd (no_more h)

-- a word and its flip differ by a single 1
sum_flip : (k : ℕ) (w : List ℕ) → Below 2 w → k < length w → Sum w (flip k w) (set (replicate (length w) 0) k 1)
sum_flip k [] b h = absurd (not-suc-le-zero h)
sum_flip zero (a ∷ w) b h = more {b = 1 - a} b.0 (omega arith) (other a b.0) (sum_self w b.1)
sum_flip (suc k) (a ∷ w) b h = more b.0 b.0 (sym (xor_self a)) (sum_flip k w b.1 (le_of_suc-le-suc h))

module _ (n p : ℕ) (hp : p < 2 ^ n) where
  pub word : (l : List ℕ) → Below 2 l → (c : ℕ) → c < 2 ^ n
      → divide n (G n p hp) 0 (l ++ bits_of n c) ≡ bit_xor (remainder n (G n p hp) l) c
  unfolding remainder
  word l b c hc =
      let s : ℕ = divide n (G n p hp) 0 l in
      divide_append n p hp l (bits_of n c) 0
      ∙ ap (λ (x : ℕ). divide n (G n p hp) x (bits_of n c)) (sym (xor_zero_r s))
      ∙ divide_sum n p hp (sum_left n c) s 0 (lower n p hp l b 0 (pow_pos n)) (pow_pos n)
      ∙ ap₂ bit_xor (sym (divide_append n p hp l (replicate n 0) 0))
      (sym (only n p hp (bits_of n c) (bits_of_below n c) [] c hc (spelt_bits_of n c ∙ mod-eq_of_lt hc)))

  pub right : (m : ℕ) (w : List ℕ) → Below 2 w → length w ≡ m + n
      → (spelt (drop m w) ≡ remainder n (G n p hp) (take m w)) ↔ (divide n (G n p hp) 0 w ≡ 0)
  right m w b h =
      let d : List ℕ = drop m w in
      let r : ℕ = remainder n (G n p hp) (take m w) in
      let hd : length d ≡ n = length-drop m w ∙ omega arith in
      let bd : Below 2 d = below_drop 2 m w b in
      let back : bits_of n (spelt d) ≡ d = subst (λ (k : ℕ). bits_of k (spelt d) ≡ d) hd (bits_of_spelt d bd) in
      let is : divide n (G n p hp) 0 w ≡ bit_xor r (spelt d) =
      ap (divide n (G n p hp) 0) (sym (ap (λ (x : List ℕ). take m w ++ x) back ∙ take-append-drop m w))
      ∙ word (take m w) (below_take 2 m w b) (spelt d) (subst (λ (k : ℕ). spelt d < 2 ^ k) hd (spelt_lt d bd))
      in
      (λ (e : spelt d ≡ r). is ∙ ap (bit_xor r) e ∙ xor_self r, λ e. sym (xor_equal r (spelt d) (sym is ∙ e)))

-- ---- odd divisors
power_even : (n p : ℕ) → p < 2 ^ n → p % 2 ≡ 1 → 2 ^ n % 2 ≡ 0
power_even zero p hp odd = absurd (omega arith)
power_even (suc n) p hp odd = ap (λ (x : ℕ). x % 2) (pow-suc 2 n) ∙ mul-mod_left (2 ^ n) 2

module _ (n p : ℕ) (hp : p < 2 ^ n) (odd : p % 2 ≡ 1) where
  -- a step leaves 0 of 0 alone: a double is not the divisor
  from_zero : (t : Bool) (s : ℕ) → pick t (bit_xor (s * 2 + 0) (G n p hp)) (s * 2 + 0) ≡ 0 → s ≡ 0
  from_zero true s e = absurd (omega (arith, xor_equal (s * 2 + 0) (G n p hp) e, power_even n p hp odd))
  from_zero false s e = omega arith

  pub never_zero : (k s : ℕ) → s < 2 ^ n → divide n (G n p hp) s (replicate k 0) ≡ 0 → s ≡ 0
  unfolding divide
  never_zero zero s h e = e
  never_zero (suc k) s h e =
      from_zero (leb (2 ^ n) (s * 2 + 0)) s (never_zero k (reduced n (G n p hp) (s * 2 + 0)) (step_lt n p hp s 0 h zero_lt_two) e)

  small : (u : ℕ) → u < 2 ^ n → reduced n (G n p hp) u ≡ u
  small u h = ap (λ (t : Bool). pick t (bit_xor u (G n p hp)) u) (lt-leb (2 ^ n) u h)

  -- a single 1 among zeros is seen
  one_seen : (m k : ℕ) → k < m → divide n (G n p hp) 0 (set (replicate m 0) k 1) ≡ 0 → ⊥
  unfolding divide
  one_seen zero k h e = not-suc-le-zero h
  one_seen (suc m) zero h e =
      let one : 1 < 2 ^ n = omega arith in
      let z = never_zero m 1 one (sym (ap (λ (x : ℕ). divide n (G n p hp) x (replicate m 0)) (small 1 one)) ∙ e) in
      omega arith
  one_seen (suc m) (suc k) h e =
      one_seen m k (le_of_suc-le-suc h) (sym (ap (λ (x : ℕ). divide n (G n p hp) x (set (replicate m 0) k 1)) (small 0 (pow_pos n))) ∙ e)

  pub flip_seen : (k : ℕ) (w : List ℕ) → Below 2 w → k < length w → divide n (G n p hp) 0 (flip k w) ≡ divide n (G n p hp) 0 w → ⊥
  flip_seen k w b h e =
      one_seen (length w) k h
      (divide_sum n p hp (sum_flip k w b h) 0 0 (pow_pos n) (pow_pos n)
      ∙ ap (bit_xor (divide n (G n p hp) 0 w)) e ∙ xor_self (divide n (G n p hp) 0 w))

  pub flip_found : (m k : ℕ) (w : List ℕ) → Below 2 w → length w ≡ m + n → k < m + n
      → spelt (drop m w) ≡ remainder n (G n p hp) (take m w) → spelt (drop m (flip k w)) ≡ remainder n (G n p hp) (take m (flip k w)) → ⊥
  flip_found m k w b l h e f =
      flip_seen k w b (omega arith)
      ((right n p hp m (flip k w) (flip_below k w b) (length-set w k (1 - get_or w k 0) ∙ l)).0 f ∙ sym ((right n p hp m w b l).0 e))
