-- Long division by a polynomial of degree n, 2 ^ n + p, is linear, so the sum of one byte more comes of sums of single bytes. All laws are
-- over the width n and serve both check sums.
--   Sum           the sum of two lists of bits, bit by bit; sum_zeros, sum_append, sum_bits_of, sum_left
--   divide_append division goes on where it stopped
--   divide_sum    division is linear
--   divide_lt     what is left is below 2 ^ n; remainder-lt, check_lt
--   byte_sum      the sum of a single byte is linear
--   check_snoc    one byte more, in steps of the division
--   byte_step     one byte more, by the sum of a single byte
-- Assumes nothing.
use mathlib.Core.Path.{◌≡◌, refl, sym, ap, ap₂, ◌∙◌, subst⁻¹}
use mathlib.Core.Bool.{Bool}
use mathlib.Core.List.{List, [], ◌∷◌, ◌++◌, append_assoc, append-nil}
use Prim.Native.Nat.{ℕ, zero, suc, ◌+◌, ◌*◌, ◌/◌, ◌%◌, ◌^◌, ◌<◌}
use native.Mathlib.Nat.{mod-lt, add_comm, zero-mul, zero-add, div-lt_iff_lt-mul}
use native.Mathlib.Omega.{arith}
use lib.Arith.{digits_lt}
use lib.Pow.{pow_pos, split}
use lib.ListN.{replicate, replicate-append-replicate}
use lib.Bits.{bit_xor, xor_comm, xor_self, xor_zero_r, xor_block, xor_lt, xor_shr, xor_mod}
use borrow.Author.Tests.{lt-leb, le-leb}
use Rattle.base.specs.Choice.{pick}
use Rattle.crc.specs.Bits.{bits_of, bits}
use Rattle.crc.specs.Crc.{reduced, divide, remainder, check_sum}
use Rattle.crc.proofs.Bits.{bits_append}
use Rattle.crc.proofs.Xor.{xor_assoc, xor_middle, no_more}

pub data Sum : List ℕ → List ℕ → List ℕ → Type 0 where
  none : Sum [] [] []
  more : {a b c : ℕ} {l m k : List ℕ} → a < 2 → b < 2 → c ≡ bit_xor a b → Sum l m k → Sum (a ∷ l) (b ∷ m) (c ∷ k)

pub zero_lt_two : zero < 2
zero_lt_two = omega arith

pub bit_lt : (x k : ℕ) → x / 2 ^ k % 2 < 2
bit_lt x k = mod-lt (x / 2 ^ k) zero_lt_two

pub sum_zeros : (k : ℕ) → Sum (replicate k 0) (replicate k 0) (replicate k 0)
sum_zeros zero = none
sum_zeros (suc k) = more zero_lt_two zero_lt_two refl (sum_zeros k)

pub sum_append : {l m k l' m' k' : List ℕ} → Sum l m k → Sum l' m' k' → Sum (l ++ l') (m ++ m') (k ++ k')
sum_append none t = t
sum_append (more ha hb e s) t = more ha hb e (sum_append s t)

pub sum_bits_of : (k x y : ℕ) → Sum (bits_of k x) (bits_of k y) (bits_of k (bit_xor x y))
sum_bits_of zero x y = none
sum_bits_of (suc k) x y =
    more (bit_lt x k) (bit_lt y k) (ap (λ (z : ℕ). z % 2) (xor_shr x y k) ∙ xor_mod (x / 2 ^ k) (y / 2 ^ k) 1) (sum_bits_of k x y)

pub sum_left : (k x : ℕ) → Sum (replicate k 0) (bits_of k x) (bits_of k x)
sum_left zero x = none
sum_left (suc k) x = more zero_lt_two (bit_lt x k) refl (sum_left k x)

-- a bit times p
abbrev times : ℕ → ℕ → ℕ
times zero p = 0
times (suc a) p = p

times_sum : (a b p : ℕ) → a < 2 → b < 2 → bit_xor (times a p) (times b p) ≡ times (bit_xor a b) p
times_sum zero zero p ha hb = refl
times_sum zero (suc b) p ha hb = refl
times_sum (suc zero) zero p ha hb = xor_zero_r p
times_sum (suc zero) (suc zero) p ha hb = xor_self p
times_sum (suc zero) (suc (suc b)) p ha hb = absurd (no_more hb)
times_sum (suc (suc a)) b p ha hb = absurd (no_more ha)

times_lt : (n a p : ℕ) → p < 2 ^ n → times a p < 2 ^ n
times_lt n zero p h = pow_pos n
times_lt n (suc a) p h = h

module _ (n p : ℕ) (hp : p < 2 ^ n) where
  -- the divisor
  abbrev pub G : ℕ
  G = 1 * 2 ^ n + p

  reduced_form : (a r : ℕ) → a < 2 → r < 2 ^ n → reduced n G (a * 2 ^ n + r) ≡ bit_xor r (times a p)
  reduced_form zero r ha hr =
      ap (reduced n G) (ap (λ (x : ℕ). x + r) (zero-mul (2 ^ n)) ∙ zero-add r)
      ∙ ap (λ (t : Bool). pick t (bit_xor r G) r) (lt-leb (2 ^ n) r hr) ∙ sym (xor_zero_r r)
  reduced_form (suc zero) r ha hr =
      ap (λ (t : Bool). pick t (bit_xor (1 * 2 ^ n + r) G) (1 * 2 ^ n + r)) (le-leb (2 ^ n) (1 * 2 ^ n + r) (omega arith))
      ∙ xor_block n 1 1 r p hr hp
      ∙ ap (λ (x : ℕ). x + bit_xor r p) (zero-mul (2 ^ n)) ∙ zero-add (bit_xor r p)
  reduced_form (suc (suc a)) r ha hr = absurd (no_more ha)

  top : (u : ℕ) → u < 2 ^ n * 2 → u / 2 ^ n < 2
  top u h = (div-lt_iff_lt-mul (pow_pos n)).1 (omega arith)

  rest : (u : ℕ) → u % 2 ^ n < 2 ^ n
  rest u = mod-lt u (pow_pos n)

  -- every number below 2 ^ (n + 1) has that form
  reduced_is : (u : ℕ) → u < 2 ^ n * 2 → reduced n G u ≡ bit_xor (u % 2 ^ n) (times (u / 2 ^ n) p)
  reduced_is u h = ap (reduced n G) (sym (split u n)) ∙ reduced_form (u / 2 ^ n) (u % 2 ^ n) (top u h) (rest u)

  reduced_sum : (u v : ℕ) → u < 2 ^ n * 2 → v < 2 ^ n * 2 → reduced n G (bit_xor u v) ≡ bit_xor (reduced n G u) (reduced n G v)
  reduced_sum u v hu hv =
      let a : ℕ = u / 2 ^ n in
      let b : ℕ = v / 2 ^ n in
      let r : ℕ = u % 2 ^ n in
      let s : ℕ = v % 2 ^ n in
      ap₂ (λ (x y : ℕ). reduced n G (bit_xor x y)) (sym (split u n)) (sym (split v n))
      ∙ ap (reduced n G) (xor_block n a b r s (rest u) (rest v))
      ∙ reduced_form (bit_xor a b) (bit_xor r s) (xor_lt 1 a b (top u hu) (top v hv)) (xor_lt n r s (rest u) (rest v))
      ∙ ap (bit_xor (bit_xor r s)) (sym (times_sum a b p (top u hu) (top v hv)))
      ∙ xor_middle r s (times a p) (times b p)
      ∙ sym (ap₂ bit_xor (reduced_is u hu) (reduced_is v hv))

  reduced_lt : (u : ℕ) → u < 2 ^ n * 2 → reduced n G u < 2 ^ n
  reduced_lt u h =
      subst⁻¹ (λ (x : ℕ). x < 2 ^ n) (reduced_is u h)
      (xor_lt n (u % 2 ^ n) (times (u / 2 ^ n) p) (rest u) (times_lt n (u / 2 ^ n) p hp))

  pub step_lt : (s a : ℕ) → s < 2 ^ n → a < 2 → reduced n G (s * 2 + a) < 2 ^ n
  step_lt s a hs ha = reduced_lt (s * 2 + a) (digits_lt hs ha)

  step_sum : (s t a b : ℕ) → s < 2 ^ n → t < 2 ^ n → a < 2 → b < 2
      → reduced n G (bit_xor s t * 2 + bit_xor a b) ≡ bit_xor (reduced n G (s * 2 + a)) (reduced n G (t * 2 + b))
  step_sum s t a b hs ht ha hb =
      ap (reduced n G) (sym (xor_block 1 s t a b ha hb)) ∙ reduced_sum (s * 2 + a) (t * 2 + b) (digits_lt hs ha) (digits_lt ht hb)

  pub divide_sum : {l m k : List ℕ} → Sum l m k → (s t : ℕ) → s < 2 ^ n → t < 2 ^ n
      → divide n G (bit_xor s t) k ≡ bit_xor (divide n G s l) (divide n G t m)
  unfolding divide
  divide_sum none s t hs ht = refl
  divide_sum (more {a} {b} {c} {l} {m} {k} ha hb e r) s t hs ht =
      ap (λ (x : ℕ). divide n G (reduced n G (bit_xor s t * 2 + x)) k) e
      ∙ ap (λ (x : ℕ). divide n G x k) (step_sum s t a b hs ht ha hb)
      ∙ divide_sum r (reduced n G (s * 2 + a)) (reduced n G (t * 2 + b)) (step_lt s a hs ha) (step_lt t b ht hb)

  pub divide_append : (l m : List ℕ) (s : ℕ) → divide n G s (l ++ m) ≡ divide n G (divide n G s l) m
  unfolding divide
  divide_append [] m s = refl
  divide_append (a ∷ l) m s = divide_append l m (reduced n G (s * 2 + a))

  pub divide_lt : {l m k : List ℕ} → Sum l m k → (s : ℕ) → s < 2 ^ n → divide n G s l < 2 ^ n
  unfolding divide
  divide_lt none s hs = hs
  divide_lt (more {a} ha hb e r) s hs = divide_lt r (reduced n G (s * 2 + a)) (step_lt s a hs ha)

  pub divide_bits_lt : (bs : List ℕ) (s : ℕ) → s < 2 ^ n → divide n G s (bits bs) < 2 ^ n
  unfolding bits divide
  divide_bits_lt [] s hs = hs
  divide_bits_lt (b ∷ bs) s hs =
      subst⁻¹ (λ (x : ℕ). x < 2 ^ n) (divide_append (bits_of 8 b) (bits bs) s)
      (divide_bits_lt bs (divide n G s (bits_of 8 b)) (divide_lt (sum_bits_of 8 b b) s hs))

  pub check_lt : (bs : List ℕ) → check_sum n G bs < 2 ^ n
  unfolding check_sum remainder
  check_lt bs =
      subst⁻¹ (λ (x : ℕ). x < 2 ^ n) (divide_append (bits bs) (replicate n 0) 0)
      (divide_lt (sum_zeros n) (divide n G 0 (bits bs)) (divide_bits_lt bs 0 (pow_pos n)))

  pub one_byte : (b : ℕ) → check_sum n G (b ∷ []) ≡ divide n G 0 (bits_of 8 b ++ replicate n 0)
  unfolding check_sum remainder bits
  one_byte b = ap (λ (l : List ℕ). divide n G 0 (l ++ replicate n 0)) (append-nil (bits_of 8 b))

  pub byte_sum : (x y : ℕ) → check_sum n G (bit_xor x y ∷ []) ≡ bit_xor (check_sum n G (x ∷ [])) (check_sum n G (y ∷ []))
  byte_sum x y =
      one_byte (bit_xor x y)
      ∙ divide_sum (sum_append (sum_bits_of 8 x y) (sum_zeros n)) 0 0 (pow_pos n) (pow_pos n)
      ∙ sym (ap₂ bit_xor (one_byte x) (one_byte y))

  -- eight steps of the rest so far, plus the byte's own sum
  pub check_snoc : (bs : List ℕ) (b : ℕ)
      → check_sum n G (bs ++ (b ∷ [])) ≡ bit_xor (divide n G (check_sum n G bs) (replicate 8 0)) (check_sum n G (b ∷ []))
  unfolding check_sum remainder bits
  check_snoc bs b =
      let z : List ℕ = replicate n 0 in
      let s : ℕ = divide n G 0 (bits bs) in
      let hs : s < 2 ^ n = divide_bits_lt bs 0 (pow_pos n) in
      ap (λ (l : List ℕ). divide n G 0 (l ++ z)) (bits_append bs (b ∷ []) ∙ ap (λ (l : List ℕ). bits bs ++ l) (append-nil (bits_of 8 b)))
      ∙ ap (divide n G 0) (append_assoc (bits bs) (bits_of 8 b) z)
      ∙ divide_append (bits bs) (bits_of 8 b ++ z) 0
      ∙ ap (λ (x : ℕ). divide n G x (bits_of 8 b ++ z)) (sym (xor_zero_r s))
      ∙ divide_sum (sum_append (sum_left 8 b) (sum_zeros n)) s 0 hs (pow_pos n)
      ∙ ap₂ bit_xor
      (ap (divide n G s) (replicate-append-replicate 8 n 0 ∙ ap (λ (k : ℕ). replicate k 0) (add_comm 8 n) ∙ sym (replicate-append-replicate n 8 0))
      ∙ divide_append z (replicate 8 0) s
      ∙ ap (λ (x : ℕ). divide n G x (replicate 8 0)) (sym (divide_append (bits bs) z 0)))
      (sym (one_byte b))

  -- for any split of the rest so far: its eight steps are the sum of a single byte and what is left
  pub byte_step : (bs : List ℕ) (b i w : ℕ) → divide n G (check_sum n G bs) (replicate 8 0) ≡ bit_xor (check_sum n G (i ∷ [])) w
      → check_sum n G (bs ++ (b ∷ [])) ≡ bit_xor (check_sum n G (bit_xor i b ∷ [])) w
  byte_step bs b i w e =
      check_snoc bs b
      ∙ ap (λ (x : ℕ). bit_xor x (check_sum n G (b ∷ []))) e
      ∙ xor_assoc (check_sum n G (i ∷ [])) w (check_sum n G (b ∷ []))
      ∙ ap (bit_xor (check_sum n G (i ∷ []))) (xor_comm w (check_sum n G (b ∷ [])))
      ∙ sym (xor_assoc (check_sum n G (i ∷ [])) (check_sum n G (b ∷ [])) w)
      ∙ ap (λ (x : ℕ). bit_xor x w) (sym (byte_sum i b))
