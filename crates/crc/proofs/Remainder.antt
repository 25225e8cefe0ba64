-- What divide leaves is the remainder that algebra means: the bits are a multiple of the divisor 2 ^ n + p, plus what is left; what is
-- left has a lower degree than the divisor; and nothing else is so. All laws are over the width n and serve both check sums.
--   quotient        a 1 where divide takes the divisor away
--   division        the bits are the divisor times the quotient, plus what divide leaves
--   lower           what divide leaves is below 2 ^ n
--   only            whatever is below 2 ^ n, and together with a multiple of the divisor makes up the bits, is what divide leaves
--   the_remainder   remainder gives the remainder of the bits times x^n; crc7_remainder, crc16_remainder
-- Assumes nothing.
use mathlib.Core.Path.{◌≡◌, refl, sym, ap, ap₂, ◌∙◌}
use mathlib.Core.Bool.{Bool, true, false}
use mathlib.Core.List.{List, [], ◌∷◌, ◌++◌}
use Prim.Native.Nat.{ℕ, zero, suc, ◌+◌, ◌*◌, ◌^◌, ◌≤◌, ◌<◌}
use native.Mathlib.Nat.{add-zero, add_comm, suc_inj, pow-suc}
use native.Mathlib.Omega.{arith}
use lib.Dec.{leb}
use lib.Pow.{pow_pos}
use lib.ListN.{length, replicate, length-append, length-replicate}
use lib.Bits.{bit_xor, xor_block, xor_self, xor_zero_r, xor_comm, xor_lt}
use Rattle.base.specs.Choice.{pick}
use Rattle.crc.specs.Bits.{bits, onward, spelt, Below}
use Rattle.crc.specs.Crc.{reduced, divide, remainder, check_sum, generator7, generator16, crc7, crc16}
use Rattle.crc.specs.Remainder.{product_on, product, IsRemainder}
use Rattle.crc.proofs.Xor.{xor_assoc, xor_middle, xor_undo, xor_equal, xor_front, xor_double}
use Rattle.crc.proofs.Bits.{below_append, bits_below}
use Rattle.crc.proofs.Linear.{G, zero_lt_two, step_lt}
use Rattle.crc.proofs.Steps.{low7, p7, low16, p16}

-- the quotient of the division by g, whose degree is n, where s is left so far
abbrev pub quotient : (n g : ℕ) → ℕ → List ℕ → List Bool
quotient n g s [] = []
quotient n g s (a ∷ l) = leb (2 ^ n) (s * 2 + a) ∷ quotient n g (reduced n g (s * 2 + a)) l

-- ---- the bits are the divisor times the quotient, plus what is left
-- a step: what is taken away, and what stays
whole : (t : Bool) (u g : ℕ) → bit_xor (pick t g 0) (pick t (bit_xor u g) u) ≡ u
whole true u g = xor_comm g (bit_xor u g) ∙ xor_undo u g
whole false u g = refl

division_on : (n g : ℕ) (l : List ℕ) → Below 2 l → (p s : ℕ)
    → onward (bit_xor p s) l ≡ bit_xor (product_on g p (quotient n g s l)) (divide n g s l)
unfolding divide
division_on n g [] b p s = refl
division_on n g (a ∷ l) b p s =
    let u : ℕ = s * 2 + a in
    let d : ℕ = pick (leb (2 ^ n) u) g 0 in
    ap (λ (x : ℕ). onward x l)
    (sym (xor_block 1 p s 0 a zero_lt_two b.0)
    ∙ ap₂ bit_xor (add-zero (p * 2)) (sym (whole (leb (2 ^ n) u) u g))
    ∙ sym (xor_assoc (p * 2) d (reduced n g u)))
    ∙ division_on n g l b.1 (bit_xor (p * 2) d) (reduced n g u)

pub division : (n g : ℕ) (l : List ℕ) → Below 2 l → spelt l ≡ bit_xor (product g (quotient n g 0 l)) (divide n g 0 l)
division n g l b = division_on n g l b 0 0

-- ---- nothing else is so
-- quotients are made equally long by zeros before them, which change nothing
padded : (g k : ℕ) (q : List Bool) → product g (replicate k false ++ q) ≡ product g q
padded g zero q = refl
padded g (suc k) q = padded g k q

length_padded : (q r : List Bool) → length (replicate (length r) false ++ q) ≡ length (replicate (length q) false ++ r)
length_padded q r = simp (length-append, length-replicate) (add_comm (length r) (length q))

-- for a divisor g of degree n
module _ (n g : ℕ) (reached : 2 ^ n ≤ g) (passed : g < 2 ^ suc n) where
  digit_lt : (t : Bool) → pick t g 0 < 2 ^ suc n
  digit_lt true = passed
  digit_lt false = pow_pos (suc n)

  -- products that differ by less than 2 ^ n did so before their last bits
  near : (q r : List Bool) → length q ≡ length r → (s t : ℕ) → bit_xor (product_on g s q) (product_on g t r) < 2 ^ n → bit_xor s t < 2 ^ n
  near [] [] e s t h = h
  near [] (y ∷ r) e s t h = absurd (omega arith)
  near (x ∷ q) [] e s t h = absurd (omega arith)
  near (x ∷ q) (y ∷ r) e s t h =
      let a : ℕ = pick x g 0 in
      let b : ℕ = pick y g 0 in
      let d : ℕ = bit_xor (bit_xor (s * 2) a) (bit_xor (t * 2) b) in
      let hd : d < 2 ^ n = near q r (suc_inj e) (bit_xor (s * 2) a) (bit_xor (t * 2) b) h in
      let double : bit_xor d (bit_xor a b) ≡ bit_xor s t * 2 =
      xor_middle (bit_xor (s * 2) a) (bit_xor (t * 2) b) a b ∙ ap₂ bit_xor (xor_undo (s * 2) a) (xor_undo (t * 2) b) ∙ xor_double s t
      in
      let low : bit_xor d (bit_xor a b) < 2 ^ suc n =
      xor_lt (suc n) d (bit_xor a b) (rw pow-suc (omega arith)) (xor_lt (suc n) a b (digit_lt x) (digit_lt y))
      in
      omega (arith, pow-suc 2 n)

  -- so they are equal: where the quotients first differ, the products differ by the divisor
  same : (q r : List Bool) → length q ≡ length r → (s : ℕ)
      → bit_xor (product_on g s q) (product_on g s r) < 2 ^ n → product_on g s q ≡ product_on g s r
  same [] [] e s h = refl
  same [] (y ∷ r) e s h = absurd (omega arith)
  same (x ∷ q) [] e s h = absurd (omega arith)
  same (true ∷ q) (true ∷ r) e s h = same q r (suc_inj e) (bit_xor (s * 2) g) h
  same (false ∷ q) (false ∷ r) e s h = same q r (suc_inj e) (bit_xor (s * 2) 0) h
  same (true ∷ q) (false ∷ r) e s h =
      absurd (omega (arith, near q r (suc_inj e) (bit_xor (s * 2) g) (bit_xor (s * 2) 0) h, xor_front (s * 2) g 0, xor_zero_r g))
  same (false ∷ q) (true ∷ r) e s h =
      absurd (omega (arith, near q r (suc_inj e) (bit_xor (s * 2) 0) (bit_xor (s * 2) g) h, xor_front (s * 2) 0 g))

  unique : (q q' : List Bool) (r r' : ℕ) → r < 2 ^ n → r' < 2 ^ n → bit_xor (product g q) r ≡ bit_xor (product g q') r' → r ≡ r'
  unique q q' r r' hr hr' e =
      let u : ℕ = product g q in
      let v : ℕ = product g q' in
      let d : bit_xor u v ≡ bit_xor r r' =
      xor_equal (bit_xor u v) (bit_xor r r') (xor_middle u v r r' ∙ ap (bit_xor (bit_xor u r)) (sym e) ∙ xor_self (bit_xor u r))
      in
      let uv : u ≡ v =
      simp padded at
      (same (replicate (length q') false ++ q) (replicate (length q) false ++ q') (length_padded q q') 0
      (simp (padded, d) (xor_lt n r r' hr hr')))
      in
      xor_equal r r' (sym d ∙ ap (bit_xor u) (sym uv) ∙ xor_self u)

-- ---- all three
zeros_below : (k : ℕ) → Below 2 (replicate k 0)
zeros_below zero = tt
zeros_below (suc k) = (zero_lt_two, zeros_below k)

module _ (n p : ℕ) (hp : p < 2 ^ n) where
  pub lower : (l : List ℕ) → Below 2 l → (s : ℕ) → s < 2 ^ n → divide n (G n p hp) s l < 2 ^ n
  unfolding divide
  lower [] b s hs = hs
  lower (a ∷ l) b s hs = lower l b.1 (reduced n (G n p hp) (s * 2 + a)) (step_lt n p hp s a hs b.0)

  pub only : (l : List ℕ) → Below 2 l → (q : List Bool) (r : ℕ) → r < 2 ^ n → spelt l ≡ bit_xor (product (G n p hp) q) r
      → r ≡ divide n (G n p hp) 0 l
  only l b q r hr e =
      let g : ℕ = G n p hp in
      unique n g (omega arith) (rw pow-suc (omega arith)) q (quotient n g 0 l) r (divide n g 0 l) hr (lower l b 0 (pow_pos n))
      (sym e ∙ division n g l b)

  pub the_remainder : (l : List ℕ) → Below 2 l → IsRemainder n (G n p hp) (l ++ replicate n 0) (remainder n (G n p hp) l)
  unfolding remainder
  the_remainder l b =
      let m : List ℕ = l ++ replicate n 0 in
      let bm : Below 2 m = below_append 2 l (replicate n 0) b (zeros_below n) in
      record {
        times = quotient n (G n p hp) 0 m;
        sum = division n (G n p hp) m bm;
        lower = lower m bm 0 (pow_pos n);
        only = only m bm;
      }

pub crc7_remainder : (bytes : List ℕ) → IsRemainder 7 generator7 (bits bytes ++ replicate 7 0) (crc7 bytes)
unfolding crc7 check_sum
crc7_remainder bytes = the_remainder 7 low7 p7 (bits bytes) (bits_below bytes)

pub crc16_remainder : (bytes : List ℕ) → IsRemainder 16 generator16 (bits bytes ++ replicate 16 0) (crc16 bytes)
unfolding crc16 check_sum
crc16_remainder bytes = the_remainder 16 low16 p16 (bits bytes) (bits_below bytes)
