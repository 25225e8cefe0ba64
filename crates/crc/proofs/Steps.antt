-- One byte more, for each of the two check sums, from the one law of Linear. What is special to a width is a test over its
-- small numbers, which antt computes.
--   crc7_lt, crc16_lt       the sums have 7 and 16 bits
--   crc7_step, crc16_step   the sum of one byte more, by the sum of a single byte
-- Assumes nothing.
use mathlib.Core.Path.{◌≡◌, sym, ap, ap₂, ◌∙◌}
use mathlib.Core.List.{List, [], ◌∷◌, ◌++◌}
use Prim.Native.Nat.{ℕ, ◌-◌, ◌*◌, ◌/◌, ◌%◌, ◌^◌, ◌<◌}
use native.Mathlib.Omega.{arith}
use lib.Dec.{T, eqb, eqb→eq, lit<}
use lib.ListN.{replicate}
use lib.Pow.{split}
use lib.Bits.{bit_xor, xor_zero_r, xor_shifted}
use Rattle.base.proofs.Span.{below, passes}
use Rattle.crc.specs.Bits.{bits_of, bits}
use Rattle.crc.specs.Crc.{divide, remainder, check_sum, generator7, generator16, crc7, crc16}
use Rattle.crc.proofs.Linear.{sum_zeros, divide_sum, divide_append, check_lt, one_byte, byte_step}

-- two functions that a computed test finds equal below m are equal there
agree : (f g : ℕ → ℕ) (m : ℕ) → T (passes (λ x. eqb (f x) (g x)) 0 m) → (c : ℕ) → c < m → f c ≡ g c
agree f g m t c h = eqb→eq (f c) (g c) (below (λ x. eqb (f x) (g x)) m t c h)

-- ---- width 7: the divisor is 2 ^ 7 + low7
abbrev pub low7 : ℕ
low7 = generator7 - 2 ^ 7

pub p7 : low7 < 2 ^ 7
p7 = lit< tt

eight7 : (c : ℕ) → c < 128 → divide 7 generator7 c (replicate 8 0) ≡ check_sum 7 generator7 (c * 2 ∷ [])
unfolding divide check_sum remainder bits
eight7 = agree (λ c. divide 7 generator7 c (replicate 8 0)) (λ c. check_sum 7 generator7 (c * 2 ∷ [])) 128 tt

pub crc7_lt : (bs : List ℕ) → crc7 bs < 128
unfolding crc7
crc7_lt = check_lt 7 low7 p7

pub crc7_step : (bs : List ℕ) (b : ℕ) → crc7 (bs ++ (b ∷ [])) ≡ crc7 (bit_xor (crc7 bs * 2) b ∷ [])
unfolding crc7
crc7_step bs b =
    let c : ℕ = check_sum 7 generator7 bs in
    byte_step 7 low7 p7 bs b (c * 2) 0 (eight7 c (check_lt 7 low7 p7 bs) ∙ sym (xor_zero_r (check_sum 7 generator7 (c * 2 ∷ []))))
    ∙ xor_zero_r (check_sum 7 generator7 (bit_xor (c * 2) b ∷ []))

-- ---- width 16: the divisor is 2 ^ 16 + low16
abbrev pub low16 : ℕ
low16 = generator16 - 2 ^ 16

pub p16 : low16 < 2 ^ 16
p16 = lit< tt

-- a rest of one byte moves up, and is what the byte's own bits leave
up : (c : ℕ) → c < 256 → divide 16 generator16 c (replicate 8 0) ≡ c * 256
unfolding divide
up = agree (λ c. divide 16 generator16 c (replicate 8 0)) (λ c. c * 256) 256 tt

load : (c : ℕ) → c < 256 → divide 16 generator16 0 (bits_of 8 c) ≡ c
unfolding divide
load = agree (λ c. divide 16 generator16 0 (bits_of 8 c)) (λ c. c) 256 tt

eight16 : (c : ℕ) → c < 65536 → divide 16 generator16 c (replicate 8 0) ≡ bit_xor (check_sum 16 generator16 (c / 256 ∷ [])) (c % 256 * 256)
eight16 c h =
    let hi : ℕ = c / 256 in
    let lo : ℕ = c % 256 in
    let hh : hi < 256 = omega arith in
    let hl : lo < 256 = omega arith in
    let z : List ℕ = replicate 8 0 in
    ap (λ (x : ℕ). divide 16 generator16 x z) (sym (split c 8) ∙ sym (xor_shifted hi 8 lo hl))
    ∙ divide_sum 16 low16 p16 (sum_zeros 8) (hi * 256) lo (omega arith) (omega arith)
    ∙ ap₂ bit_xor
    (ap (λ (x : ℕ). divide 16 generator16 x z) (sym (up hi hh))
    ∙ sym (divide_append 16 low16 p16 z z hi)
    ∙ ap (λ (x : ℕ). divide 16 generator16 x (replicate 16 0)) (sym (load hi hh))
    ∙ sym (divide_append 16 low16 p16 (bits_of 8 hi) (replicate 16 0) 0)
    ∙ sym (one_byte 16 low16 p16 hi))
    (up lo hl)

pub crc16_lt : (bs : List ℕ) → crc16 bs < 65536
unfolding crc16
crc16_lt = check_lt 16 low16 p16

pub crc16_step : (bs : List ℕ) (b : ℕ)
    → crc16 (bs ++ (b ∷ [])) ≡ bit_xor (crc16 (bit_xor (crc16 bs / 256) b ∷ [])) (crc16 bs % 256 * 256)
unfolding crc16
crc16_step bs b =
    let c : ℕ = check_sum 16 generator16 bs in
    byte_step 16 low16 p16 bs b (c / 256) (c % 256 * 256) (eight16 c (check_lt 16 low16 p16 bs))
