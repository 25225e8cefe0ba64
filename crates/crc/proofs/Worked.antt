-- CRC7 of 40 bits as the code works it: its sums of moved numbers, and the remainder, are both linear, so 40 powers of 2 are the test.
--   worked        what the code works
--   worked_is     of a byte and a 32-bit number it is the remainder of their 40 bits times x^7
--   five          of five bytes that is their CRC7; one, of a byte alone
--   onto          the sum of bytes after others is that of the first of them met by the sum so far, and the rest
--   met_lt        the first of them, so met, is a byte
--   turn5, turn1  so from the sum of the first i bytes comes that of i + 5, and of i + 1
-- Assumes nothing.
use mathlib.Core.Path.{◌≡◌, refl, sym, ap, ap₂, ◌∙◌}
use mathlib.Core.List.{List, [], ◌∷◌, ◌++◌, append-nil, append_assoc}
use Prim.Native.Nat.{ℕ, ◌+◌, ◌*◌, ◌/◌, ◌%◌, ◌^◌, ◌≤◌, ◌<◌}
use native.Mathlib.Nat.{add-zero}
use native.Mathlib.Omega.{arith}
use lib.Bits.{bit_xor, xor_lt, xor_shifted}
use lib.ListN.{length, take, drop, get_or, length-drop}
use lib.Pow.{pow_pos}
use lib.Seq.{take-add, get_or-drop}
use Rattle.crc.specs.Bits.{bits_of, bits, spelt}
use Rattle.crc.specs.Crc.{divide, remainder, check_sum, generator7, crc7}
use Rattle.crc.proofs.Additive.{Additive, itself, down, up, low, plus, after, alike}
use Rattle.crc.proofs.Bits.{bits_below, bits_of_append, bits_of_low, bits_of_spelt}
use Rattle.crc.proofs.Fold.{turn}
use Rattle.crc.proofs.Linear.{divide_sum, byte_sum, sum_append, sum_bits_of, sum_zeros}
use Rattle.crc.proofs.Steps.{low7, p7, crc7_lt, crc7_step}

-- ---- the code's sums
-- a number, and itself moved down by i and by j bits
abbrev moved : ℕ → ℕ → ℕ → ℕ
moved i j x = bit_xor (bit_xor x (x / 2 ^ i)) (x / 2 ^ j)

-- what the quotient leaves
abbrev left : ℕ → ℕ
left q = bit_xor q (q % 2 ^ 4 * 2 ^ 3) % 2 ^ 7

-- the last two factors, and what is left
abbrev ended : ℕ → ℕ
ended b = left (moved 4 7 (moved 8 14 b))

-- of a byte x and a 32-bit number w
unfoldable pub worked : ℕ → ℕ → ℕ
worked x w = ended (bit_xor (moved 16 28 (bit_xor w x)) (x * 2 ^ 16 + x * 2 ^ 4))

-- of the number that their 40 bits spell: its sums are of moved numbers alone
abbrev high : ℕ → ℕ
high m = m / 2 ^ 32

abbrev above : ℕ → ℕ
above x = bit_xor (x * 2 ^ 16) (x * 2 ^ 4)

abbrev first : ℕ → ℕ
first m = bit_xor (m % 2 ^ 32) (high m)

by_forty : ℕ → ℕ
by_forty m = ended (bit_xor (moved 16 28 (first m)) (above (high m)))

moved_additive : (i j : ℕ) → Additive (moved i j)
moved_additive i j = plus (λ x. bit_xor x (x / 2 ^ i)) (λ x. x / 2 ^ j) (plus (λ x. x) (λ x. x / 2 ^ i) itself (down i)) (down j)

ended_additive : Additive ended
ended_additive =
    after (λ b. moved 4 7 (moved 8 14 b)) left (after (moved 8 14) (moved 4 7) (moved_additive 8 14) (moved_additive 4 7))
    (after (λ q. bit_xor q (q % 2 ^ 4 * 2 ^ 3)) (λ x. x % 2 ^ 7)
    (plus (λ q. q) (λ q. q % 2 ^ 4 * 2 ^ 3) itself (after (λ q. q % 2 ^ 4) (λ x. x * 2 ^ 3) (low 4) (up 3)))
    (low 7))

forty_additive : Additive by_forty
unfolding by_forty
forty_additive =
    after (λ m. bit_xor (moved 16 28 (first m)) (above (high m))) ended
    (plus (λ m. moved 16 28 (first m)) (λ m. above (high m))
    (after first (moved 16 28) (plus (λ m. m % 2 ^ 32) high (low 32) (down 32)) (moved_additive 16 28))
    (after high above (down 32) (plus (λ x. x * 2 ^ 16) (λ x. x * 2 ^ 4) (up 16) (up 4))))
    ended_additive

-- ---- the remainder
-- of the k low bits of a number
rest : ℕ → ℕ → ℕ
rest k x = remainder 7 generator7 (bits_of k x)

rest_additive : (k : ℕ) → Additive (rest k)
unfolding rest remainder
rest_additive k x y = divide_sum 7 low7 p7 (sum_append (sum_bits_of k x y) (sum_zeros 7)) 0 0 (pow_pos 7) (pow_pos 7)

by_powers : (m : ℕ) → m < 2 ^ 40 → by_forty m ≡ rest 40 m
unfolding by_forty rest remainder divide
by_powers = alike by_forty (rest 40) forty_additive (rest_additive 40) 40 tt

-- the number of a byte and a 32-bit number: its parts, and its 40 bits
module _ (m x w : ℕ) (hx : x < 256) (hw : w < 2 ^ 32) (e : m ≡ x * 2 ^ 32 + w) where
  upper : m / 2 ^ 32 ≡ x
  upper = omega arith

  lower : m % 2 ^ 32 ≡ w
  lower = omega arith

  forty : bits_of 40 m ≡ bits_of 8 x ++ bits_of 32 w
  forty = bits_of_append 8 32 m ∙ ap₂ (λ (k l : List ℕ). k ++ l) (ap (bits_of 8) upper) (sym (bits_of_low 32 m) ∙ ap (bits_of 32) lower)

  worked_forty : worked x w ≡ by_forty m
  unfolding worked by_forty
  worked_forty =
      sym (ap₂ (λ (l h : ℕ). ended (bit_xor (moved 16 28 (bit_xor l h)) (above h))) lower upper
      ∙ ap (λ (y : ℕ). ended (bit_xor (moved 16 28 (bit_xor w x)) y)) (xor_shifted x 16 (x * 2 ^ 4) (omega arith)))

pub worked_is : (x w : ℕ) → x < 256 → w < 2 ^ 32 → worked x w ≡ remainder 7 generator7 (bits_of 8 x ++ bits_of 32 w)
unfolding rest
worked_is x w hx hw =
    let m : ℕ = x * 2 ^ 32 + w in
    worked_forty m x w hx hw refl ∙ by_powers m (omega arith) ∙ ap (remainder 7 generator7) (forty m x w hx hw refl)

-- ---- in bytes
pub five : (x b c d e : ℕ)
    → remainder 7 generator7 (bits_of 8 x ++ bits_of 32 (spelt (bits (b ∷ c ∷ d ∷ e ∷ [])))) ≡ crc7 (x ∷ b ∷ c ∷ d ∷ e ∷ [])
unfolding crc7 check_sum bits
five x b c d e =
    let s : List ℕ = b ∷ c ∷ d ∷ e ∷ [] in
    ap (λ (l : List ℕ). remainder 7 generator7 (bits_of 8 x ++ l)) (bits_of_spelt (bits s) (bits_below s))

-- zeros before a byte change nothing
pub one : (x : ℕ) → x < 256 → remainder 7 generator7 (bits_of 8 0 ++ bits_of 32 x) ≡ crc7 (x ∷ [])
unfolding rest remainder divide crc7 check_sum bits
one x h =
    ap (remainder 7 generator7) (sym (forty x 0 x (omega arith) (omega arith) (omega arith)))
    ∙ alike (rest 40) (λ y. crc7 (y ∷ [])) (rest_additive 40) (byte_sum 7 low7 p7) 8 tt x h

-- ---- bytes after others
-- of two lists with one sum, the same bytes after them have one sum
carried : (s t l : List ℕ) → crc7 s ≡ crc7 t → crc7 (s ++ l) ≡ crc7 (t ++ l)
carried s t [] e = ap crc7 (append-nil s) ∙ e ∙ ap crc7 (sym (append-nil t))
carried s t (b ∷ l) e =
    ap crc7 (sym (append_assoc s (b ∷ []) l))
    ∙ carried (s ++ (b ∷ [])) (t ++ (b ∷ [])) l (crc7_step s b ∙ ap (λ (x : ℕ). crc7 (bit_xor (x * 2) b ∷ [])) e ∙ sym (crc7_step t b))
    ∙ ap crc7 (append_assoc t (b ∷ []) l)

pub onto : (s : List ℕ) (b : ℕ) (l : List ℕ) → crc7 (s ++ (b ∷ l)) ≡ crc7 (bit_xor (crc7 s * 2) b ∷ l)
onto s b l =
    ap crc7 (sym (append_assoc s (b ∷ []) l))
    ∙ carried (s ++ (b ∷ [])) (bit_xor (crc7 s * 2) b ∷ []) l (crc7_step s b)

front : (l : List ℕ) → 5 ≤ length l → take 5 l ≡ get_or l 0 0 ∷ get_or l 1 0 ∷ get_or l 2 0 ∷ get_or l 3 0 ∷ get_or l 4 0 ∷ []
front [] h = absurd (omega arith)
front (a ∷ []) h = absurd (omega arith)
front (a ∷ b ∷ []) h = absurd (omega arith)
front (a ∷ b ∷ c ∷ []) h = absurd (omega arith)
front (a ∷ b ∷ c ∷ d ∷ []) h = absurd (omega arith)
front (a ∷ b ∷ c ∷ d ∷ e ∷ l) h = refl

next5 : (s : List ℕ) (i : ℕ) → i + 5 ≤ length s
    → take 5 (drop i s) ≡ get_or s i 0 ∷ get_or s (i + 1) 0 ∷ get_or s (i + 2) 0 ∷ get_or s (i + 3) 0 ∷ get_or s (i + 4) 0 ∷ []
next5 s i h = front (drop i s) (rw length-drop (omega arith)) ∙ simp (get_or-drop, add-zero)

-- the byte met by the sum so far is a byte
pub met_lt : (s : List ℕ) (c b : ℕ) → b < 256 → c ≡ crc7 s → bit_xor (c * 2) b < 256
met_lt s c b hb e = xor_lt 8 (c * 2) b (omega (arith, e, crc7_lt s)) hb

-- a turn: c is the sum of the first i bytes of s; the sum r of x and w is that of the first e
module _ (s : List ℕ) (i c x w e r : ℕ) (ec : c ≡ crc7 (take i s)) (er : r ≡ remainder 7 generator7 (bits_of 8 x ++ bits_of 32 w)) where
  pub turn5 : i + 5 ≤ length s → x ≡ bit_xor (c * 2) (get_or s i 0)
      → w ≡ spelt (bits (get_or s (i + 1) 0 ∷ get_or s (i + 2) 0 ∷ get_or s (i + 3) 0 ∷ get_or s (i + 4) 0 ∷ [])) → e ≡ i + 5
      → (e ≤ length s) × (r ≡ crc7 (take e s))
  turn5 h ex ew ee =
      let l : List ℕ = get_or s (i + 1) 0 ∷ get_or s (i + 2) 0 ∷ get_or s (i + 3) 0 ∷ get_or s (i + 4) 0 ∷ [] in (
        omega arith,
        er
            ∙ ap₂ (λ (y z : ℕ). remainder 7 generator7 (bits_of 8 y ++ bits_of 32 z)) ex ew
            ∙ five (bit_xor (c * 2) (get_or s i 0)) (get_or s (i + 1) 0) (get_or s (i + 2) 0) (get_or s (i + 3) 0) (get_or s (i + 4) 0)
            ∙ ap (λ (y : ℕ). crc7 (bit_xor (y * 2) (get_or s i 0) ∷ l)) ec
            ∙ sym (onto (take i s) (get_or s i 0) l)
            ∙ ap crc7 (ap (λ (k : List ℕ). take i s ++ k) (sym (next5 s i h)) ∙ sym (take-add i 5 s))
            ∙ ap (λ (k : ℕ). crc7 (take k s)) (sym ee),
      )

  pub turn1 : i < length s → get_or s i 0 < 256 → x ≡ 0 → w ≡ bit_xor (c * 2) (get_or s i 0) → e ≡ i + 1 → (e ≤ length s) × (r ≡ crc7 (take e s))
  turn1 h hb ex ew ee = (
    omega arith,
    turn crc7 (λ y b. crc7 (bit_xor (y * 2) b ∷ [])) crc7_step s i c r h ec
        (er
        ∙ ap₂ (λ (y z : ℕ). remainder 7 generator7 (bits_of 8 y ++ bits_of 32 z)) ex ew
        ∙ one (bit_xor (c * 2) (get_or s i 0)) (met_lt (take i s) c (get_or s i 0) hb ec))
        ∙ ap (λ (k : ℕ). crc7 (take k s)) (sym ee),
  )
