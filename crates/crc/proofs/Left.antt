-- The bytes of a list that are left, and the CRC7 of those before them.
--   Summed            c is the sum of the bytes of s before those that are left
--   begins, ends      all are left, and none
--   byte_so_far       the sum has seven bits
--   by_five, by_one   a turn passes five bytes, or one
-- Assumes nothing.
use mathlib.Core.Path.{◌≡◌, refl, ap, ◌∙◌}
use mathlib.Core.List.{List, [], ◌∷◌, ◌++◌}
use Prim.Native.Nat.{ℕ, ◌+◌, ◌*◌, ◌≤◌, ◌<◌}
use native.Mathlib.Nat.{add-zero}
use native.Mathlib.Omega.{arith}
use lib.Bits.{bit_xor}
use lib.ListN.{length, take, drop, get_or, length-drop}
use lib.Seq.{take_all, get_or-drop, drop-drop}
use Rattle.crc.specs.Bits.{bits_of, bits, spelt}
use Rattle.crc.specs.Crc.{divide, remainder, check_sum, generator7, crc7}
use Rattle.crc.proofs.Steps.{crc7_lt}
use Rattle.crc.proofs.Worked.{turn5, turn1}

pub record Summed (s rest : List ℕ) (c : ℕ) : Type 0 where
  pub place : ℕ
  pub left : rest ≡ drop place s
  pub sum : c ≡ crc7 (take place s)

pub begins : (s : List ℕ) → Summed s s 0
unfolding crc7 check_sum remainder divide bits
begins s = record { place = 0; left = refl; sum = refl }

pub ends : (s rest : List ℕ) (c : ℕ) → Summed s rest c → length rest ≡ 0 → c ≡ crc7 s
ends s rest c m e = m.sum ∙ ap crc7 (take_all m.place s (omega (arith, length-drop m.place s, ap length m.left)))

pub byte_so_far : (s rest : List ℕ) (c : ℕ) → Summed s rest c → c < 128
byte_so_far s rest c m = omega (arith, m.sum, crc7_lt (take m.place s))

module _ (s rest : List ℕ) (c x w r : ℕ) (m : Summed s rest c) (er : r ≡ remainder 7 generator7 (bits_of 8 x ++ bits_of 32 w)) where
  byte_first : get_or rest 0 0 ≡ get_or s m.place 0
  byte_first = ap (λ (l : List ℕ). get_or l 0 0) m.left ∙ get_or-drop m.place s 0 0 ∙ ap (λ (k : ℕ). get_or s k 0) (add-zero m.place)

  after_byte : drop 1 rest ≡ drop (m.place + 1) s
  after_byte = ap (drop 1) m.left ∙ drop-drop 1 m.place s

  pub by_five : (tail behind : List ℕ) → tail ≡ drop 1 rest → 4 ≤ length tail → x ≡ bit_xor (c * 2) (get_or rest 0 0)
      → w ≡ spelt (bits (get_or tail 0 0 ∷ get_or tail 1 0 ∷ get_or tail 2 0 ∷ get_or tail 3 0 ∷ [])) → behind ≡ drop 4 tail → Summed s behind r
  by_five tail behind et h ex ew eb =
      let i = m.place in
      let t : tail ≡ drop (i + 1) s = et ∙ after_byte in
      let b : (k j : ℕ) → i + 1 + k ≡ j → get_or tail k 0 ≡ get_or s j 0 =
      λ k j e. ap (λ (l : List ℕ). get_or l k 0) t ∙ get_or-drop (i + 1) s k 0 ∙ ap (λ (n : ℕ). get_or s n 0) e in
      let b1 = b 0 (i + 1) (omega arith) in
      let b2 = b 1 (i + 2) (omega arith) in
      let b3 = b 2 (i + 3) (omega arith) in
      let b4 = b 3 (i + 4) (omega arith) in
      let e : i + 1 + 4 ≡ i + 5 = omega arith in
      record {
        place = i + 5;
        left = eb ∙ ap (drop 4) t ∙ drop-drop 4 (i + 1) s ∙ ap (λ (n : ℕ). drop n s) e;
        sum =
            (turn5 s i c x w (i + 5) r m.sum er (omega (arith, length-drop (i + 1) s, ap length t)) (ex ∙ ap (bit_xor (c * 2)) byte_first)
            (ew ∙ (λ k. spelt (bits (b1 k ∷ b2 k ∷ b3 k ∷ b4 k ∷ [])))) refl).1;
      }

  pub by_one : (behind : List ℕ) → 1 ≤ length rest → ((k : ℕ) → get_or s k 0 < 256) → x ≡ 0 → w ≡ bit_xor (c * 2) (get_or rest 0 0) → behind ≡ drop 1 rest → Summed s behind r
  by_one behind h hb ex ew eb =
      let i = m.place in
      record {
        place = i + 1;
        left = eb ∙ after_byte;
        sum =
            (turn1 s i c x w (i + 1) r m.sum er (omega (arith, length-drop i s, ap length m.left)) (hb i) ex (ew ∙ ap (bit_xor (c * 2)) byte_first) refl).1;
      }
