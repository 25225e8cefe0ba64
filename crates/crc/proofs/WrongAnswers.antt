-- Wrong answers that the promises rule out, each refuted at a sample that antt computes: a call's answer is the definition, so a call
-- that gave the wrong answer would make the two equal. (Others are tried as must-fail edits; docs/PROMISES.md lists both.)
--   word_lowest_first   the 32 bits of four bytes, lowest byte first
--   word_of_three       its highest byte not looked at
--   first_byte_behind   a frame's sum with its first byte behind the argument
--   argument_reversed   a frame's sum with the argument's bytes lowest first
-- and samples from document 01, "Proved together, and run":
--   sum_of_cmd0    the CRC7 of 4000000000, which 400000000095 ends in: another polynomial, or a byte that is not looked at, gives another
--   sum_of_cmd16   that of 5000000200, which "500000020015 is CMD16 of 512" ends in, as the 40 bits of a frame
--   sum_of_80      "payload 80 has CRC16 9188; 00 has 0000": so do another polynomial and a sum that does not begin with 0
-- Assumes nothing.
use mathlib.Core.Path.{◌≡◌, refl}
use mathlib.Core.List.{[], ◌∷◌, ◌++◌}
use native.Mathlib.Omega.{arith}
use Rattle.crc.specs.Bits.{bits_of, bits, spelt}
use Rattle.crc.specs.Crc.{divide, remainder, check_sum, generator7, crc7, crc16}

word_lowest_first : spelt (bits (0x00 ∷ 0x00 ∷ 0x02 ∷ 0x00 ∷ [])) ≡ 0x00020000 → ⊥
unfolding bits
word_lowest_first e = omega arith

word_of_three : spelt (bits (0x80 ∷ 0x00 ∷ 0x00 ∷ 0x00 ∷ [])) ≡ 0x00000000 → ⊥
unfolding bits
word_of_three e = omega arith

pub sum_of_cmd0 : crc7 (0x40 ∷ 0x00 ∷ 0x00 ∷ 0x00 ∷ 0x00 ∷ []) ≡ 0x4A
unfolding crc7 check_sum remainder divide bits
sum_of_cmd0 = refl

pub sum_of_cmd16 : remainder 7 generator7 (bits_of 8 0x50 ++ bits_of 32 0x00000200) ≡ 0x0A
unfolding remainder divide
sum_of_cmd16 = refl

first_byte_behind : remainder 7 generator7 (bits_of 8 0x50 ++ bits_of 32 0x00000200) ≡ remainder 7 generator7 (bits_of 32 0x00000200 ++ bits_of 8 0x50) → ⊥
unfolding remainder divide
first_byte_behind e = omega arith

argument_reversed : remainder 7 generator7 (bits_of 8 0x50 ++ bits_of 32 0x00000200) ≡ remainder 7 generator7 (bits_of 8 0x50 ++ bits_of 32 0x00020000) → ⊥
unfolding remainder divide
argument_reversed e = omega arith

pub sum_of_80 : (crc16 (0x80 ∷ []) ≡ 0x9188) × (crc16 (0x00 ∷ []) ≡ 0x0000)
unfolding crc16 check_sum remainder divide bits
sum_of_80 = (refl, refl)
