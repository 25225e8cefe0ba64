-- Wrong answers that the promises rule out, each refuted at a sample that antt computes: a call's answer is the definition, so a call
-- that gave the wrong answer would make the two equal. (Others are tried as must-fail edits; docs/PROMISES.md lists both.)
--   crc7_of_four          a frame whose CRC7 is taken over its first four bytes
--   r1_as_a_command_read  an R1 read as a command, since the transmission bit is not tested
--   command_index_64      a command with an index of 7 bits
--   r1_as_a_command       an R1 with the transmission bit of a command
--   r1_index_64           an R1 with an index of 7 bits
--   r2_in_16_bytes        an R2 written into 16 bytes
--   r2_lowest_byte_first  an R2 with the register's last byte in front
--   r3_bit_31_clear       an R3 that shows the OCR as it is
--   r3_with_a_crc         an R3 closed by its CRC7
--   last_without_end_bit  a register closed by its CRC7 and a 0
--   last_unmoved          a register closed by a 1 and its CRC7
--   every_register        a check that takes every register for right
--   register_of_14        a register whose CRC7 is taken over its first 14 bytes
--   payload_2049          a block of 2,049 bytes written
--   sum_of_the_block      a check whose CRC16 is taken over the CRC16 too
--   every_block           a check that takes every block of a good length
--   length_of_the_block   a check that tells the length of the block and not of its payload
-- and samples from document 01, "Proved together, and run":
--   cmd16_of_512          "500000020015 is CMD16 of 512": an argument with its bytes in another order gives another frame
--   answer_to_cmd16       "10000009000B answers it": so does a status
--   block_of_80           "payload 80 has CRC16 9188", high byte first: so does a CRC16 with its low byte in front
-- Assumes nothing.
use mathlib.Core.Path.{◌≡◌, refl, sym, ap}
use mathlib.Core.Bool.{true, false}
use mathlib.Core.List.{List, [], ◌∷◌, ◌++◌}
use Prim.Native.Nat.{ℕ, ◌+◌, ◌*◌}
use native.Mathlib.Omega.{arith}
use lib.ListN.{get_or, replicate}
use Rattle.base.proofs.Cases.{clash, never}
use Rattle.base.specs.Output.{fits}
use Rattle.base.specs.Refusals.{by}
use Rattle.crc.specs.Bits.{bits_of, bits, octets}
use Rattle.crc.specs.Crc.{divide, remainder, check_sum, crc7, crc16}
use Rattle.wire.specs.Blocks.{block_of, block_written, checked_of}
use Rattle.wire.specs.Frames.{crc7_of, sealed, command_frame, indexed, fields_of, framing_of, as_fields}
use Rattle.wire.specs.Responses.{r1_frame, r2_frame, r3_frame, last_byte, register_right}
use Rattle.wire.specs.declared.R1.{R1}
use Rattle.wire.specs.declared.R2.{R2}
use Rattle.wire.specs.declared.R3.{R3}
use Rattle.std.specs.Prelude.{Ok, Err}
use Rattle.wire.specs.declared.Fields.{Fields}
use Rattle.wire.proofs.Told.{fields_told}

abbrev a1 : R1
a1 = record { index = 16; status = 0x00000900 }

abbrev a2 : R2
a2 = record { register = replicate 16 0 }

abbrev a3 : R3
a3 = record { ocr = 0x00FF8000 }

crc7_of_four : framing_of (0x40 ∷ 0x00 ∷ 0x00 ∷ 0x00 ∷ 0x00 ∷ 0x95 ∷ []) ≡ Ok (as_fields 0 0 false) → ⊥
unfolding framing_of fields_of crc7_of remainder divide bits
crc7_of_four e = never (ap (λ (f : Fields). f.crc_right) (sym (fields_told e)))

r1_as_a_command_read : framing_of (0x10 ∷ 0x00 ∷ 0x00 ∷ 0x09 ∷ 0x00 ∷ 0x0B ∷ []) ≡ Ok (as_fields 16 0x00000900 true) → ⊥
unfolding framing_of fields_of bits
r1_as_a_command_read e = clash cc

command_index_64 : indexed 64 (command_frame 64 0) (replicate 6 0) ≡ Ok 6 → ⊥
command_index_64 e = clash cc

r1_as_a_command : r1_frame a1 ≡ command_frame 16 0x00000900 → ⊥
unfolding r1_frame command_frame sealed crc7_of remainder divide
r1_as_a_command e = let z : ◌≡◌ {A = ℕ} 0x10 0x50 = ap (λ (l : List ℕ). get_or l 0 0) e in omega arith

r1_index_64 : indexed 64 (r1_frame a1) (replicate 6 0) ≡ Ok 6 → ⊥
r1_index_64 e = clash cc

r2_in_16_bytes : fits (r2_frame a2) (replicate 16 0) ≡ Ok 17 → ⊥
unfolding r2_frame
r2_in_16_bytes e = clash cc

-- a register of the bytes 0 to 15
abbrev ascending : R2
ascending = record { register = 0 ∷ 1 ∷ 2 ∷ 3 ∷ 4 ∷ 5 ∷ 6 ∷ 7 ∷ 8 ∷ 9 ∷ 10 ∷ 11 ∷ 12 ∷ 13 ∷ 14 ∷ 15 ∷ [] }

r2_lowest_byte_first : get_or (r2_frame ascending) 1 0 ≡ 15 → ⊥
unfolding r2_frame
r2_lowest_byte_first e = omega arith

r3_bit_31_clear : r3_frame a3 ≡ 0x3F ∷ octets 4 (bits_of 32 0x00FF8000) ++ (0xFF ∷ []) → ⊥
unfolding r3_frame
r3_bit_31_clear e = let z : ◌≡◌ {A = ℕ} 0x80 0x00 = ap (λ (l : List ℕ). get_or l 1 0) e in omega arith

r3_with_a_crc : r3_frame a3 ≡ octets 6 (sealed (bits (0x3F ∷ 0x80 ∷ 0xFF ∷ 0x80 ∷ 0x00 ∷ []))) → ⊥
unfolding r3_frame sealed crc7_of remainder divide bits
r3_with_a_crc e = let z : ◌≡◌ {A = ℕ} 0xFF 0xF1 = ap (λ (l : List ℕ). get_or l 5 0) e in omega arith

last_without_end_bit : last_byte (replicate 15 0) ≡ crc7 (replicate 15 0) * 2 → ⊥
unfolding last_byte crc7 check_sum crc7_of remainder divide bits
last_without_end_bit e = omega (arith, e)

last_unmoved : last_byte (1 ∷ []) ≡ 128 + crc7 (1 ∷ []) → ⊥
unfolding last_byte crc7 check_sum crc7_of remainder divide bits
last_unmoved e = omega (arith, e)

every_register : register_right (replicate 16 0) ≡ true → ⊥
unfolding register_right last_byte crc7_of remainder divide bits
every_register e = clash cc

register_of_14 : register_right (replicate 14 0 ++ (1 ∷ 1 ∷ [])) ≡ true → ⊥
unfolding register_right last_byte crc7_of remainder divide bits
register_of_14 e = clash cc

payload_2049 : block_written (replicate 2049 0) (replicate 2051 0) ≡ Ok 2051 → ⊥
unfolding block_written
payload_2049 e = clash cc

sum_of_the_block : checked_of (0x80 ∷ 0x91 ∷ 0x88 ∷ []) ≡ Err (by 17) → ⊥
unfolding checked_of crc16 check_sum remainder divide bits
sum_of_the_block e = clash cc

every_block : checked_of (0x80 ∷ 0x91 ∷ 0x89 ∷ []) ≡ Ok 1 → ⊥
unfolding checked_of crc16 check_sum remainder divide bits
every_block e = clash cc

length_of_the_block : checked_of (0x80 ∷ 0x91 ∷ 0x88 ∷ []) ≡ Ok 3 → ⊥
unfolding checked_of crc16 check_sum remainder divide bits
length_of_the_block e = let z : ◌≡◌ {A = ℕ} 1 3 = cc in omega arith

pub cmd16_of_512 : command_frame 16 512 ≡ 0x50 ∷ 0x00 ∷ 0x00 ∷ 0x02 ∷ 0x00 ∷ 0x15 ∷ []
unfolding command_frame sealed crc7_of remainder divide
cmd16_of_512 = refl

pub answer_to_cmd16 : r1_frame a1 ≡ 0x10 ∷ 0x00 ∷ 0x00 ∷ 0x09 ∷ 0x00 ∷ 0x0B ∷ []
unfolding r1_frame sealed crc7_of remainder divide
answer_to_cmd16 = refl

pub block_of_80 : block_of (0x80 ∷ []) ≡ 0x80 ∷ 0x91 ∷ 0x88 ∷ []
unfolding block_of crc16 check_sum remainder divide bits
block_of_80 = refl
