-- Document 01, "Frames and blocks": the responses, each from what it means, and the last byte of a register.
-- Assumes nothing.
use Rattle.std.specs.Prelude.{Bool, List, [], ◌∷◌, ◌++◌, ℕ, eqb, take, get_or}
use Rattle.crc.specs.Bits.{bits_of, bits, spelt, octets}
use Rattle.wire.specs.Frames.{crc7_of, sealed}
use Rattle.wire.specs.declared.R1.{R1}
use Rattle.wire.specs.declared.R2.{R2}
use Rattle.wire.specs.declared.R3.{R3}

-- "R1: 0, 0, index, status, CRC7, 1"
unfoldable pub r1_frame : R1 → List ℕ
r1_frame r = octets 6 (sealed (0 ∷ 0 ∷ bits_of 6 r.index ++ bits_of 32 r.status))

-- "R2, 17 bytes: 3F, then the 16 register bytes"
unfoldable pub r2_frame : R2 → List ℕ
r2_frame r = 0x3F ∷ r.register

-- "four OCR bytes with bit 31 set"
abbrev pub ocr_bytes : ℕ → List ℕ
ocr_bytes ocr = octets 4 (1 ∷ bits_of 31 ocr)

-- "R3: 3F, four OCR bytes with bit 31 set, FF"
unfoldable pub r3_frame : R3 → List ℕ
r3_frame r = 0x3F ∷ octets 4 (1 ∷ bits_of 31 r.ocr) ++ (0xFF ∷ [])

-- "CID and CSD end in the CRC7 of their first 15 bytes, then a 1": the byte that closes any bytes so
unfoldable pub last_byte : List ℕ → ℕ
last_byte body = spelt (bits_of 7 (crc7_of (bits body)) ++ (1 ∷ []))

-- whether a register of 16 bytes ends so
unfoldable pub register_right : List ℕ → Bool
register_right register = eqb (get_or register 15 0) (last_byte (take 15 register))
