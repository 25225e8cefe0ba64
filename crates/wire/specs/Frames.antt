-- Document 01, "Frames and blocks": command frames, read and written.
-- Assumes nothing.
use Rattle.std.specs.Prelude.{Bool, List, [], ◌∷◌, ◌++◌, ℕ, eqb, leb, length, take, drop, Result, Ok, Err}
use Rattle.base.specs.Choice.{unless}
use Rattle.base.specs.Output.{fits}
use Rattle.base.specs.Refusals.{by}
use Rattle.crc.specs.Bits.{bits_of, bits, spelt, octets}
use Rattle.crc.specs.Crc.{remainder, generator7}
use Rattle.base.specs.declared.Refusal.{Refusal}
use Rattle.wire.specs.declared.Fields.{Fields}
use Rattle.wire.specs.declared.Command.{Command}

-- "CRC7 divides the first 40 bits times x^7 by x^7+x^3+1"
unfoldable pub crc7_of : List ℕ → ℕ
crc7_of = remainder 7 generator7

-- bits closed by "CRC7, 1"
unfoldable pub sealed : List ℕ → List ℕ
sealed l = l ++ bits_of 7 (crc7_of l) ++ (1 ∷ [])

-- 48 bits that have an index: 0, the transmission bit, index (6), a number (32), CRC7, 1
abbrev pub indexed_frame : ℕ → ℕ → ℕ → List ℕ
indexed_frame transmission index word = octets 6 (sealed (0 ∷ transmission ∷ bits_of 6 index ++ bits_of 32 word))

-- "Command, 48 bits, first bit sent highest: 0, 1, index (6), argument (32), CRC7, 1"
unfoldable pub command_frame : ℕ → ℕ → List ℕ
command_frame index argument = octets 6 (sealed (0 ∷ 1 ∷ bits_of 6 index ++ bits_of 32 argument))

-- "Writing a frame: 4, 6": the index to write has 6 bits, and the frame fits the lent output
abbrev pub indexed : ℕ → List ℕ → List ℕ → Result ℕ Refusal
indexed index frame out = unless (leb index 63) (Err (by 4)) (fits frame out)

-- the number in the w bits that come after the first k
abbrev pub field : List ℕ → ℕ → ℕ → ℕ
field sent k w = spelt (take w (drop k sent))

-- what a frame gives, by its fields
abbrev pub as_fields : ℕ → ℕ → Bool → Fields
as_fields index argument right = record { index = index; argument = argument; crc_right = right }

abbrev pub as_command : ℕ → ℕ → Command
as_command index argument = record { index = index; argument = argument }

-- 2: of the 48 bits sent the start bit is 0, the transmission bit 1 and the end bit 1, each tested for itself.
-- Bits that are framed so have an index, an argument, and a CRC7 that is right or wrong.
unfoldable pub fields_of : List ℕ → Result Fields Refusal
fields_of sent =
    unless (eqb (field sent 0 1) 0) (Err (by 2))
    (unless (eqb (field sent 1 1) 1) (Err (by 2))
    (unless (eqb (field sent 47 1) 1) (Err (by 2))
    (Ok (as_fields (field sent 2 6) (field sent 8 32) (eqb (field sent 40 7) (crc7_of (take 40 sent)))))))

-- 1: a frame is 6 bytes
unfoldable pub framing_of : List ℕ → Result Fields Refusal
framing_of frame = unless (eqb (length frame) 6) (Err (by 1)) (fields_of (bits frame))

-- 3: the CRC7 is right
abbrev pub checked : Result Fields Refusal → Result Command Refusal
checked (Ok fields) = unless fields.crc_right (Err (by 3)) (Ok (as_command fields.index fields.argument))
checked (Err refusal) = Err refusal

-- "Frame: 1, 2, 3"
unfoldable pub frame_of : List ℕ → Result Command Refusal
frame_of frame = checked (framing_of frame)
