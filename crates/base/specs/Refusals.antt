-- Document 01, "Refusal numbers".
-- Assumes nothing.
use Rattle.std.specs.Prelude.{Bool, List, [], ◌∷◌, ℕ, eqb}
use Rattle.base.specs.Numbered.{first_with, InTable, in_table}
use Rattle.base.specs.declared.Refusal.{Refusal}
use Rattle.base.specs.declared.Refusal.TheVariants.{FrameLength, FrameBits, FrameCrc, Index, PayloadLength, OutputShort, MemorySize, Map, RegisterLastByte, Ocr, PasswordLength, Lent, BusCards, BusIndex, NoBlock, BlockLength, BlockCrc, PastEnd, Protected, LockFailed, BlockCrosses}

-- the table: the number of each refusal, with what it is given for
abbrev pub number_of : Refusal → ℕ
-- frame is not 6 bytes
number_of FrameLength = 1
-- start, transmission or end bit wrong
number_of FrameBits = 2
-- frame CRC7 wrong
number_of FrameCrc = 3
-- index to write is over 63
number_of Index = 4
-- payload not 1 to 2,048 bytes, or checked block not 3 to 2,050
number_of PayloadLength = 5
-- lent output too short
number_of OutputShort = 6
-- memory size not allowed
number_of MemorySize = 7
-- map length or a map entry wrong
number_of Map = 8
-- last byte of CID or CSD wrong
number_of RegisterLastByte = 9
-- OCR bits 23..0 all zero
number_of Ocr = 10
-- password over 16 bytes
number_of PasswordLength = 11
-- lent memory or map differs in length from the card's, or a map entry is not 0 or 1
number_of Lent = 12
-- bus of 0 cards asked, or a 31st added
number_of BusCards = 13
-- index on the bus outside 0-4, 7, 9, 10, 13, 15
number_of BusIndex = 14
-- no block is expected, or none is to be read
number_of NoBlock = 15
-- block in has the wrong length
number_of BlockLength = 16
-- block CRC16 wrong
number_of BlockCrc = 17
-- block past the end of memory
number_of PastEnd = 18
-- block in protected memory
number_of Protected = 19
-- lock request failed
number_of LockFailed = 20
-- read block crosses 2,048
number_of BlockCrosses = 21

-- the refusals in the table's order
abbrev pub refusals : List Refusal
refusals =
    FrameLength ∷ FrameBits ∷ FrameCrc ∷ Index ∷ PayloadLength ∷ OutputShort ∷ MemorySize ∷ Map ∷ RegisterLastByte ∷ Ocr ∷ PasswordLength ∷
    Lent ∷ BusCards ∷ BusIndex ∷ NoBlock ∷ BlockLength ∷ BlockCrc ∷ PastEnd ∷ Protected ∷ LockFailed ∷ BlockCrosses ∷ []

-- the refusal of a number, for what is said over numbers; only where the table has the number does it mean something (`is_refusal`)
abbrev pub refusal_of : ℕ → Refusal
refusal_of n = first_with number_of n refusals FrameLength

-- whether the table has a number
abbrev pub is_refusal : ℕ → Bool
is_refusal n = eqb (number_of (refusal_of n)) n

-- the refusal of a number, so that rules can speak the table's numbers: `Refused (by 3)`. `by 22` is no refusal, so no rule can give it
abbrev pub by : (n : ℕ) → InTable Refusal (is_refusal n)
by n = in_table (is_refusal n) (refusal_of n)
