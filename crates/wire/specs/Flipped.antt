-- Bytes with one bit flipped on the way.
-- Assumes nothing.
use Rattle.std.specs.Prelude.{Bool, true, List, ℕ, eqb, length}
use Rattle.base.specs.Choice.{pick}
use Rattle.crc.specs.Bits.{bits, octets}
use Rattle.crc.specs.Flip.{flip}

-- the bytes in which bit k, counted as sent, is the other one
abbrev pub flipped : ℕ → List ℕ → List ℕ
flipped k bytes = octets (length bytes) (flip k (bits bytes))

-- the bits of a frame that frame it: the start bit, the transmission bit and the end bit
abbrev pub framing_bit : ℕ → Bool
framing_bit k = pick (eqb k 0) true (pick (eqb k 1) true (eqb k 47))
