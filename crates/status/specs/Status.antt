-- Document 01, "How a card takes a frame": the status in R1, and which of its error bits are set and cleared when.
-- Assumes nothing.
use Rattle.std.specs.Prelude.{Bool, true, false, List, [], ◌∷◌, ℕ, ◌+◌, ◌-◌, ◌*◌, ◌^◌}
use Rattle.std.specs.Int.Bits.{bit_and, bit_or}
use Rattle.states.specs.States.{column_number}
use Rattle.states.specs.declared.Column.{Column}
use Rattle.states.specs.declared.Column.TheVariants.{Idle, Ready, Ident, Stby, Tran, Data, Rcv, Prg, Dis, Ina}
use Rattle.status.specs.ErrorBits.{place_of, error_bits, error_bit, word_with}
use Rattle.status.specs.declared.ErrorBit.{ErrorBit}
use Rattle.status.specs.declared.Errors.{Errors}

-- no error bit is set: "power-on ..: no tags or error bits"; "R1 reports pending bits .., then clears them"
abbrev pub no_errors : Errors
no_errors = record { bits = 0 }

-- an error bit set, and all else as it was
abbrev pub with_bit : Errors → ErrorBit → Errors
with_bit errors bit = record { bits = bit_or errors.bits (2 ^ place_of bit) }

-- a word of 32 bits without those of a list
abbrev pub without : List ErrorBit → ℕ → ℕ
without cleared bits = bit_and bits (2 ^ 32 - 1 - word_with cleared)

-- "Other taken commands clear bits 23 and 22 only"
abbrev pub command_bits_cleared : Errors → Errors
command_bits_cleared errors = record { bits = without (error_bit 23 ∷ error_bit 22 ∷ []) errors.bits }

-- the error bits as R1 shows them: a bit that document 01 does not name is never shown
abbrev pub shown : Errors → ℕ
shown errors = bit_and errors.bits (word_with error_bits)

abbrev pub flag : Bool → ℕ
flag true = 1
flag false = 0

-- "bit 8 is 0 in prg and dis, else 1": BUFFER_EMPTY in 001
abbrev pub buffer_empty : Column → Bool
buffer_empty Idle = true
buffer_empty Ready = true
buffer_empty Ident = true
buffer_empty Stby = true
buffer_empty Tran = true
buffer_empty Data = true
buffer_empty Rcv = true
buffer_empty Prg = false
buffer_empty Dis = false
buffer_empty Ina = true

-- "Status in R1: error bits; 25 locked; 12..9 the state on reception, idle 0 to dis 8; bit 8 .."
unfoldable pub word_of : Errors → Bool → Column → ℕ
word_of errors locked on = shown errors + flag locked * 2 ^ 25 + (column_number on * 2 ^ 9 + flag (buffer_empty on) * 2 ^ 8)
