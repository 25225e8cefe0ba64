-- The error bits of document 01, with the places and the words of source document 001, chapter "Status".
-- Assumes nothing.
use Rattle.std.specs.Prelude.{Bool, List, [], ◌∷◌, ℕ, ◌+◌, ◌^◌, eqb}
use Rattle.base.specs.Numbered.{first_with, InTable, in_table}
use Rattle.status.specs.declared.ErrorBit.{ErrorBit}
use Rattle.status.specs.declared.ErrorBit.TheVariants.{OutOfRange, AddressError, BlockLenError, EraseSeqError, EraseParam, WpViolation, LockUnlockFailed, ComCrcError, IllegalCommand, WpEraseSkip, EraseReset}

-- the place of each error bit in a status, with what sets it
abbrev pub place_of : ErrorBit → ℕ
-- the argument was out of the range allowed for this card
place_of OutOfRange = 31
-- a misaligned address
place_of AddressError = 30
-- a block length that is not allowed, or that is not the block's
place_of BlockLenError = 29
-- an error in the sequence of erase commands
place_of EraseSeqError = 28
-- an invalid selection of sectors or groups for erase
place_of EraseParam = 27
-- the command tried to write a write protected block
place_of WpViolation = 26
-- a lock request failed, or a locked card was accessed
place_of LockUnlockFailed = 24
-- the CRC check of the previous command failed
place_of ComCrcError = 23
-- command not legal for the current state
place_of IllegalCommand = 22
-- only part was erased, since some of it is write protected
place_of WpEraseSkip = 15
-- an erase sequence was cleared before executing
place_of EraseReset = 13

-- all of them, from the highest down
abbrev pub error_bits : List ErrorBit
error_bits =
    OutOfRange ∷ AddressError ∷ BlockLenError ∷ EraseSeqError ∷ EraseParam ∷ WpViolation ∷ LockUnlockFailed ∷ ComCrcError ∷ IllegalCommand ∷
    WpEraseSkip ∷ EraseReset ∷ []

-- the error bit at a place, for what is said over places; only where there is one does it mean something (`is_error_bit`)
abbrev pub error_bit_at : ℕ → ErrorBit
error_bit_at place = first_with place_of place error_bits OutOfRange

-- whether an error bit stands at a place
abbrev pub is_error_bit : ℕ → Bool
is_error_bit place = eqb (place_of (error_bit_at place)) place

-- the error bit at a place, so that rules can speak the document's numbers: `error_bit 31`. `error_bit 14` is no error bit, so no rule can set it
abbrev pub error_bit : (place : ℕ) → InTable ErrorBit (is_error_bit place)
error_bit place = in_table (is_error_bit place) (error_bit_at place)

-- the word in which the bits of a list, each named once, are set
abbrev pub word_with : List ErrorBit → ℕ
word_with [] = 0
word_with (b ∷ bs) = 2 ^ place_of b + word_with bs
