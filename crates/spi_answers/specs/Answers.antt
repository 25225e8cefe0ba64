-- Document 02, request 1: what a card in SPI answers of its status, and what of it the answer clears.
-- Assumes nothing.
use Rattle.std.specs.Prelude.{Bool, List, [], ◌∷◌, ◌++◌, map, ℕ, ◌+◌, ◌*◌, ◌^◌, max, length}
use Rattle.status.specs.Bits.{bit_at}
use Rattle.status.specs.ErrorBits.{place_of, error_bit}
use Rattle.status.specs.Status.{without, flag}
use Rattle.status.specs.declared.ErrorBit.{ErrorBit}
use Rattle.status.specs.declared.Errors.{Errors}

-- R1 "as one byte (from bit 6 down: status 31 or 29, 30, 28, 23, 22, 13, idle after the command)"
abbrev pub first : List (List ErrorBit)
first =
    (error_bit 31 ∷ error_bit 29 ∷ []) ∷ (error_bit 30 ∷ []) ∷ (error_bit 28 ∷ []) ∷ (error_bit 23 ∷ []) ∷ (error_bit 22 ∷ []) ∷ (error_bit 13 ∷ []) ∷ []

-- R2 "as two (second: 31, 27, 26, three 0, 15 or 24, locked)"
abbrev pub second : List (List ErrorBit)
second =
    (error_bit 31 ∷ []) ∷ (error_bit 27 ∷ []) ∷ (error_bit 26 ∷ []) ∷ [] ∷ [] ∷ [] ∷ (error_bit 15 ∷ error_bit 24 ∷ []) ∷ []

-- 1 if a status bit of the list is set, else 0
abbrev pub any_of : Errors → List ErrorBit → ℕ
any_of errors [] = 0
any_of errors (b ∷ bs) = max (bit_at (place_of b) errors.bits) (any_of errors bs)

-- a number by its bits, from the highest down
abbrev pub spelled : List ℕ → ℕ
spelled [] = 0
spelled (b ∷ bs) = b * 2 ^ length bs + spelled bs

-- the bits that say which status bits of the lists are set, and last the flag
abbrev pub byte_of : Errors → List (List ErrorBit) → Bool → ℕ
byte_of errors lists last = spelled (map (any_of errors) lists ++ flag last ∷ [])

unfoldable pub r1_of : Errors → Bool → ℕ
r1_of errors idle = byte_of errors first idle

unfoldable pub second_of : Errors → Bool → ℕ
second_of errors locked = byte_of errors second locked

-- "an answer clears the bits it shows": those that its lists name, one after the other
abbrev pub clears : List ErrorBit → Errors → Errors
clears [] errors = errors
clears (b ∷ bs) errors = clears bs (record { bits = without (b ∷ []) errors.bits })

abbrev pub clears_all : List (List ErrorBit) → Errors → Errors
clears_all [] errors = errors
clears_all (bs ∷ lists) errors = clears_all lists (clears bs errors)

unfoldable pub cleared_r1 : Errors → Errors
cleared_r1 errors = clears_all first errors

unfoldable pub cleared_r2 : Errors → Errors
cleared_r2 errors = clears_all second (clears_all first errors)
