-- The text that programs print, in ASCII: 48 is the character 0, and 55 + 10 the character A.
-- Assumes nothing.
use Rattle.std.specs.Prelude.{List, [], ◌∷◌, ◌++◌, ℕ, zero, suc, ◌+◌, ◌/◌, ◌%◌, ltb}
use Rattle.base.specs.Choice.{pick}

-- the upper-case hex digit of a number below 16
abbrev pub digit_of : ℕ → ℕ
digit_of d = pick (ltb d 10) (48 + d) (55 + d)

-- two hex digits for each byte, the high one first
unfoldable pub hex_of : List ℕ → List ℕ
hex_of [] = []
hex_of (b ∷ l) = digit_of (b / 16) ∷ digit_of (b % 16) ∷ hex_of l

-- the decimal digits of a number that has at most k of them, with no leading zero: its last digit after those of its tenth, if it has any
unfoldable pub digits_of : ℕ → ℕ → List ℕ
digits_of zero n = []
digits_of (suc k) n = pick (ltb n 10) ((48 + n) ∷ []) (digits_of k (n / 10) ++ ((48 + n % 10) ∷ []))

-- 20 digits hold any 64-bit number
unfoldable pub decimal_of : ℕ → List ℕ
decimal_of n = digits_of 20 n
