-- Document 01, "Frames and blocks" (000, 7.1): the check sums are remainders of long division over GF(2).
-- A polynomial of degree below k is a number below 2 ^ k: bit j is the coefficient of x^j. Sums and differences are bit_xor.
-- Assumes nothing.
use Rattle.std.specs.Prelude.{List, [], ◌∷◌, ◌++◌, ℕ, ◌+◌, ◌*◌, ◌^◌, leb, replicate}
use Rattle.std.specs.Int.Bits.{bit_xor}
use Rattle.base.specs.Choice.{pick}
use Rattle.crc.specs.Bits.{bits}

-- one step of the division by g, whose degree is n: the divisor is taken away where its degree is reached
abbrev pub reduced : (n g u : ℕ) → ℕ
reduced n g u = pick (leb (2 ^ n) u) (bit_xor u g) u

-- long division by g, whose degree is n: what is left so far, times x, plus the next bit, reduced; what stays is the remainder
unfoldable pub divide : (n g : ℕ) → ℕ → List ℕ → ℕ
divide n g s [] = s
divide n g s (a ∷ l) = divide n g (reduced n g (s * 2 + a)) l

-- the remainder of the bits times x^n
unfoldable pub remainder : (n g : ℕ) → List ℕ → ℕ
remainder n g l = divide n g 0 (l ++ replicate n 0)

-- the same of bytes
unfoldable pub check_sum : (n g : ℕ) → List ℕ → ℕ
check_sum n g bytes = remainder n g (bits bytes)

-- "x^7+x^3+1"
abbrev pub generator7 : ℕ
generator7 = 2 ^ 7 + 2 ^ 3 + 1

-- "x^16+x^12+x^5+1"
abbrev pub generator16 : ℕ
generator16 = 2 ^ 16 + 2 ^ 12 + 2 ^ 5 + 1

-- the CRC7 of bytes
unfoldable pub crc7 : List ℕ → ℕ
crc7 = check_sum 7 generator7

-- the CRC16 of bytes
unfoldable pub crc16 : List ℕ → ℕ
crc16 = check_sum 16 generator16
