-- What it is to be the remainder of a division over GF(2): what was divided is a multiple of the divisor, plus the remainder, which has
-- a lower degree than the divisor; and there is no other. A quotient is a list of bits, highest first, each true for 1.
-- Assumes nothing.
use Rattle.std.specs.Prelude.{◌≡◌, Bool, List, [], ◌∷◌, ℕ, ◌*◌, ◌^◌, ◌<◌}
use Rattle.std.specs.Int.Bits.{bit_xor}
use Rattle.base.specs.Choice.{pick}
use Rattle.crc.specs.Bits.{spelt}

-- the divisor g times a quotient, where the bits before these made s: times x, plus the divisor where the bit is 1
abbrev pub product_on : ℕ → ℕ → List Bool → ℕ
product_on g s [] = s
product_on g s (t ∷ q) = product_on g (bit_xor (s * 2) (pick t g 0)) q

-- the divisor g times a quotient
abbrev pub product : ℕ → List Bool → ℕ
product g q = product_on g 0 q

-- r is the remainder of the bits l by g, whose degree is n: they are a multiple of g, plus r; r has a lower degree; no other s is so
pub record IsRemainder (n g : ℕ) (l : List ℕ) (r : ℕ) : Type 0 where
  pub times : List Bool
  pub sum : spelt l ≡ bit_xor (product g times) r
  pub lower : r < 2 ^ n
  pub only : (q : List Bool) (s : ℕ) → s < 2 ^ n → spelt l ≡ bit_xor (product g q) s → s ≡ r
