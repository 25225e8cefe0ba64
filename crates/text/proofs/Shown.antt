-- What the definitions of text give, computed: no leading zero, one digit for 0, and room for the largest 64-bit number. So a call that
-- wrote lower-case letters (`bytes`), nothing for 0 (`none`) or a leading zero (`hundred`) would not meet its contract.
-- Assumes nothing.
use mathlib.Core.Path.{◌≡◌, refl}
use mathlib.Core.List.{[], ◌∷◌}
use Rattle.text.specs.Text.{hex_of, digits_of, decimal_of}

bytes : hex_of (0 ∷ 0x9A ∷ 0xFF ∷ []) ≡ 48 ∷ 48 ∷ 57 ∷ 65 ∷ 70 ∷ 70 ∷ []
unfolding hex_of
bytes = refl

none : decimal_of 0 ≡ 48 ∷ []
unfolding decimal_of digits_of
none = refl

hundred : decimal_of 100 ≡ 49 ∷ 48 ∷ 48 ∷ []
unfolding decimal_of digits_of
hundred = refl

-- 18,446,744,073,709,551,615
largest : decimal_of 0xFFFFFFFFFFFFFFFF ≡ 49 ∷ 56 ∷ 52 ∷ 52 ∷ 54 ∷ 55 ∷ 52 ∷ 52 ∷ 48 ∷ 55 ∷ 51 ∷ 55 ∷ 48 ∷ 57 ∷ 53 ∷ 53 ∷ 49 ∷ 54 ∷ 49 ∷ 53 ∷ []
unfolding decimal_of digits_of
largest = refl
