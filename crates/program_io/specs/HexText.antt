-- Bytes as programs print them.
-- Assumes nothing.
use Rattle.std.specs.Prelude.{List, [], ◌∷◌, ℕ}
use Rattle.text.specs.Text.{hex_of}

-- two upper-case hex digits for each byte; `-` for none
abbrev pub shown_hex : List ℕ → List ℕ
shown_hex [] = 45 ∷ []
shown_hex (b ∷ bytes) = hex_of (b ∷ bytes)
