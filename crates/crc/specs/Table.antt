-- Document 01: "entry b is the remainder of b times x^16".
-- Assumes nothing.
use Rattle.std.specs.Prelude.{◌≡◌, List, [], ◌∷◌, ℕ, ◌<◌, get_or}

-- a table of the check sums of the single bytes
unfoldable pub Remainders : (List ℕ → ℕ) → List ℕ → Type 0
Remainders sum table = (b : ℕ) → b < 256 → get_or table b 0 ≡ sum (b ∷ [])
