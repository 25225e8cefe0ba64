-- A word with one bit flipped.
-- Assumes nothing.
use Rattle.std.specs.Prelude.{List, ℕ, ◌-◌, get_or, set}

-- bit k is the other one, and all else as it was
abbrev pub flip : ℕ → List ℕ → List ℕ
flip k w = set w k (1 - get_or w k 0)
