-- What the line holds of the frames so far.
-- Assumes nothing.
use Rattle.std.specs.Prelude.{List, ℕ}

-- the bytes that it shows, and how many of them were sent: as many as the longest frame has
pub record OnLine : Type 0 where
  pub line : List ℕ
  pub length : ℕ
