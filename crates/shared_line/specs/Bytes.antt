-- The line as code keeps it: in bytes, ANDed with one frame after the other. That this is what the line shows bit by bit is proved
-- (`together_is_and` in proofs/Together).
-- Assumes nothing.
use Rattle.std.specs.Prelude.{true, List, [], ◌∷◌, ℕ}
use Rattle.std.specs.Int.Bits.{bit_and}
use Rattle.crc.specs.Bits.{bits}
use Rattle.shared_line.specs.Line.{Sender}

-- a card that sends these bytes to their end
abbrev pub sending : List ℕ → Sender
sending frame = record { on = true; bits = bits frame }

-- the line ANDed with a frame from the front; behind the frame's last byte the line stays
unfoldable pub anded : List ℕ → List ℕ → List ℕ
anded [] ys = []
anded (x ∷ xs) [] = x ∷ xs
anded (x ∷ xs) (y ∷ ys) = bit_and x y ∷ anded xs ys

-- and with each of these frames
unfoldable pub anded_all : List ℕ → List (List ℕ) → List ℕ
anded_all line [] = line
anded_all line (frame ∷ frames) = anded_all (anded line frame) frames
