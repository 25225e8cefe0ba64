-- Document 01, "The shared line": "A 0 beats a 1. In CMD2 every Ready card sends its CID highest bit first and falls silent at a bit where
-- it sends 1 and the line shows 0. Other answers show as the bitwise AND. No sender means no answer."
-- Assumes nothing.
use Rattle.std.specs.Prelude.{Bool, ◌&&◌, List, [], ◌∷◌, map, ℕ, zero, suc, min, leb}
use Rattle.base.specs.Choice.{pick}

-- a card on the line: whether it sends, and the bits that it has yet to send, the next one first
pub record Sender : Type 0 where
  pub on : Bool
  pub bits : List ℕ

-- its next bit; behind its last it lets the line be
abbrev pub top : List ℕ → ℕ
top [] = 1
top (b ∷ bs) = b

abbrev pub rest : List ℕ → List ℕ
rest [] = []
rest (b ∷ bs) = bs

-- what a card puts on the line: its bit while it sends, else it lets the line at 1
abbrev pub sends : Sender → ℕ
sends s = pick s.on (top s.bits) 1

-- "A 0 beats a 1": the line is at 0 where anyone sends a 0
unfoldable pub line : List Sender → ℕ
line [] = 1
line (s ∷ ss) = min (sends s) (line ss)

-- each goes on to its next bit
abbrev pub onward : Sender → Sender
onward s = record { on = s.on; bits = rest s.bits }

-- ".. and falls silent at a bit where it sends 1 and the line shows 0"
abbrev pub heard : ℕ → Sender → Sender
heard shows s = record { on = s.on && leb (top s.bits) shows; bits = rest s.bits }

-- what the line shows in n bits, where losers fall silent: the answers to CMD2
unfoldable pub contested : ℕ → List Sender → List ℕ
contested zero ss = []
contested (suc n) ss = line ss ∷ contested n (map (heard (line ss)) ss)

-- whether the card s, one of ss, is heard to the end of n bits
unfoldable pub wins : ℕ → List Sender → Sender → Bool
wins zero ss s = s.on
wins (suc n) ss s = wins n (map (heard (line ss)) ss) (heard (line ss) s)

-- what the line shows in n bits, where all go on: "Other answers show as the bitwise AND"
unfoldable pub together : ℕ → List Sender → List ℕ
together zero ss = []
together (suc n) ss = line ss ∷ together n (map onward ss)
