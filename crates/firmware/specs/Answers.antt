-- What a call at a card tells C: its number, the thirteen numbers of the record, and how many bytes it wrote.
-- Assumes nothing.
use Rattle.std.specs.Prelude.{Bool, not, List, [], ◌∷◌, ◌++◌, ℕ, eqb, length, drop, get_or, set, Result, Option, Ok, Err, Some, None}
use Rattle.base.specs.Choice.{pick}
use Rattle.card_record.specs.declared.Card.{Card}
use Rattle.card_record.specs.declared.Sent.{Sent}
use Rattle.card_record.specs.declared.Sent.TheVariants.{Nothing, Status, Cid, Csd, Ocr, SpiR1, SpiR2, SpiR3, DataResponse}
use Rattle.command.specs.declared.Met.{Met}
use Rattle.crossing.specs.Record.{groups_of, locked_of, link_numbers, mode_numbers}
use Rattle.moves.specs.Indices.{among}
use Rattle.base.specs.declared.Refusal.{Refusal}

-- what C says of the line: 0 that the unit lost it, any other number that it won
abbrev pub won_by : ℕ → Bool
won_by won = not (eqb won 0)

-- and of the card's select line: 0 that it is high, any other number that it is low
abbrev pub selected_by : ℕ → Bool
selected_by selected = not (eqb selected 0)

-- what a command meets beside the link, at the card that numbers stand for
abbrev pub met_at : List ℕ → Bool → Met
met_at numbers wins = record { ocr = get_or numbers 12 0; groups = groups_of numbers; locked = locked_of numbers; wins = wins }

-- bytes or numbers at the front of what was lent, and the rest of it as it was: "Output past the answer's end is never written"
abbrev pub fronted : List ℕ → List ℕ → List ℕ
fronted told before = told ++ drop (length told) before

-- whether a call at a card that answers this number has left the record as it was: "Nothing changes in the record .. except: 3 sets bit 23 of
-- the card .. 16 to 21 at a card act as told below"
abbrev pub leaves_record : ℕ → Bool
leaves_record number = among number (1 ∷ 2 ∷ 6 ∷ 12 ∷ 15 ∷ [])

-- the thirteen numbers after a call that answers this number: at their front those that it tells, which is what it may change, and behind them
-- those that were lent. What is not told keeps its form, also where it is wider than its field or stands for nothing; so do all of them where
-- the record was left
abbrev pub numbers_after : ℕ → List ℕ → List ℕ → List ℕ
numbers_after number told before = pick (leaves_record number) before (fronted told before)

-- the same after a frame: "3 sets bit 23 of the card", so that of a damaged frame the number of the error bits alone is told, in its place; else
-- those of the link and the mode
abbrev pub frame_numbers : ℕ → Card → List ℕ → List ℕ
frame_numbers number next before =
    pick (leaves_record number) before
    (pick (eqb number 3) (set before 4 next.link.errors.bits) (fronted (link_numbers next.link ++ mode_numbers next.mode) before))

-- the state's number when work is done: "prg to tran and dis to stby, and .. no other"
abbrev pub worked_number : ℕ → ℕ
worked_number number = pick (eqb number 11) 4 (pick (eqb number 12) 3 number)

-- how many bytes a block out wrote
abbrev pub wrote_of : Result (Option ℕ) Refusal → ℕ
wrote_of (Ok None) = 0
wrote_of (Ok (Some n)) = n
wrote_of (Err refusal) = 0

-- the byte of an answer that has one alone, in SPI: R1 "as one byte", and "data responses"
abbrev pub byte_sent : Sent → List ℕ
byte_sent Nothing = []
byte_sent (Status index status) = []
byte_sent Cid = []
byte_sent Csd = []
byte_sent Ocr = []
byte_sent (SpiR1 first) = first ∷ []
byte_sent (SpiR2 first second) = []
byte_sent (SpiR3 first) = []
byte_sent (DataResponse response) = response ∷ []
