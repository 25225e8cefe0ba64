-- Document 01, "How a card takes a frame": the table's column "Command", which row a command falls in at a card.
-- Assumes nothing.
use Rattle.std.specs.Prelude.{Bool, [], ◌∷◌, ℕ, ◌/◌, ◌%◌, eqb, ltb}
use Rattle.std.specs.Int.Bits.{bit_and}
use Rattle.base.specs.Choice.{pick}
use Rattle.moves.specs.Indices.{among}
use Rattle.moves.specs.declared.Received.{Received}
use Rattle.moves.specs.declared.Row.{Row}
use Rattle.moves.specs.declared.Row.TheVariants.{GoIdleState, OpCondAsked, OpCondShared, OpCondApart, AllSendCidWon, AllSendCidLost, SetRelativeAddr, SetDsr, SelectCard, DeselectCard, SendRegister, StopTransmission, SendStatus, GoInactiveState, SetOrTag, Read, Write, Program, OtherAddress, Unsupported}

-- own: "argument bits 31..16" are the card's address
abbrev pub own : Received → Bool
own asked = eqb (asked.argument / 65536) asked.address

-- "Window means argument bits 23..0", and those of the OCR that it is held against
abbrev pub window : ℕ → ℕ
window word = word % 16777216

-- 1: "window 0 stays; window shares a bit with OCR, to ready; else to ina"
abbrev pub op_cond_row : ℕ → ℕ → Row
op_cond_row asked held = pick (eqb asked 0) OpCondAsked (pick (ltb 0 (bit_and asked held)) OpCondShared OpCondApart)

-- 2: "if it wins; a loser is unchanged and silent"
abbrev pub cid_row : Bool → Row
cid_row wins = pick wins AllSendCidWon AllSendCidLost

-- "7 own", "7 other"
abbrev pub select_row : Bool → Row
select_row own = pick own SelectCard DeselectCard

-- check 3: "CMD9, 10, 13, 15 for another address"
abbrev pub for_card : Bool → Row → Row
for_card own row = pick own row OtherAddress

-- the last four lines, and what no line has
unfoldable pub transfer_row : ℕ → Row
transfer_row index =
    pick (among index (16 ∷ 32 ∷ 33 ∷ 35 ∷ 36 ∷ [])) SetOrTag
    (pick (among index (17 ∷ 18 ∷ 30 ∷ [])) Read
    (pick (among index (24 ∷ 25 ∷ 42 ∷ [])) Write
    (pick (among index (28 ∷ 29 ∷ 38 ∷ [])) Program Unsupported)))

-- the column from the top, with CMD0 and CMD4 in their places
unfoldable pub row_of : Received → Row
row_of asked =
    pick (among asked.index (0 ∷ [])) GoIdleState
    (pick (among asked.index (1 ∷ [])) (op_cond_row (window asked.argument) (window asked.ocr))
    (pick (among asked.index (2 ∷ [])) (cid_row asked.wins)
    (pick (among asked.index (3 ∷ [])) SetRelativeAddr
    (pick (among asked.index (4 ∷ [])) SetDsr
    (pick (among asked.index (7 ∷ [])) (select_row (own asked))
    (pick (among asked.index (9 ∷ 10 ∷ [])) (for_card (own asked) SendRegister)
    (pick (among asked.index (12 ∷ [])) StopTransmission
    (pick (among asked.index (13 ∷ [])) (for_card (own asked) SendStatus)
    (pick (among asked.index (15 ∷ [])) (for_card (own asked) GoInactiveState) (transfer_row asked.index))))))))))
