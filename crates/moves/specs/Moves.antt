-- Document 01, "How a card takes a frame": "The legal moves stand as one fixed table". Where the table has an entry for each command in
-- each state, these rules say which commands move from where to where, and which check stops the others.
-- Assumes nothing.
use Rattle.std.specs.Prelude.{Bool, List, [], ◌∷◌, map, ℕ, eqb}
use Rattle.base.specs.Choice.{pick}
use Rattle.states.specs.States.{column_number}
use Rattle.states.specs.declared.Column.{Column}
use Rattle.states.specs.declared.Column.TheVariants.{Idle, Ready, Ident, Stby, Tran, Data, Rcv, Prg, Dis, Ina}
use Rattle.moves.specs.Indices.{among}
use Rattle.moves.specs.declared.Move.{Move}
use Rattle.moves.specs.declared.Move.TheVariants.{Ignored, Silent, Illegal, To}
use Rattle.moves.specs.declared.Row.{Row}
use Rattle.moves.specs.declared.Row.TheVariants.{GoIdleState, OpCondAsked, OpCondShared, OpCondApart, AllSendCidWon, AllSendCidLost, SetRelativeAddr, SetDsr, SelectCard, DeselectCard, SendRegister, StopTransmission, SendStatus, GoInactiveState, SetOrTag, Read, Write, Program, OtherAddress, Unsupported}

-- the rows in their order
abbrev pub row_number : Row → ℕ
row_number GoIdleState = 0
row_number OpCondAsked = 1
row_number OpCondShared = 2
row_number OpCondApart = 3
row_number AllSendCidWon = 4
row_number AllSendCidLost = 5
row_number SetRelativeAddr = 6
row_number SetDsr = 7
row_number SelectCard = 8
row_number DeselectCard = 9
row_number SendRegister = 10
row_number StopTransmission = 11
row_number SendStatus = 12
row_number GoInactiveState = 13
row_number SetOrTag = 14
row_number Read = 15
row_number Write = 16
row_number Program = 17
row_number OtherAddress = 18
row_number Unsupported = 19

-- a state, or a row, is one of those listed
abbrev pub in_state : Column → List Column → Bool
in_state column columns = among (column_number column) (map column_number columns)

abbrev pub in_row : Row → List Row → Bool
in_row row rows = among (row_number row) (map row_number rows)

-- from a state to a state
infixl 70 ◌to◌
abbrev pub ◌to◌ : Column → Column → Column × Column
◌to◌ from there = (from, there)

abbrev pub stays : Column → Column × Column
stays column = column to column

-- "stby, tran, data, rcv, prg, dis": "those six"
abbrev pub six : List Column
six = Stby ∷ Tran ∷ Data ∷ Rcv ∷ Prg ∷ Dis ∷ []

-- the table's column "Move"; CMD0 is "legal .. in every state but Inactive"
abbrev pub legal : Row → List (Column × Column)
legal GoIdleState = map (λ (from : Column). from to Idle) (Idle ∷ Ready ∷ Ident ∷ six)
legal OpCondAsked = stays Idle ∷ []
legal OpCondShared = Idle to Ready ∷ []
legal OpCondApart = Idle to Ina ∷ []
legal AllSendCidWon = Ready to Ident ∷ []
legal AllSendCidLost = []
legal SetRelativeAddr = Ident to Stby ∷ []
legal SetDsr = []
legal SelectCard = Stby to Tran ∷ Dis to Prg ∷ []
legal DeselectCard = Tran to Stby ∷ Data to Stby ∷ Prg to Dis ∷ []
legal SendRegister = stays Stby ∷ []
legal StopTransmission = Data to Tran ∷ Rcv to Prg ∷ []
legal SendStatus = map stays six
legal GoInactiveState = map (λ (from : Column). from to Ina) six
legal SetOrTag = stays Tran ∷ []
legal Read = Tran to Data ∷ []
legal Write = Tran to Rcv ∷ []
legal Program = Tran to Prg ∷ []
legal OtherAddress = []
legal Unsupported = []

-- where the legal moves lead from a state, or else a mark
abbrev pub leads : List (Column × Column) → Column → Move → Move
leads [] column mark = mark
leads (pair ∷ pairs) column mark = pick (eqb (column_number column) (column_number pair.0)) (To pair.1) (leads pairs column mark)

-- check 3: "CMD9, 10, 13, 15 for another address .. CMD4 always; CMD1, 2, 3 outside their state", and a loser of CMD2
abbrev pub unjudged : List Row
unjudged = OtherAddress ∷ SetDsr ∷ OpCondAsked ∷ OpCondShared ∷ OpCondApart ∷ AllSendCidWon ∷ AllSendCidLost ∷ SetRelativeAddr ∷ []

-- check 4: "in tran, data, rcv or prg, silent with bit 22; elsewhere silent, unchanged"
abbrev pub no_legal_move : Column → Move
no_legal_move column = pick (in_state column (Tran ∷ Data ∷ Rcv ∷ Prg ∷ [])) Illegal Ignored

-- where a row leads from a state: check 1, "Inactive: silent, unchanged"; the legal moves; check 3; "CMD7 for another address in rcv is
-- silent, unchanged"; check 4
unfoldable pub move_of : Row → Column → Move
move_of row column =
    pick (in_state column (Ina ∷ [])) Ignored
    (leads (legal row) column (pick (in_row row unjudged) Silent (pick (in_row row (DeselectCard ∷ [])) Ignored (no_legal_move column))))
