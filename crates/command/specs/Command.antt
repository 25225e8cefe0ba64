-- Document 01, "How a card takes a frame": the six checks in order, from check 1 on, and the legal moves.
-- Assumes nothing.
use Rattle.std.specs.Prelude.{Bool, true, false, ℕ, eqb}
use Rattle.base.specs.Choice.{pick}
use Rattle.moves.specs.Moves.{move_of}
use Rattle.moves.specs.Rows.{row_of}
use Rattle.moves.specs.declared.Received.{Received}
use Rattle.moves.specs.declared.Move.{Move}
use Rattle.moves.specs.declared.Move.TheVariants.{Ignored, Silent, Illegal, To}
use Rattle.moves.specs.declared.Row.{Row}
use Rattle.card_record.specs.Record.{with_errors}
use Rattle.card_record.specs.declared.Card.{Card}
use Rattle.card_record.specs.declared.Link.{Link}
use Rattle.states.specs.States.{column_of, column_number}
use Rattle.states.specs.declared.Column.{Column}
use Rattle.status.specs.ErrorBits.{error_bit}
use Rattle.status.specs.Status.{with_bit}
use Rattle.command.specs.Answers.{response_of, silent, answered}
use Rattle.command.specs.Obey.{acted_of}
use Rattle.command.specs.declared.Commanded.{Commanded}
use Rattle.command.specs.declared.Decided.{Decided}
use Rattle.command.specs.declared.Met.{Met}

-- what a command meets at a card, beside its link: in CMD2 the card "wins", or is "a loser". "In its own call a card is alone on the line, so
-- CMD2 wins"; on a shared line it does if its CID is heard to the last bit
abbrev pub met_by : Card → Bool → Met
met_by card wins = record { ocr = card.registers.ocr; groups = card.registers.groups; locked = card.lock.locked; wins = wins }

-- a command as it meets a card
abbrev pub received_of : Link → Met → ℕ → ℕ → Received
received_of link met index argument =
    record { index = index; argument = argument; address = link.address; ocr = met.ocr; wins = met.wins }

-- check 2: "CRC7 wrong: silent, bit 23 set", and "3 sets bit 23 of the card .. unless Inactive"
unfoldable pub damaged_link : Link → Link
damaged_link link = pick (eqb (column_number (column_of link.state)) 9) link (with_errors link (with_bit link.errors (error_bit 23)))

-- a taken command: what it does, and what it answers
unfoldable pub taken_of : Link → Met → Received → Row → Column → Commanded
taken_of link met asked row column =
    answered (acted_of link met asked.index asked.argument column) (response_of row) asked.index met.locked (column_of link.state)

-- checks 1, 3 and 4, which the table's marks stand for: ignored and silent change nothing, illegal is "silent with bit 22"
abbrev pub moved_by : Link → Met → Received → Row → Move → Commanded
moved_by link met asked row Ignored = silent link
moved_by link met asked row Silent = silent link
moved_by link met asked row Illegal = silent (with_errors link (with_bit link.errors (error_bit 22)))
moved_by link met asked row (To column) = taken_of link met asked row column

-- what checks 1, 3 and 4 find: the row that a command falls in at a card, and where it leads from the card's state
abbrev pub decided_of : Link → Met → ℕ → ℕ → Decided
decided_of link met index argument =
    record {
      row = row_of (received_of link met index argument);
      next = move_of (row_of (received_of link met index argument)) (column_of link.state);
    }

-- a command of an index and an argument at a card
unfoldable pub command_of : Link → Met → ℕ → ℕ → Commanded
command_of link met index argument =
    moved_by link met (received_of link met index argument) (decided_of link met index argument).row (decided_of link met index argument).next

-- whether a move leaves a card as if it had heard nothing (`left_alone` in proofs/Alone)
abbrev pub alone : Move → Bool
alone Ignored = true
alone Silent = true
alone Illegal = false
alone (To column) = false

abbrev pub leaves_alone : Decided → Bool
leaves_alone decided = alone decided.next
