-- A command that leaves a card alone.
--   left_alone   the card is as it was, sends nothing, and nothing changes in what is lent
-- Assumes nothing.
use mathlib.Core.Path.{◌≡◌, refl}
use mathlib.Core.Bool.{true, false≢true}
use Prim.Native.Nat.{ℕ}
use Rattle.command.specs.Answers.{silent}
use Rattle.command.specs.Command.{received_of, moved_by, command_of, decided_of, alone, leaves_alone}
use Rattle.command.specs.declared.Met.{Met}
use Rattle.moves.specs.Moves.{move_of}
use Rattle.moves.specs.Rows.{row_of}
use Rattle.moves.specs.declared.Received.{Received}
use Rattle.moves.specs.declared.Move.{Move}
use Rattle.moves.specs.declared.Move.TheVariants.{Ignored, Silent, Illegal, To}
use Rattle.moves.specs.declared.Row.{Row}
use Rattle.card_record.specs.declared.Link.{Link}
use Rattle.states.specs.States.{column_of}

moved_alone : (link : Link) (met : Met) (asked : Received) (row : Row) (move : Move) → alone move ≡ true
    → moved_by link met asked row move ≡ silent link
moved_alone link met asked row Ignored e = refl
moved_alone link met asked row Silent e = refl
moved_alone link met asked row Illegal e = absurd (false≢true e)
moved_alone link met asked row (To column) e = absurd (false≢true e)

pub left_alone : (link : Link) (met : Met) (index argument : ℕ) → leaves_alone (decided_of link met index argument) ≡ true
    → command_of link met index argument ≡ silent link
unfolding command_of
left_alone link met index argument e =
    let asked : Received = received_of link met index argument in
    moved_alone link met asked (row_of asked) (move_of (row_of asked) (column_of link.state)) e
