-- What a card sends at a command can be written.
--   sendable    an index that a frame can have is one that an R1 can have
-- Assumes nothing.
use mathlib.Core.Path.{◌≡◌}
use mathlib.Core.Bool.{true, false}
use Prim.Native.Nat.{ℕ, ◌≤◌}
use lib.Dec.{eqb}
use Rattle.base.proofs.Cases.{cases}
use Rattle.command.specs.Answers.{response_of, sent_of, answered}
use Rattle.command.specs.Command.{received_of, taken_of, moved_by, command_of}
use Rattle.command.specs.declared.Met.{Met}
use Rattle.command.specs.declared.Response.{Response}
use Rattle.command.specs.declared.Response.TheVariants.{Nothing as NoResponse, R1, R2, R3}
use Rattle.moves.specs.Moves.{move_of}
use Rattle.moves.specs.Rows.{row_of}
use Rattle.moves.specs.declared.Received.{Received}
use Rattle.moves.specs.declared.Move.{Move}
use Rattle.moves.specs.declared.Move.TheVariants.{Ignored, Silent, Illegal, To}
use Rattle.moves.specs.declared.Row.{Row}
use Rattle.card_record.specs.declared.Link.{Link}
use Rattle.states.specs.States.{column_of}
use Rattle.states.specs.declared.Column.{Column}
use Rattle.card_record.specs.Sending.{Sendable}

-- ---- the index of an R1
sent_sendable : (response : Response) (index status : ℕ) → index ≤ 63 → Sendable (sent_of response index status)
sent_sendable NoResponse index status h = tt
sent_sendable R1 index status h = h
sent_sendable R2 index status h = cases (eqb index 9) (λ (t : eqb index 9 ≡ true). rw t tt) (λ (t : eqb index 9 ≡ false). rw t tt)
sent_sendable R3 index status h = tt

module _ (link : Link) (met : Met) (asked : Received) (row : Row) (h : asked.index ≤ 63) where
  taken_sendable : (column : Column) → Sendable (taken_of link met asked row column).sent
  unfolding taken_of answered
  taken_sendable column = sent_sendable (response_of row) asked.index _ h

  moved_sendable : (move : Move) → Sendable (moved_by link met asked row move).sent
  moved_sendable Ignored = tt
  moved_sendable Silent = tt
  moved_sendable Illegal = tt
  moved_sendable (To column) = taken_sendable column

pub sendable : (link : Link) (met : Met) (index argument : ℕ) → index ≤ 63 → Sendable (command_of link met index argument).sent
unfolding command_of
sendable link met index argument h =
    let asked : Received = received_of link met index argument in
    moved_sendable link met asked (row_of asked) h (move_of (row_of asked) (column_of link.state))
