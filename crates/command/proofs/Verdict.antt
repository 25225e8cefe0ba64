-- Who wins the line: a command asks it in CMD2 alone, and a card that lost is as if it had heard nothing.
--   any_wins          but for CMD2, a command does not ask who wins
--   lost_unchanged    CMD2 at a card that lost: nothing sent, nothing changed
-- Assumes nothing.
use mathlib.Core.Path.{◌≡◌, refl, ap, ◌∙◌}
use mathlib.Core.Bool.{Bool, false}
use Prim.Native.Nat.{ℕ}
use lib.Dec.{eqb}
use Rattle.command.specs.Answers.{silent}
use Rattle.command.specs.Command.{met_by, received_of, taken_of, moved_by, command_of}
use Rattle.command.specs.Obey.{acted_of}
use Rattle.command.specs.declared.Commanded.{Commanded}
use Rattle.command.specs.declared.Met.{Met}
use Rattle.moves.specs.Moves.{move_of}
use Rattle.moves.specs.Rows.{row_of}
use Rattle.moves.specs.declared.Received.{Received}
use Rattle.moves.specs.declared.Move.{Move}
use Rattle.moves.specs.declared.Move.TheVariants.{Ignored, Silent, Illegal, To}
use Rattle.moves.specs.declared.Row.{Row}
use Rattle.moves.specs.declared.Row.TheVariants.{AllSendCidLost}
use Rattle.card_record.specs.declared.Card.{Card}
use Rattle.card_record.specs.declared.Link.{Link}
use Rattle.states.specs.States.{column_of}
use Rattle.states.specs.declared.Column.{Column}
use Rattle.states.specs.declared.Column.TheVariants.{Idle, Ready, Ident, Stby, Tran, Data, Rcv, Prg, Dis, Ina}

-- ---- every command but CMD2
module _ (card : Card) (v w : Bool) (index argument : ℕ) where
  abbrev asked_by : Bool → Received
  asked_by wins = received_of card.link (met_by card wins) index argument

  row_same : eqb index 2 ≡ false → row_of (asked_by v) ≡ row_of (asked_by w)
  unfolding row_of
  row_same t = simp t

  abbrev moved : Bool → Row → Move → Commanded
  moved wins = moved_by card.link (met_by card wins) (asked_by wins)

  moved_same : (row : Row) (move : Move) → moved v row move ≡ moved w row move
  unfolding taken_of acted_of
  moved_same row Ignored = refl
  moved_same row Silent = refl
  moved_same row Illegal = refl
  moved_same row (To column) = refl

  pub any_wins : eqb index 2 ≡ false
      → command_of card.link (met_by card v) index argument ≡ command_of card.link (met_by card w) index argument
  unfolding command_of
  any_wins t =
      ap (λ (row : Row). moved v row (move_of row (column_of card.link.state))) (row_same t)
      ∙ moved_same (row_of (asked_by w)) (move_of (row_of (asked_by w)) (column_of card.link.state))

-- ---- CMD2
lost_silent : (link : Link) (met : Met) (asked : Received) (column : Column)
    → moved_by link met asked AllSendCidLost (move_of AllSendCidLost column) ≡ silent link
unfolding move_of
lost_silent link met asked Idle = refl
lost_silent link met asked Ready = refl
lost_silent link met asked Ident = refl
lost_silent link met asked Stby = refl
lost_silent link met asked Tran = refl
lost_silent link met asked Data = refl
lost_silent link met asked Rcv = refl
lost_silent link met asked Prg = refl
lost_silent link met asked Dis = refl
lost_silent link met asked Ina = refl

pub lost_unchanged : (card : Card) (argument : ℕ) → command_of card.link (met_by card false) 2 argument ≡ silent card.link
unfolding command_of row_of
lost_unchanged card argument =
    lost_silent card.link (met_by card false) (received_of card.link (met_by card false) 2 argument) (column_of card.link.state)
