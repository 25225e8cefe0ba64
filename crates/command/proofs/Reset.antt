-- CMD0 has no case of its own in the answers: its row answers nothing, and after it there is no error bit to clear.
--   go_idle    silent, and as after power-on; in Inactive silent, unchanged
-- Assumes nothing.
use mathlib.Core.Path.{◌≡◌, refl}
use Prim.Native.Nat.{ℕ}
use lib.Dec.{eqb}
use Rattle.base.specs.Choice.{pick}
use Rattle.command.specs.Answers.{response_of, silent, answered}
use Rattle.command.specs.Command.{received_of, taken_of, moved_by, command_of}
use Rattle.command.specs.Obey.{acted_of}
use Rattle.command.specs.declared.Met.{Met}
use Rattle.moves.specs.Moves.{move_of}
use Rattle.moves.specs.Rows.{row_of}
use Rattle.moves.specs.declared.Row.TheVariants.{GoIdleState}
use Rattle.card_record.specs.Power.{fresh_link}
use Rattle.card_record.specs.declared.Link.{Link}
use Rattle.states.specs.States.{column_of, column_number}
use Rattle.states.specs.declared.Column.{Column}
use Rattle.states.specs.declared.Column.TheVariants.{Idle, Ready, Ident, Stby, Tran, Data, Rcv, Prg, Dis, Ina}

module _ (link : Link) (met : Met) (argument : ℕ) where
  from : (column : Column)
      → moved_by link met (received_of link met 0 argument) GoIdleState (move_of GoIdleState column)
      ≡ pick (eqb (column_number column) 9) (silent link) (silent fresh_link)
  unfolding move_of taken_of acted_of answered response_of fresh_link
  from Idle = refl
  from Ready = refl
  from Ident = refl
  from Stby = refl
  from Tran = refl
  from Data = refl
  from Rcv = refl
  from Prg = refl
  from Dis = refl
  from Ina = refl

  pub go_idle : command_of link met 0 argument ≡ pick (eqb (column_number (column_of link.state)) 9) (silent link) (silent fresh_link)
  unfolding command_of row_of
  go_idle = from (column_of link.state)
