-- What CMD2 and CMD3 do at one card, whatever its record is.
--   cid_sent         CMD2 of any argument: a card in Ready that wins goes to Identification and has no tags; every other card is as it was
--   address_taken    CMD3 with an address, whatever its bits 15..0 are: a card in Identification is reached; every other card is as it was
-- Assumes nothing.
use mathlib.Core.Path.{◌≡◌, refl}
use mathlib.Core.Bool.{Bool, true, false, ◌&&◌}
use Prim.Native.Nat.{ℕ, ◌/◌, ◌≤◌}
use borrow.Author.Tests.{le-leb}
use lib.Dec.{eqb}
use Rattle.base.specs.Choice.{pick}
use Rattle.command.specs.Answers.{response_of, answered, left_of}
use Rattle.command.specs.Arguments.{argument_fault}
use Rattle.command.specs.Command.{taken_of, command_of}
use Rattle.command.specs.Obey.{tagging_of, judged_of, reset_told, awaited_by, obeyed, after_checks, acted_of}
use Rattle.command.specs.declared.Met.{Met}
use Rattle.command.specs.declared.Response.TheVariants.{R2}
use Rattle.moves.specs.Classes.{class_of}
use Rattle.moves.specs.Moves.{move_of}
use Rattle.moves.specs.Rows.{row_of}
use Rattle.card_record.specs.Record.{with_state, with_errors, with_tags}
use Rattle.card_record.specs.declared.Link.{Link}
use Rattle.states.specs.States.{column_of, column_number}
use Rattle.states.specs.declared.State.{State}
use Rattle.states.specs.declared.State.TheVariants.{Idle, Ready, Ident, Stby, Tran, Data, Rcv, Prg, Dis, Ina}
use Rattle.tags.specs.Tagging.{no_tags}
use Rattle.rounds.specs.Demand3.{stood}

-- ---- CMD2
-- the link of a card that won: which error bits are pending is no matter here, since CMD3 clears them all
abbrev pub identified : Link → Link
identified link = with_tags (with_errors (with_state link Ident) (left_of R2 (reset_told link 2))) no_tags

abbrev pub met_of : ℕ → ℕ → Bool → Bool → Met
met_of ocr groups locked wins = record { ocr = ocr; groups = groups; locked = locked; wins = wins }

module _ (link : Link) (ocr groups argument : ℕ) where
  won : (locked : Bool) → (command_of (with_state link Ready) (met_of ocr groups locked true) 2 argument).link
      ≡ identified (with_state link Ready)
  unfolding command_of row_of move_of taken_of acted_of judged_of tagging_of argument_fault class_of after_checks answered response_of obeyed awaited_by
  won true = refl
  won false = refl

  -- in any other state it is silent
  sent : (locked : Bool) (state : State) → (command_of (with_state link state) (met_of ocr groups locked true) 2 argument).link
      ≡ pick (eqb (column_number (column_of state)) 1) (identified (with_state link state)) (with_state link state)
  unfolding command_of row_of move_of
  sent locked Idle = refl
  sent locked Ready = won locked
  sent locked Ident = refl
  sent locked Stby = refl
  sent locked Tran = refl
  sent locked (Data outgoing) = refl
  sent locked (Rcv incoming) = refl
  sent locked Prg = refl
  sent locked Dis = refl
  sent locked Ina = refl

  lost : (locked : Bool) (state : State) → (command_of (with_state link state) (met_of ocr groups locked false) 2 argument).link
      ≡ with_state link state
  unfolding command_of row_of move_of
  lost locked Idle = refl
  lost locked Ready = refl
  lost locked Ident = refl
  lost locked Stby = refl
  lost locked Tran = refl
  lost locked (Data outgoing) = refl
  lost locked (Rcv incoming) = refl
  lost locked Prg = refl
  lost locked Dis = refl
  lost locked Ina = refl

pub cid_sent : (link : Link) (ocr groups : ℕ) (locked wins : Bool) (argument : ℕ)
    → (command_of link (met_of ocr groups locked wins) 2 argument).link
    ≡ pick (wins && eqb (column_number (column_of link.state)) 1) (identified link) link
cid_sent link ocr groups locked true argument =
    sent link ocr groups argument locked link.state
cid_sent link ocr groups locked false argument =
    lost link ocr groups argument locked link.state

-- ---- CMD3
module _ (link : Link) (ocr groups : ℕ) (wins : Bool) (given argument : ℕ) (some : 1 ≤ given) (high : argument / 65536 ≡ given) where
  accepted : (locked : Bool) → (command_of (with_state link Ident) (met_of ocr groups locked wins) 3 argument).link
      ≡ stood given (with_state link Ident)
  unfolding command_of row_of move_of taken_of acted_of judged_of tagging_of argument_fault class_of after_checks answered response_of obeyed awaited_by
  accepted true = rw (high, le-leb 1 given some, high)
  accepted false = rw (high, le-leb 1 given some, high)

  taken : (locked : Bool) (state : State) → (command_of (with_state link state) (met_of ocr groups locked wins) 3 argument).link
      ≡ pick (eqb (column_number (column_of state)) 2) (stood given (with_state link state)) (with_state link state)
  unfolding command_of row_of move_of
  taken locked Idle = refl
  taken locked Ready = refl
  taken locked Ident = accepted locked
  taken locked Stby = refl
  taken locked Tran = refl
  taken locked (Data outgoing) = refl
  taken locked (Rcv incoming) = refl
  taken locked Prg = refl
  taken locked Dis = refl
  taken locked Ina = refl

pub address_taken : (link : Link) (ocr groups : ℕ) (locked wins : Bool) (address argument : ℕ) → 1 ≤ address → argument / 65536 ≡ address
    → (command_of link (met_of ocr groups locked wins) 3 argument).link
    ≡ pick (eqb (column_number (column_of link.state)) 2) (stood address link) link
address_taken link ocr groups locked wins address argument some high =
    taken link ocr groups wins address argument some high locked link.state
