-- What a card sends at a command on the bus. One that loses CMD2 sends nothing (`lost_unchanged` of command).
--   cid_won     a card in the state Ready that wins CMD2 sends its CID
-- Assumes nothing.
use mathlib.Core.Path.{◌≡◌, refl, ap}
use mathlib.Core.Bool.{true, false≢true}
use Prim.Native.Nat.{ℕ}
use lib.Dec.{eqb}
use Rattle.command.specs.Answers.{response_of, answered}
use Rattle.command.specs.Command.{met_by, received_of, taken_of, moved_by, command_of}
use Rattle.command.specs.declared.Met.{Met}
use Rattle.card_record.specs.declared.Sent.TheVariants.{Cid}
use Rattle.moves.specs.Moves.{move_of}
use Rattle.moves.specs.Rows.{row_of}
use Rattle.moves.specs.declared.Row.TheVariants.{AllSendCidWon}
use Rattle.card_record.specs.declared.Card.{Card}
use Rattle.card_record.specs.declared.Link.{Link}
use Rattle.states.specs.States.{column_of, column_number}
use Rattle.states.specs.declared.Column.{Column}
use Rattle.states.specs.declared.Column.TheVariants.{Idle, Ready, Ident, Stby, Tran, Data, Rcv, Prg, Dis, Ina}

ready_column : (column : Column) → eqb (column_number column) 1 ≡ true → column ≡ Ready
ready_column Idle e = absurd (false≢true e)
ready_column Ready e = refl
ready_column Ident e = absurd (false≢true e)
ready_column Stby e = absurd (false≢true e)
ready_column Tran e = absurd (false≢true e)
ready_column Data e = absurd (false≢true e)
ready_column Rcv e = absurd (false≢true e)
ready_column Prg e = absurd (false≢true e)
ready_column Dis e = absurd (false≢true e)
ready_column Ina e = absurd (false≢true e)

won_sent : (link : Link) (met : Met) (argument : ℕ) (column : Column) → column ≡ Ready
    → (moved_by link met (received_of link met 2 argument) AllSendCidWon (move_of AllSendCidWon column)).sent ≡ Cid
unfolding move_of taken_of answered response_of
won_sent link met argument column e =
    ap (λ (k : Column). (moved_by link met (received_of link met 2 argument) AllSendCidWon (move_of AllSendCidWon k)).sent) e

pub cid_won : (card : Card) (argument : ℕ) → eqb (column_number (column_of card.link.state)) 1 ≡ true
    → (command_of card.link (met_by card true) 2 argument).sent ≡ Cid
unfolding command_of row_of
cid_won card argument r =
    won_sent card.link (met_by card true) argument (column_of card.link.state) (ready_column (column_of card.link.state) r)
