-- Document 01, "How a card takes a frame", checks 1, 3 and 4: the commands that a card in MMC mode passes over in silence; and whole frames
-- that change nothing lent, in MMC mode and in SPI.
-- Assumes nothing.
use Rattle.std.specs.Prelude.{◌≡◌, Bool, true, false, ◌&&◌, List, [], ◌∷◌, ℕ, ◌/◌, eqb, length, Ok, None}
use Rattle.base.specs.Choice.{pick}
use Rattle.card_blocks.specs.Replies.{replied}
use Rattle.card.specs.Frame.{hearing}
use Rattle.card.specs.Step.{step_of, lent_after, output_of}
use Rattle.card.specs.declared.Call.TheVariants.{Frame}
use Rattle.command.specs.Answers.{silent}
use Rattle.command.specs.Command.{received_of, command_of}
use Rattle.command.specs.declared.Met.{Met}
use Rattle.moves.specs.Indices.{among}
use Rattle.moves.specs.Moves.{in_state, in_row, legal, unjudged, move_of}
use Rattle.moves.specs.Rows.{row_of}
use Rattle.moves.specs.declared.Move.TheVariants.{To}
use Rattle.moves.specs.declared.Row.{Row}
use Rattle.moves.specs.declared.Row.TheVariants.{DeselectCard}
use Rattle.card_record.specs.Record.{with_errors}
use Rattle.card_record.specs.declared.Card.{Card}
use Rattle.card_record.specs.declared.Link.{Link}
use Rattle.spi.specs.declared.Heard.{Heard}
use Rattle.states.specs.States.{column_of, column_number}
use Rattle.states.specs.declared.Column.{Column}
use Rattle.states.specs.declared.Column.TheVariants.{Idle, Ready, Ident, Tran, Data, Rcv, Prg}
use Rattle.status.specs.ErrorBits.{error_bit}
use Rattle.status.specs.Status.{with_bit}
use Rattle.store.specs.Lent.{Lent, seen, lending_of}
use Rattle.wire.specs.Frames.{frame_of, as_command}

-- the table's column "Move" has nothing for a state
abbrev pub none_from : Column → List (Column × Column) → Bool
none_from column [] = true
none_from column (pair ∷ pairs) = pick (eqb (column_number column) (column_number pair.0)) false (none_from column pairs)

-- the card is in one of these states, or in none of them
abbrev pub In : Link → List Column → Type 0
In link columns = in_state (column_of link.state) columns ≡ true

abbrev pub Outside : Link → List Column → Type 0
Outside link columns = in_state (column_of link.state) columns ≡ false

-- "argument bits 31..16" are not the card's address
abbrev pub ForAnother : Link → ℕ → Type 0
ForAnother link argument = argument / 65536 ≡ link.address → ⊥

module _ (link : Link) (met : Met) (index argument : ℕ) where
  -- the line of the table that the command falls in at this card
  abbrev pub row : Row
  row = row_of (received_of link met index argument)

  -- "A command is taken if it passes checks 1 to 4": the table has a move for it
  abbrev pub Taken : Column → Type 0
  Taken column = move_of row (column_of link.state) ≡ To column

  -- "silent, unchanged": nothing sent, every field of the record as it was, and nothing that is lent changed
  abbrev pub Unchanged : Type 0
  Unchanged = command_of link met index argument ≡ silent link

  -- "silent with bit 22": that bit alone
  abbrev pub Marked : Type 0
  Marked = command_of link met index argument ≡ silent (with_errors link (with_bit link.errors (error_bit 22)))

  -- all that can become of a command
  pub data Judged : Type 0 where
    taken : (column : Column) → Taken column → Judged
    unchanged : Unchanged → Judged
    marked : In link (Tran ∷ Data ∷ Rcv ∷ Prg ∷ []) → Marked → Judged

  -- check 3: "CMD9, 10, 13, 15 for another address (argument bits 31..16) .. CMD4 always; CMD1, 2, 3 outside their state"; "a losing CMD2
  -- is not taken"
  pub data PassedOver : Type 0 where
    another_address : among index (9 ∷ 10 ∷ 13 ∷ 15 ∷ []) ≡ true → ForAnother link argument → PassedOver
    set_dsr : index ≡ 4 → PassedOver
    op_cond : index ≡ 1 → Outside link (Idle ∷ []) → PassedOver
    all_send_cid : index ≡ 2 → Outside link (Ready ∷ []) → PassedOver
    lost : index ≡ 2 → met.wins ≡ false → PassedOver
    relative_address : index ≡ 3 → Outside link (Ident ∷ []) → PassedOver

  -- check 4: "No legal move", of a command that check 3 lets on and that is not CMD7 for another address
  pub record NoLegalMove : Type 0 where
    pub judged : in_row row unjudged ≡ false
    pub selects : in_row row (DeselectCard ∷ []) ≡ false
    pub stuck : none_from (column_of link.state) (legal row) ≡ true

-- a frame that is no refusal in either mode: "Frame: 1, 2, 3; at a card 12 comes first". (`crc_unread` has those of which SPI reads no CRC7)
pub record Reads (card : Card) (frame : List ℕ) (lent : Lent) (index argument : ℕ) : Type 0 where
  pub right : lending_of (seen lent) card.registers.groups ≡ Ok tt
  pub command : frame_of frame ≡ Ok (as_command index argument)

-- a card takes a command as document 01 has it: in MMC mode, and not where "CMD0 comes with its select line low"
pub record InMmc (card : Card) (selected : Bool) (index : ℕ) : Type 0 where
  pub mmc : card.mode.spi ≡ false
  pub enters_not : (selected && eqb index 0) ≡ false

-- a frame whose command leaves this, and that changes no lent byte
pub record Unlent (card : Card) (wins selected : Bool) (frame : List ℕ) (lent : Lent) (out : List ℕ) (heard : Heard) : Type 0 where
  pub step : step_of card (Frame wins selected) frame (seen lent) (length out) ≡ replied (hearing card heard) (Ok None) heard.sent
  pub lent_kept : lent_after card (Frame wins selected) frame lent ≡ lent
  pub output_kept : output_of card (Frame wins selected) lent out ≡ out
