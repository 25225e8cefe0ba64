-- Document 02, request 1, frames at a card: when 3 is given, what a line that is high leaves, and what becomes of a command in SPI.
-- Assumes nothing.
use Rattle.std.specs.Prelude.{◌≡◌, Bool, true, false, not, ◌&&◌, ◌||◌, List, ℕ, eqb, length, Result, Ok, Err}
use Rattle.card.specs.Frame.{hearing}
use Rattle.card.specs.Step.{step_of, lent_after, output_of}
use Rattle.card.specs.declared.Call.TheVariants.{Frame}
use Rattle.card_record.specs.declared.Card.{Card}
use Rattle.card_record.specs.declared.Mode.{Mode}
use Rattle.card_record.specs.declared.Sent.TheVariants.{Nothing, SpiR1}
use Rattle.command.specs.Command.{met_by}
use Rattle.command.specs.Obey.{reset_told}
use Rattle.command.specs.declared.Change.TheVariants.{Nothing as Unchanged}
use Rattle.moves.specs.declared.Move.TheVariants.{To}
use Rattle.spi.specs.Answers.{idle_in}
use Rattle.spi.specs.Hearing.{unheard, taken_in, heard_of}
use Rattle.spi.specs.declared.Heard.{Heard}
use Rattle.spi_answers.specs.Answers.{r1_of, cleared_r1}
use Rattle.spi_moves.specs.Moves.{row_of, move_of}
use Rattle.states.specs.States.{column_of}
use Rattle.states.specs.declared.Column.{Column}
use Rattle.status.specs.Status.{with_bit}
use Rattle.status.specs.declared.ErrorBit.{ErrorBit}
use Rattle.store.specs.Lent.{Lent, seen, lending_of}
use Rattle.tags.specs.Tagging.{no_tags}
use Rattle.wire.specs.Frames.{framing_of, as_fields}
use Rattle.demands.specs.Refused.{inactive, noted, cleared, r1_from}
use Rattle.base.specs.declared.Refusal.{Refusal}
use Rattle.wire.specs.declared.Fields.{Fields}

-- a frame that 12, 1 and 2 let on: it has an index, an argument, and a CRC7 that is right or wrong
pub record LetOn (card : Card) (frame : List ℕ) (lent : Lent) (index argument : ℕ) (right : Bool) : Type 0 where
  pub lent_right : lending_of (seen lent) card.registers.groups ≡ Ok tt
  pub framing : framing_of frame ≡ Ok (as_fields index argument right)

-- whether it is then refused 3: a wrong CRC7, and in SPI "3 (CMD0 apart) .. come[s] only with CRC on", while "CMD0 is always checked"
abbrev pub refuses3 : Mode → ℕ → Bool → Bool
refuses3 mode index right = not right && (not mode.spi || (mode.checks || eqb index 0))

-- "There a frame with the line high is ignored": the record equal in every field, nothing sent, nothing lent changed
pub record Ignored (card : Card) (wins : Bool) (frame : List ℕ) (lent : Lent) (out : List ℕ) : Type 0 where
  pub next : (step_of card (Frame wins false) frame (seen lent) (length out)).card ≡ card
  pub unsent : (step_of card (Frame wins false) frame (seen lent) (length out)).reply.sent ≡ Nothing
  pub lent_kept : lent_after card (Frame wins false) frame lent ≡ lent
  pub output_kept : output_of card (Frame wins false) lent out ≡ out

-- an undamaged CMD0
abbrev pub is_reset : Result Fields Refusal → Bool
is_reset (Err refusal) = false
is_reset (Ok fields) = fields.crc_right && eqb fields.index 0

-- with the line low a frame does what it does with the line high, to the card and to what it is lent
pub record LineUnread (card : Card) (wins : Bool) (frame : List ℕ) (lent : Lent) (room : ℕ) : Type 0 where
  pub step : step_of card (Frame wins true) frame (seen lent) room ≡ step_of card (Frame wins false) frame (seen lent) room
  pub lent_alike : lent_after card (Frame wins true) frame lent ≡ lent_after card (Frame wins false) frame lent

-- "Illegal commands are answered here": R1 shows bit 22, and clears it with the others that it shows; nothing else changes
pub record AnswersIllegal (card : Card) (heard : Heard) : Type 0 where
  pub answer : heard.sent ≡ r1_from (noted 22 card)
  pub next : hearing card heard ≡ cleared (noted 22 card)
  pub change : heard.change ≡ Unchanged

module _ (card : Card) (wins : Bool) (index argument : ℕ) where
  -- the command at this card, its line being low
  abbrev pub heard_low : Heard
  heard_low = heard_of card.mode true card.link (met_by card wins) index argument

  -- "A command is taken": SPI's table has a move for it
  abbrev pub TakenInSpi : Column → Type 0
  TakenInSpi column = move_of (row_of index) (column_of card.link.state) ≡ To column

  -- all that can become of it at a card in SPI: no command that comes to a card which is not Inactive is met with silence
  pub data JudgedInSpi : Type 0 where
    taken : (column : Column) → TakenInSpi column → heard_low ≡ taken_in card.mode card.link (met_by card wins) index argument column → JudgedInSpi
    illegal : AnswersIllegal card heard_low → JudgedInSpi
    silent : inactive card ≡ true → heard_low ≡ unheard card.mode card.link → JudgedInSpi

  -- checks 5 and 6 stop a command that is taken, as in MMC mode: "the bit, no move", and tags are dropped. R1 shows what it can of the error
  -- bits and clears that; the others wait
  pub record FaultedInSpi (bit : ErrorBit) : Type 0 where
    pub answer : heard_low.sent ≡ SpiR1 (r1_of (with_bit (reset_told card.link index) bit) (idle_in card.link.state))
    pub errors : heard_low.link.errors ≡ cleared_r1 (with_bit (reset_told card.link index) bit)
    pub mode : heard_low.mode ≡ card.mode
    pub state : heard_low.link.state ≡ card.link.state
    pub address : heard_low.link.address ≡ card.link.address
    pub length : heard_low.link.length ≡ card.link.length
    pub tags : heard_low.link.tags ≡ no_tags
    pub change : heard_low.change ≡ Unchanged
