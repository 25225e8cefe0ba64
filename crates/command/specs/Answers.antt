-- Document 01, "How a card takes a frame": what a taken command answers in MMC mode, and which error bits it clears.
-- Assumes nothing.
use Rattle.std.specs.Prelude.{Bool, List, [], ◌∷◌, ℕ, eqb}
use Rattle.base.specs.Choice.{pick}
use Rattle.moves.specs.Moves.{in_row}
use Rattle.moves.specs.declared.Row.{Row}
use Rattle.moves.specs.declared.Row.TheVariants.{OpCondAsked, OpCondShared, AllSendCidWon, SetRelativeAddr, SelectCard, SendRegister, StopTransmission, SendStatus, SetOrTag, Read, Write, Program}
use Rattle.card_record.specs.Record.{with_errors}
use Rattle.card_record.specs.declared.Link.{Link}
use Rattle.states.specs.declared.Column.{Column}
use Rattle.status.specs.Status.{no_errors, command_bits_cleared, word_of}
use Rattle.status.specs.declared.Errors.{Errors}
use Rattle.command.specs.declared.Acted.{Acted}
use Rattle.command.specs.declared.Change.TheVariants.{Nothing as Unchanged}
use Rattle.command.specs.declared.Commanded.{Commanded}
use Rattle.command.specs.declared.Response.{Response}
use Rattle.command.specs.declared.Response.TheVariants.{Nothing as NoResponse, R1, R2, R3}
use Rattle.card_record.specs.declared.Sent.{Sent}
use Rattle.card_record.specs.declared.Sent.TheVariants.{Nothing, Status, Cid, Csd, Ocr}

-- the column "Answer" of the table: the rows with R1, those with R2 and those with R3; the others answer nothing
abbrev pub answered_r1 : List Row
answered_r1 = SetRelativeAddr ∷ SelectCard ∷ StopTransmission ∷ SendStatus ∷ SetOrTag ∷ Read ∷ Write ∷ Program ∷ []

abbrev pub answered_r2 : List Row
answered_r2 = AllSendCidWon ∷ SendRegister ∷ []

abbrev pub answered_r3 : List Row
answered_r3 = OpCondAsked ∷ OpCondShared ∷ []

unfoldable pub response_of : Row → Response
response_of row = pick (in_row row answered_r1) R1 (pick (in_row row answered_r2) R2 (pick (in_row row answered_r3) R3 NoResponse))

-- "9, 10: R2 CSD, CID"; "2: R2 CID"
abbrev pub register_sent : ℕ → Sent
register_sent index = pick (eqb index 9) Csd Cid

-- what is sent for a response, the status being that of R1
abbrev pub sent_of : Response → ℕ → ℕ → Sent
sent_of NoResponse index status = Nothing
sent_of R1 index status = Status index status
sent_of R2 index status = register_sent index
sent_of R3 index status = Ocr

-- "R1 reports pending bits and those its command sets at once, then clears them .. Other taken commands clear bits 23 and 22 only"
abbrev pub left_of : Response → Errors → Errors
left_of NoResponse errors = command_bits_cleared errors
left_of R1 errors = no_errors
left_of R2 errors = command_bits_cleared errors
left_of R3 errors = command_bits_cleared errors

-- silent: nothing sent, nothing changed in what is lent
abbrev pub silent : Link → Commanded
silent link = record { link = link; sent = Nothing; change = Unchanged }

-- the answer to what a taken command did, from "the state on reception"
unfoldable pub answered : Acted → Response → ℕ → Bool → Column → Commanded
answered acted response index locked on =
    record {
      link = with_errors acted.link (left_of response acted.errors);
      sent = sent_of response index (word_of acted.errors locked on);
      change = acted.change;
    }
