-- Document 02, request 1: what a command answers in SPI, and which error bits the answer clears.
-- Assumes nothing.
use Rattle.std.specs.Prelude.{Bool, false, ℕ, eqb}
use Rattle.base.specs.Choice.{pick}
use Rattle.card_record.specs.Record.{with_errors}
use Rattle.card_record.specs.declared.Link.{Link}
use Rattle.card_record.specs.declared.Mode.{Mode}
use Rattle.card_record.specs.declared.Sent.{Sent}
use Rattle.card_record.specs.declared.Sent.TheVariants.{SpiR1, SpiR2, SpiR3}
use Rattle.command.specs.declared.Acted.{Acted}
use Rattle.command.specs.declared.Change.TheVariants.{Nothing}
use Rattle.spi_answers.specs.Answers.{r1_of, second_of, cleared_r1, cleared_r2}
use Rattle.states.specs.States.{column_of, column_number}
use Rattle.states.specs.declared.State.{State}
use Rattle.status.specs.Status.{with_bit}
use Rattle.status.specs.declared.ErrorBit.{ErrorBit}
use Rattle.status.specs.declared.Errors.{Errors}
use Rattle.spi.specs.declared.Heard.{Heard}
use Rattle.spi.specs.declared.Response.{Response}
use Rattle.spi.specs.declared.Response.TheVariants.{R1, R2, R3}

-- which answer a taken command has: CMD13 "R2 as two", CMD58 "R3 as five", and any other "R1 as one byte"
abbrev pub response_of : ℕ → Response
response_of index = pick (eqb index 13) R2 (pick (eqb index 58) R3 R1)

-- "idle after the command"
abbrev pub idle_in : State → Bool
idle_in state = eqb (column_number (column_of state)) 0

-- the bytes of an answer, from the error bits that it reports, whether the card is idle after the command, and the lock flag
abbrev pub sent_in : Response → Errors → Bool → Bool → Sent
sent_in R1 errors idle locked = SpiR1 (r1_of errors idle)
sent_in R2 errors idle locked = SpiR2 (r1_of errors idle) (second_of errors locked)
sent_in R3 errors idle locked = SpiR3 (r1_of errors idle)

-- "an answer clears the bits it shows"
abbrev pub left_in : Response → Errors → Errors
left_in R1 errors = cleared_r1 errors
left_in R2 errors = cleared_r2 errors
left_in R3 errors = cleared_r1 errors

-- the answer to what a command did, from the state that it leaves
unfoldable pub answered_in : Mode → Acted → Response → Bool → Heard
answered_in mode acted response locked =
    record {
      mode = mode;
      link = with_errors acted.link (left_in response acted.errors);
      sent = sent_in response acted.errors (idle_in acted.link.state) locked;
      change = acted.change;
    }

-- a command that is not taken, answered by R1 with an error bit: nothing moves, and tags stay
unfoldable pub faulted : Mode → Link → ErrorBit → Heard
faulted mode link bit = answered_in mode (record { link = link; errors = with_bit link.errors bit; change = Nothing }) R1 false
