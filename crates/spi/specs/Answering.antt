-- How the code takes a command in either mode: it decides how the command is answered and where its mode's table leads, does what it does, and
-- then answers. That this is `heard_of` is `heard_decided` in proofs/Decided.
-- Assumes nothing.
use Rattle.std.specs.Prelude.{Bool, false, ℕ}
use Rattle.base.specs.Choice.{pick}
use Rattle.card_record.specs.Record.{with_errors}
use Rattle.card_record.specs.declared.Link.{Link}
use Rattle.card_record.specs.declared.Mode.{Mode}
use Rattle.card_record.specs.declared.Sent.{Sent}
use Rattle.command.specs.Answers.{response_of as response_in_mmc, sent_of, left_of}
use Rattle.command.specs.Command.{decided_of}
use Rattle.command.specs.Obey.{acted_of}
use Rattle.command.specs.declared.Acted.{Acted}
use Rattle.command.specs.declared.Change.TheVariants.{Nothing as Unchanged}
use Rattle.command.specs.declared.Met.{Met}
use Rattle.command.specs.declared.Response.{Response as MmcResponse}
use Rattle.command.specs.declared.Response.TheVariants.{Nothing as NoneInMmc, R1 as R1InMmc, R2 as R2InMmc, R3 as R3InMmc}
use Rattle.moves.specs.declared.Move.TheVariants.{Ignored}
use Rattle.spi_moves.specs.Moves.{row_of, move_of}
use Rattle.states.specs.States.{column_of}
use Rattle.states.specs.declared.Column.{Column}
use Rattle.status.specs.Status.{word_of}
use Rattle.status.specs.declared.Errors.{Errors}
use Rattle.spi.specs.Answers.{response_of, idle_in, sent_in, left_in, answered_in}
use Rattle.spi.specs.Hearing.{unheard, mode_after, as_spi}
use Rattle.spi.specs.declared.Answering.{Answering}
use Rattle.spi.specs.declared.Answering.TheVariants.{Nothing, R1, R2, R3, SpiR1, SpiR2, SpiR3}
use Rattle.spi.specs.declared.Decision.{Decision}
use Rattle.spi.specs.declared.Heard.{Heard}
use Rattle.spi.specs.declared.Response.{Response}
use Rattle.spi.specs.declared.Response.TheVariants.{R1 as R1InSpi, R2 as R2InSpi, R3 as R3InSpi}

-- the answers of both modes in one list
abbrev pub in_mmc : MmcResponse → Answering
in_mmc NoneInMmc = Nothing
in_mmc R1InMmc = R1
in_mmc R2InMmc = R2
in_mmc R3InMmc = R3

abbrev pub in_spi : Response → Answering
in_spi R1InSpi = SpiR1
in_spi R2InSpi = SpiR2
in_spi R3InSpi = SpiR3

-- the error bits that an answer leaves pending, as its mode has it
abbrev pub left_by : Answering → Errors → Errors
left_by Nothing errors = left_of NoneInMmc errors
left_by R1 errors = left_of R1InMmc errors
left_by R2 errors = left_of R2InMmc errors
left_by R3 errors = left_of R3InMmc errors
left_by SpiR1 errors = left_in R1InSpi errors
left_by SpiR2 errors = left_in R2InSpi errors
left_by SpiR3 errors = left_in R3InSpi errors

-- what is sent: in MMC mode by the state in which the command came, in SPI by whether the card is idle after it
abbrev pub sent_by : Answering → ℕ → Errors → Bool → Column → Bool → Sent
sent_by Nothing index errors locked on idle = sent_of NoneInMmc index (word_of errors locked on)
sent_by R1 index errors locked on idle = sent_of R1InMmc index (word_of errors locked on)
sent_by R2 index errors locked on idle = sent_of R2InMmc index (word_of errors locked on)
sent_by R3 index errors locked on idle = sent_of R3InMmc index (word_of errors locked on)
sent_by SpiR1 index errors locked on idle = sent_in R1InSpi errors idle locked
sent_by SpiR2 index errors locked on idle = sent_in R2InSpi errors idle locked
sent_by SpiR3 index errors locked on idle = sent_in R3InSpi errors idle locked

-- the mode after a command that is answered so: R2 and R3 of SPI answer CMD13 and CMD58, which change none
abbrev pub mode_by : Answering → Mode → ℕ → ℕ → Mode
mode_by Nothing mode index argument = mode
mode_by R1 mode index argument = mode
mode_by R2 mode index argument = mode
mode_by R3 mode index argument = mode
mode_by SpiR1 mode index argument = mode_after mode index argument
mode_by SpiR2 mode index argument = mode
mode_by SpiR3 mode index argument = mode

-- what a command finds at a card: how it is answered if it is taken, and where it leads
abbrev pub decision_of : Mode → Bool → Link → Met → ℕ → ℕ → Decision
decision_of mode selected link met index argument =
    pick (as_spi mode selected index) (record { answering = in_spi (response_of index); next = move_of (row_of index) (column_of link.state) })
    (pick mode.spi (record { answering = Nothing; next = Ignored })
    (record { answering = in_mmc (response_in_mmc (decided_of link met index argument).row); next = (decided_of link met index argument).next }))

-- what is answered to what a command did
abbrev pub replied_by : Mode → Link → Bool → ℕ → ℕ → Answering → Acted → Heard
replied_by mode link locked index argument answering acted =
    record {
      mode = mode_by answering mode index argument;
      link = with_errors acted.link (left_by answering acted.errors);
      sent = sent_by answering index acted.errors locked (column_of link.state) (idle_in acted.link.state);
      change = acted.change;
    }

-- a taken command
abbrev pub taken_by : Mode → Link → Met → ℕ → ℕ → Answering → Column → Heard
taken_by mode link met index argument answering column =
    replied_by mode link met.locked index argument answering (acted_of link met index argument column)

-- a command that is not taken, and leaves these error bits: it is answered by SPI's R1, or not at all
unfoldable pub untaken : Mode → Link → Errors → Bool → Heard
untaken mode link errors answered =
    pick answered (answered_in mode (record { link = link; errors = errors; change = Unchanged }) R1InSpi false) (unheard mode (with_errors link errors))
