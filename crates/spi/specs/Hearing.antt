-- Document 02, request 1: how a card takes a command, in MMC mode and in SPI.
-- Assumes nothing.
use Rattle.std.specs.Prelude.{Bool, true, false, not, ◌&&◌, ◌||◌, ℕ, ◌%◌, eqb}
use Rattle.base.specs.Choice.{pick}
use Rattle.card_record.specs.declared.Link.{Link}
use Rattle.card_record.specs.declared.Mode.{Mode}
use Rattle.card_record.specs.declared.Sent.TheVariants.{Nothing}
use Rattle.command.specs.Command.{damaged_link, command_of}
use Rattle.command.specs.Obey.{acted_of}
use Rattle.command.specs.declared.Change.TheVariants.{Nothing as Unchanged}
use Rattle.command.specs.declared.Commanded.{Commanded}
use Rattle.command.specs.declared.Met.{Met}
use Rattle.moves.specs.declared.Move.{Move}
use Rattle.moves.specs.declared.Move.TheVariants.{Ignored, Silent, Illegal, To}
use Rattle.spi_moves.specs.Moves.{row_of, move_of}
use Rattle.states.specs.States.{column_of, column_number}
use Rattle.states.specs.declared.Column.{Column}
use Rattle.status.specs.ErrorBits.{error_bit}
use Rattle.spi.specs.Answers.{response_of, answered_in, faulted}
use Rattle.spi.specs.declared.Heard.{Heard}

-- a frame that a card does not hear: nothing is sent, and nothing changes
abbrev pub unheard : Mode → Link → Heard
unheard mode link = record { mode = mode; link = link; sent = Nothing; change = Unchanged }

-- a command as MMC mode has it, which changes no mode
abbrev pub heard_in_mmc : Mode → Commanded → Heard
heard_in_mmc mode given = record { mode = mode; link = given.link; sent = given.sent; change = given.change }

-- "A card enters SPI when CMD0 comes with its select line low"; "CRC checking starts off in SPI"; CMD59 switches it by argument bit 0 (002)
abbrev pub mode_after : Mode → ℕ → ℕ → Mode
mode_after mode index argument =
    pick (eqb index 0) (record { spi = true; checks = false })
    (pick (eqb index 59) (record { spi = mode.spi; checks = eqb (argument % 2) 1 }) mode)

-- a taken command: what it does is what it does in MMC mode
unfoldable pub taken_in : Mode → Link → Met → ℕ → ℕ → Column → Heard
taken_in mode link met index argument column =
    answered_in (mode_after mode index argument) (acted_of link met index argument column) (response_of index) met.locked

-- "Illegal commands are answered here": R1 with bit 22
abbrev pub moved_in : Mode → Link → Met → ℕ → ℕ → Move → Heard
moved_in mode link met index argument Ignored = unheard mode link
moved_in mode link met index argument Silent = unheard mode link
moved_in mode link met index argument Illegal = faulted mode link (error_bit 22)
moved_in mode link met index argument (To column) = taken_in mode link met index argument column

-- a command that is taken as SPI has it, where its table leads from the card's state
unfoldable pub spi_heard : Mode → Link → Met → ℕ → ℕ → Heard
spi_heard mode link met index argument = moved_in mode link met index argument (move_of (row_of index) (column_of link.state))

-- whether a card takes a command as SPI has it, its select line being low (`selected`) or high: one in SPI does, and "a card enters SPI when
-- CMD0 comes with its select line low". In MMC mode the line is read for CMD0 alone
abbrev pub as_spi : Mode → Bool → ℕ → Bool
as_spi mode selected index = selected && (mode.spi || eqb index 0)

-- a command at a card: as SPI has it; in SPI "a frame with the line high is ignored"; and else as MMC mode has it
unfoldable pub heard_of : Mode → Bool → Link → Met → ℕ → ℕ → Heard
heard_of mode selected link met index argument =
    pick (as_spi mode selected index) (spi_heard mode link met index argument)
    (pick mode.spi (unheard mode link) (heard_in_mmc mode (command_of link met index argument)))

-- a frame that is refused 3: in MMC mode "3 sets bit 23 of the card .. unless Inactive"; in SPI "beside number 3, a wrong CRC7" is answered
-- by R1, where the line is low and the card is not Inactive
unfoldable pub damaged_of : Mode → Bool → Link → Heard
damaged_of mode selected link =
    pick mode.spi
    (pick (selected && not (eqb (column_number (column_of link.state)) 9)) (faulted mode link (error_bit 23)) (unheard mode link))
    (unheard mode (damaged_link link))

-- whether a command goes on whose CRC7 is right, or wrong: in SPI "3 (CMD0 apart) .. come[s] only with CRC on", and "CMD0 is always checked"
abbrev pub crc_passes : Mode → ℕ → Bool → Bool
crc_passes mode index right = right || (mode.spi && (not mode.checks && not (eqb index 0)))
