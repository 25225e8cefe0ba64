-- Document 01, "How a card takes a frame": power-on and work done. Document 02, request 1: power-on in SPI; request 2: the block length after a
-- reset.
-- Assumes nothing.
use Rattle.std.specs.Prelude.{false, ℕ}
use Rattle.lock.specs.Passwords.{powered_of}
use Rattle.states.specs.declared.State.{State}
use Rattle.states.specs.declared.State.TheVariants.{Idle, Ready, Ident, Stby, Tran, Data, Rcv, Prg, Dis, Ina}
use Rattle.status.specs.Status.{no_errors}
use Rattle.tags.specs.Tagging.{no_tags}
use Rattle.card_record.specs.Record.{with_state, with_link}
use Rattle.card_record.specs.declared.Card.{Card}
use Rattle.card_record.specs.declared.Link.{Link}
use Rattle.card_record.specs.declared.Mode.{Mode}

-- "Power-on and CMD0 now leave 2,048 where 01 says 512" (document 02, request 2): this number, whatever the CSD says. A name of its own, since
-- the longest block and a physical read block have as many bytes for reasons of theirs
abbrev pub default_length : ℕ
default_length = 2048

-- "Idle, address 1 (003), block length [2,048], no tags or error bits"
unfoldable pub fresh_link : Link
fresh_link = record { state = Idle; address = 1; length = default_length; errors = no_errors; tags = no_tags }

-- the mode of a card that was not brought into SPI; CRC checking is for SPI to switch, and is off in MMC mode
abbrev pub mmc_mode : Mode
mmc_mode = record { spi = false; checks = false }

-- "Power-on, from any state: Idle, .., locked exactly if a password is stored"; a card "leaves [SPI] by power-on only"
unfoldable pub powered_on : Card → Card
powered_on card = record { registers = card.registers; lock = powered_of card.lock; link = fresh_link; mode = mmc_mode }

-- "Work done takes prg to tran and dis to stby, and changes no other state"
abbrev pub worked_state : State → State
worked_state Idle = Idle
worked_state Ready = Ready
worked_state Ident = Ident
worked_state Stby = Stby
worked_state Tran = Tran
worked_state (Data outgoing) = Data outgoing
worked_state (Rcv incoming) = Rcv incoming
worked_state Prg = Tran
worked_state Dis = Stby
worked_state Ina = Ina

unfoldable pub worked : Card → Card
worked card = with_link card (with_state card.link (worked_state card.link.state))
