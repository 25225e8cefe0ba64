-- Document 02, request 1, a block in: when 16 and 17 are given, in SPI and in MMC mode.
-- Assumes nothing.
use Rattle.std.specs.Prelude.{◌≡◌, Bool, not, ◌&&◌, ◌||◌, List, ℕ, ◌+◌, eqb, length, get_or, Ok}
use Rattle.base.specs.Choice.{pick}
use Rattle.card_blocks.specs.BlockIn.{awaited_length}
use Rattle.card_blocks.specs.Framing.{unstarted}
use Rattle.card_record.specs.declared.Card.{Card}
use Rattle.card_record.specs.declared.Mode.{Mode}
use Rattle.crc.specs.Crc.{crc16}
use Rattle.states.specs.declared.Incoming.{Incoming}
use Rattle.states.specs.declared.State.TheVariants.{Rcv}
use Rattle.store.specs.Lent.{Lent, seen, lending_of}
use Rattle.wire.specs.Blocks.{payload_of, crc_in}

-- a block that 12 and 15 let on: the card is lent what is its own, and awaits a block
pub record Awaited (card : Card) (lent : Lent) (incoming : Incoming) : Type 0 where
  pub lent_right : lending_of (seen lent) card.registers.groups ≡ Ok tt
  pub awaiting : card.link.state ≡ Rcv incoming

-- whether it is then refused 16: its length is not the awaited one and two more, for its CRC16; in SPI not three more, or "start byte FE
-- (another is 16)"
abbrev pub refuses16 : Card → Incoming → List ℕ → Bool
refuses16 card incoming block =
    pick card.mode.spi (not (eqb (length block) (awaited_length card incoming + 3)) || not (eqb (get_or block 0 0) 0xFE))
    (not (eqb (length block) (awaited_length card incoming + 2)))

-- whether it is then refused 17: a wrong CRC16, and in SPI "17 come[s] only with CRC on"
abbrev pub refuses17 : Mode → List ℕ → Bool
refuses17 mode block =
    (not mode.spi || mode.checks) && not (eqb (crc_in (unstarted mode.spi block)) (crc16 (payload_of (unstarted mode.spi block))))
