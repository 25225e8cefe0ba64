-- Document 01, "Reading, writing, erasing, locking": a block that is stored, and read again; and document 02, request 1: the same in SPI. `spi`
-- says that the card is in SPI.
-- Assumes nothing.
use Rattle.std.specs.Prelude.{◌≡◌, Bool, true, false, List, [], ℕ, ◌+◌, ◌/◌, ◌%◌, ◌^◌, ◌≤◌, ◌<◌, take, Ok, Some}
use Rattle.base.specs.Sizes.{sector_size}
use Rattle.card.specs.declared.Call.TheVariants.{Frame, BlockIn, BlockOut, WorkDone}
use Rattle.card_blocks.specs.Framing.{beside, unstarted, with_start}
use Rattle.card_record.specs.Record.{size_of, csd_protects}
use Rattle.card_record.specs.declared.Card.{Card}
use Rattle.made.specs.Run.{World, Input, given, next, outcome_of, output_after}
use Rattle.store.specs.Lent.{seen, lending_of}
use Rattle.store.specs.Map.{protected_in}
use Rattle.wire.specs.Blocks.{block_of}
use Rattle.wire.specs.Frames.{command_frame}

-- a command of an index and an argument, as its frame, at a card that is alone on its line: its select line is low for a card in SPI, and high
-- for one in MMC mode. (No command of a run that reads asks who wins: `verdict_unread` of demands)
abbrev pub commanded : Bool → World → ℕ → ℕ → World
commanded spi w index argument = next w (given (Frame true spi) (command_frame index argument))

-- a block in, and a block out that is lent an output
abbrev pub block_in : List ℕ → Input
block_in block = given BlockIn block

abbrev pub block_out : List ℕ → Input
block_out output = record { call = BlockOut; bytes = []; output = output }

-- work done; CMD16 sets the block length to 512; CMD17 reads at the address
unfoldable pub read_again : Bool → World → ℕ → World
read_again spi w at = commanded spi (commanded spi (next w (given WorkDone [])) 16 sector_size) 17 at

-- "A good block is stored; CMD24 goes to prg"
abbrev pub stored_then_read : Bool → World → List ℕ → ℕ → World
stored_then_read spi w block at = read_again spi (next w (block_in block)) at

-- "CMD25 stays", and "12: .. rcv to prg", in MMC mode: in SPI both "are illegal"
abbrev pub stored_stopped_then_read : World → List ℕ → ℕ → World
stored_stopped_then_read w block at = read_again false (commanded false (next w (block_in block)) 12 0) at

-- what is known of a card that awaits a write at an address: CMD24 and 25 do not go on at a locked one; "CMD24, 25: .. aligned to 512 (30)";
-- and an address is an argument, of 32 bits. That the block lies in memory need not be known: one that does not is refused 18
pub record Awaiting (card : Card) (at : ℕ) : Type 0 where
  pub unlocked : card.lock.locked ≡ false
  pub aligned : at % sector_size ≡ 0
  pub small : at < 2 ^ 32

-- a block at an address would be taken: nothing is lent wrong (12), the block lies in memory (18), and not in protected memory (19)
pub record Writable (w : World) (at : ℕ) : Type 0 where
  pub right : lending_of (seen w.lent) w.card.registers.groups ≡ Ok tt
  pub in_range : at + sector_size ≤ size_of w.card.registers.groups
  pub free : protected_in w.lent.map (csd_protects w.card.registers.csd) (at / sector_size) ≡ false

-- the bytes of a framed sector: 514, and in SPI 515
abbrev pub framed_sector : Bool → ℕ
framed_sector spi = sector_size + beside spi

-- then 514 bytes go out, and stand at the front of the lent output: the block's 512 bytes and their CRC16. In SPI the block that came in and the
-- one that goes out have the start byte before them, and 515 bytes go out
pub record ReadsBack (spi : Bool) (block : List ℕ) (w : World) (output : List ℕ) : Type 0 where
  pub wrote : outcome_of w (block_out output) ≡ Ok (Some (framed_sector spi))
  pub front : take (framed_sector spi) (output_after w (block_out output)) ≡ with_start spi (block_of (take sector_size (unstarted spi block)))
