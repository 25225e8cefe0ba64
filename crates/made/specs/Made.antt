-- A made card: what making gives, and what everything that can happen to a card keeps. `groups` is its number of protection groups,
-- `length` its block length, `locked` its lock flag.
-- Assumes nothing.
use Rattle.std.specs.Prelude.{◌≡◌, Bool, true, false, List, [], ◌∷◌, ◌++◌, ℕ, ◌+◌, ◌-◌, ◌%◌, ◌≤◌, ◌<◌, length, take, replicate}
use Rattle.std.specs.Int.Bits.{bit_and}
use Rattle.base.specs.Sizes.{sector_size}
use Rattle.lock.specs.declared.Lock.{Lock}
use Rattle.moves.specs.Moves.{in_state}
use Rattle.moves.specs.Rows.{window}
use Rattle.spi_moves.specs.Moves.{five}
use Rattle.states.specs.States.{column_of}
use Rattle.card_record.specs.Record.{size_of, crosses}
use Rattle.card_record.specs.declared.Card.{Card}
use Rattle.card_record.specs.declared.Link.{Link}
use Rattle.card_record.specs.declared.Mode.{Mode}
use Rattle.card_record.specs.declared.Registers.{Registers}
use Rattle.states.specs.declared.Incoming.{Incoming}
use Rattle.states.specs.declared.Incoming.TheVariants.{One as OneIn, Many as ManyIn, LockRequest}
use Rattle.states.specs.declared.Outgoing.{Outgoing}
use Rattle.states.specs.declared.Outgoing.TheVariants.{One as OneOut, Many as ManyOut, Protection, Csd, Cid}
use Rattle.states.specs.declared.State.{State}
use Rattle.states.specs.declared.State.TheVariants.{Idle, Ready, Ident, Stby, Tran, Data, Rcv, Prg, Dis, Ina}
use Rattle.status.specs.ErrorBits.{error_bit, word_with}
use Rattle.status.specs.declared.ErrorBit.{ErrorBit}
use Rattle.status.specs.declared.Errors.{Errors}
use Rattle.store.specs.Memory.{size_allowed}
use Rattle.tags.specs.Made.{MadeTags}
use Rattle.tags.specs.Tagging.{any_of}
use Rattle.wire.specs.Blocks.{longest_block}
use Rattle.wire.specs.Responses.{register_right}

-- what making checks of CID, CSD, OCR and size, by the refusals that it gives else
pub record MadeRegisters (registers : Registers) : Type 0 where
  -- 7: "8,192 to 33,554,432 bytes, a multiple of 8,192"
  pub size : size_allowed (size_of registers.groups) ≡ true
  -- 9: "CID and CSD end in the CRC7 of their first 15 bytes, then a 1"
  pub cid : register_right registers.cid ≡ true
  pub csd : register_right registers.csd ≡ true
  -- 10: "OCR bits 23..0 all zero"
  pub ocr : 1 ≤ window registers.ocr

pub record MadeLock (lock : Lock) : Type 0 where
  -- "A password is 0 to 16 bytes; 0 means none": of the 16 bytes the first are the password, and behind it are zeros
  pub bytes : length lock.password ≡ 16
  pub short : lock.length ≤ 16
  pub zeros : lock.password ≡ take lock.length lock.password ++ replicate (16 - lock.length) 0
  -- "locked exactly if a password is stored", at power-on; and never without one
  pub locked : lock.locked ≡ true → 1 ≤ lock.length

-- what a card in data is to send. CMD17: no "block past the end", none "crossing a multiple of 2,048"; CMD18 "moves on by one block", at most
-- to the end; CMD30: the addressed group is one of the card's; in SPI a register, of a locked card too. At a locked card "class 0, CMD16 and CMD42"
-- go on, and none that reads memory or map
abbrev pub Sends : ℕ → ℕ → Bool → Outgoing → Type 0
Sends groups length locked (OneOut at) = (locked ≡ false) × ((at + length ≤ size_of groups) × (crosses at length ≡ false))
Sends groups length locked (ManyOut at) = (locked ≡ false) × (at ≤ size_of groups)
Sends groups length locked (Protection group) = (locked ≡ false) × (group < groups)
Sends groups length locked Csd = Unit {0}
Sends groups length locked Cid = Unit {0}

-- what a card in rcv awaits. "CMD24, 25: length must be 512 .., then in range .., then aligned to 512"; CMD25 "moves on 512", at most to the end
abbrev pub Awaits : ℕ → ℕ → Bool → Incoming → Type 0
Awaits groups length locked (OneIn at) = (locked ≡ false) × ((at + sector_size ≤ size_of groups) × ((at % sector_size ≡ 0) × (length ≡ sector_size)))
Awaits groups length locked (ManyIn at) = (locked ≡ false) × ((at ≤ size_of groups) × ((at % sector_size ≡ 0) × (length ≡ sector_size)))
Awaits groups length locked LockRequest = Unit {0}

-- "Data states carry what they wait for"; the other states wait for nothing
abbrev pub Waits : ℕ → ℕ → Bool → State → Type 0
Waits groups length locked Idle = Unit {0}
Waits groups length locked Ready = Unit {0}
Waits groups length locked Ident = Unit {0}
Waits groups length locked Stby = Unit {0}
Waits groups length locked Tran = Unit {0}
Waits groups length locked (Data outgoing) = Sends groups length locked outgoing
Waits groups length locked (Rcv incoming) = Awaits groups length locked incoming
Waits groups length locked Prg = Unit {0}
Waits groups length locked Dis = Unit {0}
Waits groups length locked Ina = Unit {0}

-- the error bits that can wait for the next answer, in SPI (true) and in MMC mode. In MMC mode 28 and 27 never do, since the R1 of the command
-- that sets them shows and clears them; in SPI R1 shows 28 and not 27, and each answer clears 23, 22 and 13
abbrev pub pending_bits : Bool → List ErrorBit
pending_bits true = error_bit 31 ∷ error_bit 30 ∷ error_bit 29 ∷ error_bit 27 ∷ error_bit 26 ∷ error_bit 24 ∷ error_bit 15 ∷ []
pending_bits false =
    error_bit 31 ∷ error_bit 30 ∷ error_bit 29 ∷ error_bit 26 ∷ error_bit 24 ∷ error_bit 23 ∷ error_bit 22 ∷ error_bit 15 ∷ error_bit 13 ∷ []

abbrev pub Pending : Bool → Errors → Type 0
Pending spi errors = bit_and errors.bits (word_with (pending_bits spi)) ≡ errors.bits

pub record MadeLink (spi : Bool) (groups : ℕ) (locked : Bool) (link : Link) : Type 0 where
  -- 3: "address taken; address 0: bit 31, stays"
  pub address : 1 ≤ link.address
  -- "CMD16: length 1 to 2,048"
  pub block : (1 ≤ link.length) × (link.length ≤ longest_block)
  -- tags lie inside the memory, the start not after the end, sectors in one erase group; they are there in tran alone, on an unlocked card
  pub tags : MadeTags (size_of groups) link.tags
  pub tagged : any_of link.tags ≡ true → (link.state ≡ Tran) × (locked ≡ false)
  pub work : Waits groups link.length locked link.state
  pub errors : Pending spi link.errors

-- CRC checking is a matter of SPI alone; and in SPI a card is in idle, tran, data, rcv or prg: no command leads to another state there
pub record MadeMode (mode : Mode) (state : State) : Type 0 where
  pub checks : mode.checks ≡ true → mode.spi ≡ true
  pub reached : mode.spi ≡ true → in_state (column_of state) five ≡ true

pub record Made (card : Card) : Type 0 where
  pub registers : MadeRegisters card.registers
  pub lock : MadeLock card.lock
  pub link : MadeLink card.mode.spi card.registers.groups card.lock.locked card.link
  pub mode : MadeMode card.mode card.link.state
