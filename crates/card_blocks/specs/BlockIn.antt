-- Document 01, "Reading, writing, erasing, locking": a block in. "Block in: 12, 15, 16, 17, 18, 19 or 20." Document 02, request 1: the same in
-- SPI, but for the framing.
-- Assumes nothing.
use Rattle.std.specs.Prelude.{not, List, ℕ, ◌+◌, ◌*◌, ◌/◌, eqb, ltb, length, Result, Option, Ok, Err, Some, None}
use Rattle.base.specs.Choice.{unless}
use Rattle.base.specs.Refusals.{by}
use Rattle.base.specs.Sizes.{sector_size}
use Rattle.base.specs.declared.Refusal.{Refusal}
use Rattle.card_blocks.specs.Framing.{beside, started, unstarted, crc_right, response_to}
use Rattle.card_blocks.specs.Replies.{replied, refused}
use Rattle.card_blocks.specs.declared.BlockJudged.{BlockJudged}
use Rattle.card_blocks.specs.declared.Stepped.{Stepped}
use Rattle.card_blocks.specs.declared.Storing.{Storing}
use Rattle.card_blocks.specs.declared.Storing.TheVariants.{Nothing, Sector, All}
use Rattle.lock.specs.Requests.{request_of}
use Rattle.lock.specs.declared.Answer.{Answer}
use Rattle.lock.specs.declared.Answer.TheVariants.{Granted, Erased, Failed}
use Rattle.lock.specs.declared.Lock.{Lock}
use Rattle.card_record.specs.Record.{size_of, csd_protects, length_read, with_state, with_errors, with_link, with_lock}
use Rattle.card_record.specs.declared.Card.{Card}
use Rattle.states.specs.declared.Incoming.{Incoming}
use Rattle.states.specs.declared.Incoming.TheVariants.{One, Many, LockRequest}
use Rattle.states.specs.declared.State.{State}
use Rattle.states.specs.declared.State.TheVariants.{Idle, Ready, Ident, Stby, Tran, Data, Rcv, Prg, Dis, Ina}
use Rattle.status.specs.ErrorBits.{error_bit}
use Rattle.status.specs.Status.{with_bit}
use Rattle.status.specs.declared.Errors.{Errors}
use Rattle.store.specs.Lent.{Lent, Seen, with_memory, with_map, lending_of, once_lent}
use Rattle.store.specs.Map.{protected_in, map_cleared}
use Rattle.store.specs.Memory.{sector_written, all_erased}
use Rattle.wire.specs.Blocks.{payload_of}
use Rattle.status.specs.declared.ErrorBit.{ErrorBit}

-- the payload's length that is awaited: a write's is a sector, and a lock request is "one block of the block length"
abbrev pub awaited_length : Card → Incoming → ℕ
awaited_length card (One at) = sector_size
awaited_length card (Many at) = sector_size
awaited_length card LockRequest = length_read card.link.length

-- the sector that a write goes to: an address that is not aligned reads rounded down
abbrev pub sector_at : ℕ → ℕ
sector_at at = at / sector_size

-- after a refused block: "CMD24 then goes to tran, CMD25 stays at its address"; a lock request's "16, 17, 20 go to tran"
abbrev pub after_refused : Incoming → State
after_refused (One at) = Tran
after_refused (Many at) = Rcv (Many at)
after_refused LockRequest = Tran

-- after a block that is stored, with the address behind it: "CMD24 goes to prg, CMD25 stays and moves on 512"
abbrev pub after_stored : Incoming → ℕ → State
after_stored (One at) next = Prg
after_stored (Many at) next = Rcv (Many next)
after_stored LockRequest next = Prg

-- the error bits with that of a fault set, where there is one
abbrev pub with_fault : Errors → Option ErrorBit → Errors
with_fault errors None = errors
with_fault errors (Some bit) = with_bit errors bit

-- what becomes of a block that was awaited, with the data response that follows it in SPI
abbrev pub block_replied : Card → Result (Option ℕ) Refusal → Stepped
block_replied card outcome = replied card outcome (response_to card.mode.spi outcome)

-- a refused block with the error bit that it sets, if any: "Refused 16, 18 and 19 set bits 29, 31, 26; 17 sets none"; "16 sets bit 29, 20
-- sets 24". Nothing is stored
unfoldable pub block_refused : Card → Incoming → Refusal → Option ErrorBit → BlockJudged
block_refused card incoming refusal fault =
    record {
      stepped =
          block_replied (with_link card (with_errors (with_state card.link (after_refused incoming)) (with_fault card.link.errors fault)))
          (Err refusal);
      storing = Nothing;
    }

-- a good block: the state that it leads to, and what is to be stored
unfoldable pub block_good : Card → State → Storing → BlockJudged
block_good card state storing = record { stepped = block_replied (with_link card (with_state card.link state)) (Ok None); storing = storing }

-- a write's block: 18, 19, and else "A good block is stored"
unfoldable pub write_judged : Card → Incoming → ℕ → List ℕ → BlockJudged
write_judged card incoming sector map =
    unless (ltb sector (size_of card.registers.groups / sector_size)) (block_refused card incoming (by 18) (Some (error_bit 31)))
    (unless (not (protected_in map (csd_protects card.registers.csd) sector)) (block_refused card incoming (by 19) (Some (error_bit 26)))
    (block_good card (after_stored incoming (sector * sector_size + sector_size)) (Sector sector)))

-- a lock request's block: 20 where it failed; "Granted goes to prg"; "Forced erase .. fills memory, clears the map"
abbrev pub lock_judged : Card → Lock → Answer → BlockJudged
lock_judged card lock Granted = block_good (with_lock card lock) Prg Nothing
lock_judged card lock Erased = block_good (with_lock card lock) Prg All
lock_judged card lock Failed = block_refused card LockRequest (by 20) (Some (error_bit 24))

unfoldable pub request_judged : Card → List ℕ → BlockJudged
request_judged card payload =
    lock_judged card (request_of card.lock payload (csd_protects card.registers.csd)).lock
    (request_of card.lock payload (csd_protects card.registers.csd)).answer

-- what a block of the right length with the right CRC16 does
abbrev pub carried_out : Card → Incoming → List ℕ → List ℕ → BlockJudged
carried_out card (One at) payload map = write_judged card (One at) (sector_at at) map
carried_out card (Many at) payload map = write_judged card (Many at) (sector_at at) map
carried_out card LockRequest payload map = request_judged card payload

-- the block behind its start byte: 17, and else what it does
unfoldable pub checked_judged : Card → Incoming → List ℕ → List ℕ → BlockJudged
checked_judged card incoming block map =
    unless (crc_right card.mode block) (block_refused card incoming (by 17) None) (carried_out card incoming (payload_of block) map)

abbrev pub wrong_length : Card → Incoming → BlockJudged
wrong_length card incoming = block_refused card incoming (by 16) (Some (error_bit 29))

-- 16 of an awaited block, "start byte FE (another is 16)"
unfoldable pub awaited_judged : Card → Incoming → List ℕ → List ℕ → BlockJudged
awaited_judged card incoming block map =
    unless (eqb (length block) (awaited_length card incoming + beside card.mode.spi)) (wrong_length card incoming)
    (unless (started card.mode.spi block) (wrong_length card incoming)
    (checked_judged card incoming (unstarted card.mode.spi block) map))

-- a block that is not looked at: the record is as it was
abbrev pub unread : Card → Refusal → BlockJudged
unread card refusal = record { stepped = refused card refusal; storing = Nothing }

-- 15: "no block is expected"
abbrev pub state_judged : Card → State → List ℕ → List ℕ → BlockJudged
state_judged card Idle block map = unread card (by 15)
state_judged card Ready block map = unread card (by 15)
state_judged card Ident block map = unread card (by 15)
state_judged card Stby block map = unread card (by 15)
state_judged card Tran block map = unread card (by 15)
state_judged card (Data outgoing) block map = unread card (by 15)
state_judged card (Rcv incoming) block map = awaited_judged card incoming block map
state_judged card Prg block map = unread card (by 15)
state_judged card Dis block map = unread card (by 15)
state_judged card Ina block map = unread card (by 15)

-- a block in, judged: 12 before all else
unfoldable pub block_judged : Card → List ℕ → Seen → BlockJudged
block_judged card block seen =
    once_lent (lending_of seen card.registers.groups) (unread card) (state_judged card card.link.state block seen.map)

-- what is lent afterwards: "A good block is stored"; "Forced erase .. fills memory, clears the map"
abbrev pub stored_by : List ℕ → Storing → Lent → Lent
stored_by block Nothing lent = lent
stored_by block (Sector sector) lent = with_memory lent (sector_written lent.memory sector block)
stored_by block All lent = with_map (with_memory lent (all_erased lent.memory)) (map_cleared lent.map)
