-- Document 01, "Reading, writing, erasing, locking": a block out. "Block out: 12, 15, 6, 18, 21." Document 02, request 1: in SPI the start byte
-- comes first, and registers are sent as blocks.
-- Assumes nothing.
use Rattle.std.specs.Prelude.{Bool, false, not, List, [], ◌∷◌, ℕ, ◌+◌, leb, length, Ok, Some}
use Rattle.base.specs.Choice.{unless}
use Rattle.base.specs.Output.{fits, laid}
use Rattle.base.specs.Refusals.{by}
use Rattle.base.specs.declared.Refusal.{Refusal}
use Rattle.card_blocks.specs.Framing.{beside, with_start}
use Rattle.card_blocks.specs.Replies.{replied, refused}
use Rattle.card_blocks.specs.declared.OutJudged.{OutJudged}
use Rattle.card_blocks.specs.declared.Sending.{Sending}
use Rattle.card_blocks.specs.declared.Sending.TheVariants.{Nothing, Part, Protection, Csd, Cid}
use Rattle.card_record.specs.declared.Sent.TheVariants.{Nothing as Unsent}
use Rattle.crc.specs.Bits.{bits_of, octets}
use Rattle.card_record.specs.Record.{size_of, length_read, crosses, with_state, with_errors, with_link}
use Rattle.card_record.specs.declared.Card.{Card}
use Rattle.card_record.specs.declared.Registers.{Registers}
use Rattle.states.specs.declared.Outgoing.{Outgoing}
use Rattle.states.specs.declared.Outgoing.TheVariants.{One, Many, Protection as Bits, Csd as CsdOut, Cid as CidOut}
use Rattle.states.specs.declared.State.{State}
use Rattle.states.specs.declared.State.TheVariants.{Idle, Ready, Ident, Stby, Tran, Data, Rcv, Prg, Dis, Ina}
use Rattle.status.specs.ErrorBits.{error_bit}
use Rattle.status.specs.Status.{with_bit}
use Rattle.status.specs.declared.ErrorBit.{ErrorBit}
use Rattle.store.specs.Lent.{Lent, Seen, lending_of, once_lent}
use Rattle.store.specs.Map.{protection_bits}
use Rattle.store.specs.Memory.{contents, inside, part_of}
use Rattle.wire.specs.Blocks.{block_of}

-- a block that is not sent: the record is as it was
abbrev pub unsent : Card → Refusal → OutJudged
unsent card refusal = record { stepped = refused card refusal; sending = Nothing }

-- "a later block out that fails sets bit 31 (18) or 30 (21) and stays in data"
unfoldable pub out_refused : Card → Refusal → ErrorBit → OutJudged
out_refused card refusal bit =
    record { stepped = refused (with_link card (with_errors card.link (with_bit card.link.errors bit))) refusal; sending = Nothing }

-- a block of n bytes that goes out, and the state after it
unfoldable pub out_good : Card → State → ℕ → Sending → OutJudged
out_good card state n sending =
    record { stepped = replied (with_link card (with_state card.link state)) (Ok (Some (n + beside card.mode.spi))) Unsent; sending = sending }

-- after a block that goes out, with the address behind it: "After CMD17's block the card is in tran. CMD18 moves on by one block"; the
-- protection bits are read "as CMD17"
abbrev pub after_sent : Outgoing → ℕ → State
after_sent (One at) next = Tran
after_sent (Many at) next = Data (Many next)
after_sent (Bits group) next = Tran
after_sent CsdOut next = Tran
after_sent CidOut next = Tran

-- n bytes of memory from an address on: 6, 18, 21
unfoldable pub part_judged : Card → Outgoing → ℕ → ℕ → ℕ → OutJudged
part_judged card outgoing at n room =
    unless (leb (n + beside card.mode.spi) room) (unsent card (by 6))
    (unless (leb (at + n) (size_of card.registers.groups)) (out_refused card (by 18) (error_bit 31))
    (unless (not (crosses at n)) (out_refused card (by 21) (error_bit 30)) (out_good card (after_sent outgoing (at + n)) n (Part at n))))

-- "CMD30: 32 bits as 4 bytes .. then as CMD17, without 18 and 21", and so "CMD9 and 10 send the register as a block": 6
unfoldable pub bytes_judged : Card → ℕ → Sending → ℕ → OutJudged
bytes_judged card n sending room = unless (leb (n + beside card.mode.spi) room) (unsent card (by 6)) (out_good card Tran n sending)

-- what is to go out: "one block" of the block length, the protection bits, or a register
abbrev pub outgoing_judged : Card → Outgoing → ℕ → OutJudged
outgoing_judged card (One at) room = part_judged card (One at) at (length_read card.link.length) room
outgoing_judged card (Many at) room = part_judged card (Many at) at (length_read card.link.length) room
outgoing_judged card (Bits group) room = bytes_judged card 4 (Protection group) room
outgoing_judged card CsdOut room = bytes_judged card 16 Csd room
outgoing_judged card CidOut room = bytes_judged card 16 Cid room

-- 15: "none is to be read"
abbrev pub state_sends : Card → State → ℕ → OutJudged
state_sends card Idle room = unsent card (by 15)
state_sends card Ready room = unsent card (by 15)
state_sends card Ident room = unsent card (by 15)
state_sends card Stby room = unsent card (by 15)
state_sends card Tran room = unsent card (by 15)
state_sends card (Data outgoing) room = outgoing_judged card outgoing room
state_sends card (Rcv incoming) room = unsent card (by 15)
state_sends card Prg room = unsent card (by 15)
state_sends card Dis room = unsent card (by 15)
state_sends card Ina room = unsent card (by 15)

-- a block out, judged: 12 before all else
unfoldable pub out_judged : Card → Seen → ℕ → OutJudged
out_judged card seen room =
    once_lent (lending_of seen card.registers.groups) (unsent card) (state_sends card card.link.state room)

-- a part of the contents as a block; nothing where it does not lie in them
unfoldable pub part_block : List ℕ → ℕ → ℕ → List ℕ
part_block memory at n = unless (inside (contents memory) at n) [] (block_of (part_of (contents memory) at n))

-- "32 bits as 4 bytes, highest first"
unfoldable pub protection_bytes : List ℕ → ℕ → List ℕ
protection_bytes map group = octets 4 (bits_of 32 (protection_bits map group))

-- what goes out, payload and CRC16: "the map read as the block goes out"
abbrev pub block_for : Registers → Lent → Sending → List ℕ
block_for registers lent Nothing = []
block_for registers lent (Part at n) = part_block lent.memory at n
block_for registers lent (Protection group) = block_of (protection_bytes lent.map group)
block_for registers lent Csd = block_of registers.csd
block_for registers lent Cid = block_of registers.cid

-- bytes at the front of an output; as it was where they do not fit
unfoldable pub in_front : List ℕ → List ℕ → List ℕ
in_front bytes out = laid (fits bytes out) bytes out

-- a block at the front of the output, behind its start byte in SPI; where nothing goes out, as it was
abbrev pub block_laid : Bool → List ℕ → List ℕ → List ℕ
block_laid spi [] out = out
block_laid spi (b ∷ bs) out = in_front (with_start spi (b ∷ bs)) out

-- whether a block goes out whole, into so many bytes
abbrev pub sent_whole : List ℕ → ℕ → Bool
sent_whole [] room = false
sent_whole (b ∷ bs) room = leb (length (b ∷ bs)) room

-- the output afterwards
unfoldable pub sent_out : Card → Lent → Sending → List ℕ → List ℕ
sent_out card lent sending out = block_laid card.mode.spi (block_for card.registers lent sending) out
