-- Document 01, "Memory of one card" and "How a card takes a frame": what is read off a card's record.
-- Assumes nothing.
use Rattle.std.specs.Prelude.{Bool, ◌||◌, List, ℕ, ◌+◌, ◌*◌, ◌-◌, ◌/◌, ◌%◌, ◌^◌, eqb, leb, ltb, get_or}
use Rattle.base.specs.Choice.{unless}
use Rattle.base.specs.Sizes.{protection_group_size, read_block_size}
use Rattle.lock.specs.declared.Lock.{Lock}
use Rattle.states.specs.declared.State.{State}
use Rattle.status.specs.declared.Errors.{Errors}
use Rattle.tags.specs.declared.Tags.{Tags}
use Rattle.wire.specs.Blocks.{longest_block}
use Rattle.card_record.specs.declared.Card.{Card}
use Rattle.card_record.specs.declared.Link.{Link}
use Rattle.card_record.specs.declared.Mode.{Mode}

-- the bytes of a memory of so many protection groups
abbrev pub size_of : ℕ → ℕ
size_of groups = groups * protection_group_size

-- a bit of a register of 16 bytes, the first byte highest: bit 127 is the highest bit of byte 0
abbrev pub register_bit : ℕ → List ℕ → ℕ
register_bit k register = get_or register (15 - k / 8) 0 / 2 ^ (k % 8) % 2

-- "CSD bit 13 (permanent) or 12 (temporary) protects the whole card"
abbrev pub csd_protects : List ℕ → Bool
csd_protects csd = eqb (register_bit 13 csd) 1 || eqb (register_bit 12 csd) 1

-- a block length as it is read: one of 0 or over 2,048, which no CMD16 sets, reads as 2,048
abbrev pub length_read : ℕ → ℕ
length_read length = unless (leb 1 length) longest_block (unless (leb length longest_block) longest_block length)

-- whether a block goes on past the physical read block in which it begins: "crossing a multiple of 2,048"
abbrev pub crosses : ℕ → ℕ → Bool
crosses at length = ltb read_block_size (at % read_block_size + length)

-- a link, or a card, with one part changed and the others as they were
abbrev pub with_state : Link → State → Link
with_state link s = record { state = s; address = link.address; length = link.length; errors = link.errors; tags = link.tags }

abbrev pub with_errors : Link → Errors → Link
with_errors link e = record { state = link.state; address = link.address; length = link.length; errors = e; tags = link.tags }

abbrev pub with_tags : Link → Tags → Link
with_tags link t = record { state = link.state; address = link.address; length = link.length; errors = link.errors; tags = t }

abbrev pub with_link : Card → Link → Card
with_link card l = record { registers = card.registers; lock = card.lock; link = l; mode = card.mode }

abbrev pub with_lock : Card → Lock → Card
with_lock card l = record { registers = card.registers; lock = l; link = card.link; mode = card.mode }

abbrev pub with_mode : Card → Mode → Card
with_mode card m = record { registers = card.registers; lock = card.lock; link = card.link; mode = m }
