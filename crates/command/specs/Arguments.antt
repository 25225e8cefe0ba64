-- Document 01, "How a card takes a frame", check 6: "Argument errors: R1 with the bit, no move", by the rules under "Reading, writing,
-- erasing, locking". `length` is the block length as it is read, `size` the bytes of memory. Sums of addresses never wrap.
-- Assumes nothing.
use Rattle.std.specs.Prelude.{not, [], ◌∷◌, ℕ, ◌+◌, ◌/◌, ◌%◌, eqb, leb, ltb, Option, Some, None}
use Rattle.base.specs.Choice.{pick, unless}
use Rattle.base.specs.Sizes.{sector_size}
use Rattle.moves.specs.Indices.{among}
use Rattle.card_record.specs.Record.{crosses}
use Rattle.status.specs.ErrorBits.{error_bit}
use Rattle.wire.specs.Blocks.{longest_block}
use Rattle.status.specs.declared.ErrorBit.{ErrorBit}

-- 3: "address 0: bit 31, stays"
abbrev pub address_fault : ℕ → Option ErrorBit
address_fault argument = unless (leb 1 (argument / 65536)) (Some (error_bit 31)) None

-- "CMD16: length 1 to 2,048, else bit 29"
abbrev pub length_fault : ℕ → Option ErrorBit
length_fault argument = unless (leb 1 argument) (Some (error_bit 29)) (unless (leb argument longest_block) (Some (error_bit 29)) None)

-- "CMD17, 18: block past the end, bit 31; else crossing a multiple of 2,048, bit 30"
abbrev pub read_fault : ℕ → ℕ → ℕ → Option ErrorBit
read_fault argument length size =
    unless (leb (argument + length) size) (Some (error_bit 31)) (unless (not (crosses argument length)) (Some (error_bit 30)) None)

-- "CMD24, 25: length must be 512 (bit 29), then in range (31), then aligned to 512 (30)": the whole block is in range
abbrev pub write_fault : ℕ → ℕ → ℕ → Option ErrorBit
write_fault argument length size =
    unless (eqb length sector_size) (Some (error_bit 29))
    (unless (leb (argument + sector_size) size) (Some (error_bit 31)) (unless (eqb (argument % sector_size) 0) (Some (error_bit 30)) None))

-- "For CMD28 to 30 an address past the end: bit 31"
abbrev pub group_fault : ℕ → ℕ → Option ErrorBit
group_fault argument size = unless (ltb argument size) (Some (error_bit 31)) None

-- by the index; the erase commands have their own order (tags, specs/Tagging.antt)
unfoldable pub argument_fault : ℕ → ℕ → ℕ → ℕ → Option ErrorBit
argument_fault index argument length size =
    pick (among index (3 ∷ [])) (address_fault argument)
    (pick (among index (16 ∷ [])) (length_fault argument)
    (pick (among index (17 ∷ 18 ∷ [])) (read_fault argument length size)
    (pick (among index (24 ∷ 25 ∷ [])) (write_fault argument length size)
    (pick (among index (28 ∷ 29 ∷ 30 ∷ [])) (group_fault argument size) None))))
