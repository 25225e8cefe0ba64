-- Document 01, "Memory of one card": the contents of a card, read and written in sectors.
-- Assumes nothing.
use Rattle.std.specs.Prelude.{Bool, ◌&&◌, List, ℕ, ◌+◌, ◌*◌, ◌/◌, ◌%◌, eqb, leb, ltb, length, take, drop, replicate}
use Rattle.std.proofs.Math.Seq.{paste}
use Rattle.base.specs.Choice.{pick}
use Rattle.base.specs.Sizes.{sector_size, protection_group_size}

-- the card's contents: each byte of the lent memory, so that what is said of the contents is said of every lent byte
abbrev pub contents : List ℕ → List ℕ
contents memory = memory

-- "8,192 to 33,554,432 bytes, a multiple of 8,192"
abbrev pub size_allowed : ℕ → Bool
size_allowed bytes = leb protection_group_size bytes && leb bytes 33554432 && eqb (bytes % protection_group_size) 0

-- whether a whole sector of this number lies in the contents, and its bytes
abbrev pub holds : List ℕ → ℕ → Bool
holds card sector = ltb sector (length card / sector_size)

abbrev pub sector_of : List ℕ → ℕ → List ℕ
sector_of card sector = take sector_size (drop (sector * sector_size) card)

-- a sector with the first of these bytes, as many as it has, written over it; fewer bytes, and what is no sector of the contents, leave
-- everything alone
unfoldable pub sector_written : List ℕ → ℕ → List ℕ → List ℕ
sector_written card sector bytes =
    pick (leb sector_size (length bytes) && holds card sector) (paste card (sector * sector_size) bytes sector_size) card

-- whether n bytes from a place on lie in the contents, and these bytes
abbrev pub inside : List ℕ → ℕ → ℕ → Bool
inside card at n = leb (at + n) (length card)

abbrev pub part_of : List ℕ → ℕ → ℕ → List ℕ
part_of card at n = take n (drop at card)

-- an output with the contents from a place on over all of it, or as it was where they do not reach so far
unfoldable pub part_read : List ℕ → ℕ → List ℕ → List ℕ
part_read card at out = pick (inside card at (length out)) (part_of card at (length out)) out

-- "forced erase .. fills memory"
abbrev pub all_erased : List ℕ → List ℕ
all_erased card = replicate (length card) 0xFF
