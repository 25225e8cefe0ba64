-- Document 01, "Reading, writing, erasing, locking": the erase tags, and which sectors an erase takes.
-- Assumes nothing.
use Rattle.std.specs.Prelude.{Bool, false, ℕ, ◌/◌, leb}
use Rattle.base.specs.Choice.{pick}
use Rattle.base.specs.Sizes.{sector_size, erase_group_size}
use Rattle.tags.specs.declared.Kind.{Kind}
use Rattle.tags.specs.declared.Kind.TheVariants.{Sectors, Groups}
use Rattle.tags.specs.declared.Range.{Range}
use Rattle.tags.specs.declared.Range.TheVariants.{Nothing, Start, Full}
use Rattle.tags.specs.declared.Tags.{Tags}

-- from a start to an end, both with it
abbrev pub within : ℕ → ℕ → ℕ → Bool
within n first last = pick (leb first n) (leb n last) false

-- the bytes of what a kind counts
abbrev pub width : Kind → ℕ
width Sectors = sector_size
width Groups = erase_group_size

-- the number of a sector as the kind counts: an erase group is 8 sectors
abbrev pub counted : Kind → ℕ → ℕ
counted Sectors sector = sector
counted Groups sector = sector / 8

abbrev pub covers : Range → ℕ → Bool
covers Nothing sector = false
covers (Start kind first) sector = false
covers (Full kind first last) sector = within (counted kind sector) first last

-- whether an erase would take a sector: it lies from the start to the end, where both are tagged
abbrev pub tagged_of : Tags → ℕ → Bool
tagged_of tags sector = covers tags.range sector
