-- The tags that an erase of sectors is measured with.
-- Assumes nothing.
use Rattle.std.specs.Prelude.{ℕ}
use Rattle.tags.specs.Tagging.{tags_of}
use Rattle.tags.specs.declared.Kind.TheVariants.{Sectors}
use Rattle.tags.specs.declared.Range.TheVariants.{Full}
use Rattle.tags.specs.declared.Tags.{Tags}

-- sectors tagged, from the first to the last
abbrev pub sectors_tagged : ℕ → ℕ → Tags
sectors_tagged first last = tags_of (Full Sectors first last)
