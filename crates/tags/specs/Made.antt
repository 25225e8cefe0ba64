-- Tags that tag commands make in a memory of a size.
-- Assumes nothing.
use Rattle.std.specs.Prelude.{◌≡◌, true, ℕ, ◌*◌, ◌≤◌, ◌<◌}
use Rattle.tags.specs.Tagging.{one_group}
use Rattle.tags.specs.Tags.{width}
use Rattle.tags.specs.declared.Range.{Range}
use Rattle.tags.specs.declared.Range.TheVariants.{Nothing, Start, Full}
use Rattle.tags.specs.declared.Tags.{Tags}

-- a start begins below the size; an end does too, is not before its start and, of sectors, lies in the start's erase group
abbrev pub MadeRange : ℕ → Range → Type 0
MadeRange size Nothing = Unit {0}
MadeRange size (Start kind first) = first * width kind < size
MadeRange size (Full kind first last) = (first ≤ last) × ((one_group kind first last ≡ true) × (last * width kind < size))

abbrev pub MadeTags : ℕ → Tags → Type 0
MadeTags size tags = MadeRange size tags.range
