-- Document 01, "Reading, writing, erasing, locking": "CMD32, 35 tag a start; 33, 36 an end."
-- Assumes nothing.
use Rattle.std.specs.Prelude.{Bool, true, false, ℕ, ◌/◌, eqb, leb, ltb, Some, None}
use Rattle.base.specs.Choice.{unless}
use Rattle.status.specs.ErrorBits.{error_bit}
use Rattle.status.specs.declared.ErrorBit.{ErrorBit}
use Rattle.tags.specs.Tags.{width, counted}
use Rattle.tags.specs.declared.Kind.{Kind}
use Rattle.tags.specs.declared.Kind.TheVariants.{Sectors, Groups}
use Rattle.tags.specs.declared.Range.{Range}
use Rattle.tags.specs.declared.Range.TheVariants.{Nothing, Start, Full}
use Rattle.tags.specs.declared.Tagging.{Tagging}
use Rattle.tags.specs.declared.Tags.{Tags}

-- tags anew: nothing of the old ones stays
abbrev pub tags_of : Range → Tags
tags_of range = record { range = range }

-- what a drop of the tags leaves
abbrev pub no_tags : Tags
no_tags = tags_of Nothing

-- whether there is something to drop: a start alone is tags too
abbrev pub any_in : Range → Bool
any_in Nothing = false
any_in (Start kind first) = true
any_in (Full kind first last) = true

abbrev pub any_of : Tags → Bool
any_of tags = any_in tags.range

-- "CMD38 needs both": a start and an end
abbrev pub is_full : Range → Bool
is_full Nothing = false
is_full (Start kind first) = false
is_full (Full kind first last) = true

abbrev pub is_complete : Tags → Bool
is_complete tags = is_full tags.range

-- "An address stands for the sector or group it lies in"
abbrev pub place_in : Kind → ℕ → ℕ
place_in kind address = address / width kind

-- "An error in 32-38 drops tags"
abbrev pub tag_failed : ErrorBit → Tagging
tag_failed bit = record { tags = no_tags; error = Some bit }

-- a tag command without an error leaves the tags that it makes, and none of the old ones
abbrev pub made : Range → Tagging
made range = record { tags = tags_of range; error = None }

-- CMD32 for sectors, CMD35 for groups. "Order: range (31)"; "A new start replaces all tags"
unfoldable pub start_tagged : Kind → ℕ → ℕ → Tagging
start_tagged kind address size = unless (ltb address size) (tag_failed (error_bit 31)) (made (Start kind (place_in kind address)))

abbrev pub same_kind : Kind → Kind → Bool
same_kind Sectors Sectors = true
same_kind Sectors Groups = false
same_kind Groups Sectors = false
same_kind Groups Groups = true

-- whether there is a start of a kind: one that has its end already is still a start
abbrev pub has_start : Kind → Range → Bool
has_start kind Nothing = false
has_start kind (Start of first) = same_kind kind of
has_start kind (Full of first last) = same_kind kind of

-- the start, where there is one
abbrev pub first_of : Range → ℕ
first_of Nothing = 0
first_of (Start kind first) = first
first_of (Full kind first last) = first

-- no "sector in another erase group": for sectors alone, the end lies in the start's erase group
abbrev pub one_group : Kind → ℕ → ℕ → Bool
one_group Sectors first last = eqb (counted Groups first) (counted Groups last)
one_group Groups first last = true

-- CMD33 for sectors, CMD36 for groups, from the start at `first` to the end at `last`.
-- "an end before the start, or a sector in another erase group (27)"; "A new start replaces all tags, a new end the old end"
abbrev pub end_at : Kind → ℕ → ℕ → Tagging
end_at kind first last =
    unless (leb first last) (tag_failed (error_bit 27)) (unless (one_group kind first last) (tag_failed (error_bit 27)) (made (Full kind first last)))

-- "Order: range (31); an end with no start of its kind (28)"; and then 27
unfoldable pub end_tagged : Tags → Kind → ℕ → ℕ → Tagging
end_tagged tags kind address size =
    unless (ltb address size) (tag_failed (error_bit 31))
    (unless (has_start kind tags.range) (tag_failed (error_bit 28)) (end_at kind (first_of tags.range) (place_in kind address)))
