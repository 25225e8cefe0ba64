-- Which sectors an erase takes.
--   tagged_in_memory          of tags that commands made in a memory of n protection groups, what is tagged lies in memory
--   range_ends, group_ends    both ends are taken and nothing outside them, of sectors and of erase groups: computed
--   both_tagged, lone_start   a start and an end are what CMD38 needs; a start alone is tags, and not that, and takes nothing: computed
-- Assumes nothing.
use mathlib.Core.Path.{◌≡◌, refl}
use mathlib.Core.Bool.{Bool, true, false}
use mathlib.Core.List.{List, [], ◌∷◌, map}
use Prim.Native.Nat.{ℕ, ◌*◌, ◌/◌, ◌≤◌, ◌<◌}
use native.Mathlib.Omega.{arith}
use borrow.Author.Tests.{leb-true}
use lib.Dec.{leb}
use Rattle.base.proofs.Cases.{never}
use Rattle.base.specs.Choice.{pick}
use Rattle.base.specs.Sizes.{protection_group_size}
use Rattle.tags.specs.Made.{MadeRange, MadeTags}
use Rattle.tags.specs.Tagging.{tags_of, any_of, is_complete}
use Rattle.tags.specs.Tags.{covers, tagged_of}
use Rattle.tags.specs.declared.Kind.TheVariants.{Sectors, Groups}
use Rattle.tags.specs.declared.Range.{Range}
use Rattle.tags.specs.declared.Range.TheVariants.{Nothing, Start, Full}
use Rattle.tags.specs.declared.Tags.{Tags}

before_end : (t : Bool) (n last : ℕ) → pick t (leb n last) false ≡ true → n ≤ last
before_end true n last e = leb-true n last e
before_end false n last e = never e

range_in_memory : (n s : ℕ) (range : Range) → MadeRange (n * protection_group_size) range → covers range s ≡ true → s < n * 16
range_in_memory n s Nothing made e = never e
range_in_memory n s (Start kind first) made e = never e
range_in_memory n s (Full Sectors first last) made e = let h = before_end (leb first s) s last e in omega arith
range_in_memory n s (Full Groups first last) made e = let h = before_end (leb first (s / 8)) (s / 8) last e in omega arith

pub tagged_in_memory : (n s : ℕ) (tags : Tags) → MadeTags (n * protection_group_size) tags → tagged_of tags s ≡ true → s < n * 16
tagged_in_memory n s tags made e = range_in_memory n s tags.range made e

-- ---- computed
abbrev tagged_at : Range → List ℕ → List Bool
tagged_at range sectors = map (tagged_of (tags_of range)) sectors

pub range_ends : tagged_at (Full Sectors 3 5) (2 ∷ 3 ∷ 5 ∷ 6 ∷ []) ≡ false ∷ true ∷ true ∷ false ∷ []
range_ends = refl

pub group_ends : tagged_at (Full Groups 1 2) (7 ∷ 8 ∷ 23 ∷ 24 ∷ []) ≡ false ∷ true ∷ true ∷ false ∷ []
group_ends = refl

pub both_tagged : is_complete (tags_of (Full Sectors 3 5)) ≡ true
both_tagged = refl

pub lone_start : (any_of (tags_of (Start Sectors 3)) ≡ true) × (is_complete (tags_of (Start Sectors 3)) ≡ false) × (tagged_at (Start Sectors 3) (3 ∷ []) ≡ false ∷ [])
lone_start = (refl, refl, refl)
