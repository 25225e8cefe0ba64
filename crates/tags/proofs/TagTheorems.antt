-- What tag commands do, whatever comes in.
--   start_error_drops, end_error_drops   an error drops the tags
--   made_none, made_start, made_end      tags that these commands make are ordered, of sectors in one erase group, and below the size
--   error_leaves_none   and then nothing is tagged, not even a start: computed
--   at_the_size, last_byte, kind_before_order, next_group, next_group_tagged, one_sector, new_end, wrong_new_end   computed
-- Assumes nothing.
use mathlib.Core.Path.{◌≡◌, refl, sym, subst}
use mathlib.Core.Bool.{Bool, true, false}
use Prim.Native.Nat.{ℕ, ◌*◌, ◌≤◌, ◌<◌}
use native.Mathlib.Omega.{arith}
use borrow.Author.Tests.{ltb-true, leb-true}
use lib.Dec.{leb, ltb}
use Rattle.base.proofs.Cases.{clash}
use Rattle.base.specs.Choice.{unless}
use Rattle.status.specs.ErrorBits.{error_bit}
use Rattle.status.specs.declared.ErrorBit.{ErrorBit}
use Rattle.tags.specs.Made.{MadeTags}
use Rattle.tags.specs.Tagging.{tags_of, no_tags, any_of, place_in, tag_failed, made, has_start, first_of, one_group, start_tagged, end_at, end_tagged}
use Rattle.tags.specs.Tags.{width}
use Rattle.tags.specs.declared.Kind.{Kind}
use Rattle.tags.specs.declared.Kind.TheVariants.{Sectors, Groups}
use Rattle.tags.specs.declared.Range.{Range}
use Rattle.tags.specs.declared.Range.TheVariants.{Nothing, Start, Full}
use Rattle.tags.specs.declared.Tagging.{Tagging}
use Rattle.tags.specs.declared.Tags.{Tags}
use Rattle.std.specs.Prelude.{Some}

-- what holds of the refusal, and of the rest where the test holds, holds after the test
either : (P : Tagging → Type 0) (t : Bool) (refusal rest : Tagging) → P refusal → (t ≡ true → P rest) → P (unless t refusal rest)
either P true refusal rest bad good = good refl
either P false refusal rest bad good = bad

-- a tag command either fails with some bit or makes what it names, and then its tests held
module _ (P : Tagging → Type 0) (bad : (bit : ErrorBit) → P (tag_failed bit)) (kind : Kind) (address size : ℕ) where
  after_start : (address < size → P (made (Start kind (place_in kind address)))) → P (start_tagged kind address size)
  unfolding start_tagged
  after_start good =
      either P (ltb address size) (tag_failed (error_bit 31)) (made (Start kind (place_in kind address))) (bad (error_bit 31))
      (λ t. good (ltb-true address size t))

  after_ended : (first last : ℕ) → (first ≤ last → one_group kind first last ≡ true → P (made (Full kind first last))) → P (end_at kind first last)
  after_ended first last good =
      either P (leb first last) (tag_failed (error_bit 27)) _ (bad (error_bit 27))
      (λ t.
      either P (one_group kind first last) (tag_failed (error_bit 27)) (made (Full kind first last)) (bad (error_bit 27))
      (good (leb-true first last t)))

  after_end : (tags : Tags)
      → ((first last : ℕ) → last ≡ place_in kind address → address < size → first ≤ last → one_group kind first last ≡ true → P (made (Full kind first last)))
      → P (end_tagged tags kind address size)
  unfolding end_tagged
  after_end tags good =
      let first : ℕ = first_of tags.range in
      let last : ℕ = place_in kind address in
      either P (ltb address size) (tag_failed (error_bit 31)) _ (bad (error_bit 31))
      (λ t.
      either P (has_start kind tags.range) (tag_failed (error_bit 28)) (end_at kind first last) (bad (error_bit 28))
      (λ u. after_ended first last (good first last refl (ltb-true address size t))))

-- ---- errors drop tags
abbrev pub Drops : Tagging → Type 0
Drops t = (bit : ErrorBit) → t.error ≡ Some bit → t.tags ≡ no_tags

failed_drops : (bit : ErrorBit) → Drops (tag_failed bit)
failed_drops bit other e = refl

made_drops : (range : Range) → Drops (made range)
made_drops range bit e = clash cc

pub start_error_drops : (kind : Kind) (address size : ℕ) → Drops (start_tagged kind address size)
start_error_drops kind address size = after_start Drops failed_drops kind address size (λ h. made_drops (Start kind (place_in kind address)))

pub end_error_drops : (tags : Tags) (kind : Kind) (address size : ℕ) → Drops (end_tagged tags kind address size)
end_error_drops tags kind address size =
    after_end Drops failed_drops kind address size tags (λ first last e h le one. made_drops (Full kind first last))

-- an end at the size, where a start was tagged
pub error_leaves_none : ((end_tagged (tags_of (Start Sectors 3)) Sectors 8192 8192).tags.range ≡ Nothing) × (any_of no_tags ≡ false)
unfolding end_tagged
error_leaves_none = (refl, refl)

-- ---- tags as they are made
below_size : (kind : Kind) (address size : ℕ) → address < size → place_in kind address * width kind < size
below_size Sectors address size h = omega arith
below_size Groups address size h = omega arith

abbrev pub Makes : ℕ → Tagging → Type 0
Makes size t = MadeTags size t.tags

pub made_none : (size : ℕ) → MadeTags size no_tags
made_none size = tt

pub made_start : (kind : Kind) (address size : ℕ) → Makes size (start_tagged kind address size)
made_start kind address size = after_start (Makes size) (λ bit. tt) kind address size (below_size kind address size)

pub made_end : (tags : Tags) (kind : Kind) (address size : ℕ) → Makes size (end_tagged tags kind address size)
made_end tags kind address size =
    after_end (Makes size) (λ bit. tt) kind address size tags
    (λ first last e h le one. (le, (one, subst (λ (n : ℕ). n * width kind < size) (sym e) (below_size kind address size h))))

-- ---- computed, in a memory of 8,192 bytes
-- an address at the size is out of range, and that is told before the missing start
pub at_the_size : (start_tagged Sectors 8192 8192 ≡ tag_failed (error_bit 31)) × (end_tagged no_tags Groups 8192 8192 ≡ tag_failed (error_bit 31))
unfolding start_tagged end_tagged
at_the_size = (refl, refl)

-- the last byte is in range
pub last_byte : (start_tagged Sectors 8191 8192 ≡ made (Start Sectors 15)) × (start_tagged Groups 8191 8192 ≡ made (Start Groups 1))
unfolding start_tagged
last_byte = (refl, refl)

-- a start of the other kind is none, and that is told before an end that lies before it
pub kind_before_order : end_tagged (tags_of (Start Groups 9)) Sectors 0 8192 ≡ tag_failed (error_bit 28)
unfolding end_tagged
kind_before_order = refl

-- sectors end in the erase group of their start, groups need not
pub next_group : end_tagged (tags_of (Start Sectors 7)) Sectors 4096 8192 ≡ tag_failed (error_bit 27)
unfolding end_tagged
next_group = refl

pub next_group_tagged : end_tagged (tags_of (Start Groups 0)) Groups 4096 8192 ≡ made (Full Groups 0 1)
unfolding end_tagged
next_group_tagged = refl

-- start 1023 and end 512 lie in one sector
pub one_sector : end_tagged (start_tagged Sectors 1023 8192).tags Sectors 512 8192 ≡ made (Full Sectors 1 1)
unfolding start_tagged end_tagged
one_sector = refl

-- a new end replaces the old one, and a wrong new end drops everything
pub new_end : end_tagged (tags_of (Full Sectors 1 5)) Sectors 1024 8192 ≡ made (Full Sectors 1 2)
unfolding end_tagged
new_end = refl

pub wrong_new_end : end_tagged (tags_of (Full Sectors 1 5)) Sectors 511 8192 ≡ tag_failed (error_bit 27)
unfolding end_tagged
wrong_new_end = refl
