-- Sectors outside which nothing is tagged.
--   none_tagged      no sectors, where no range is tagged
--   sectors_tagged_lem   the sectors of a range of sectors
--   groups_tagged    those of a range of erase groups, 8 sectors each
-- Assumes nothing.
use mathlib.Core.Path.{◌≡◌, refl, ap, ◌∙◌}
use mathlib.Core.Bool.{Bool, true, false}
use Prim.Native.Nat.{ℕ, ◌+◌, ◌*◌, ◌/◌, ◌<◌}
use native.Mathlib.Omega.{arith}
use borrow.Author.Tests.{lt-leb}
use lib.Dec.{leb}
use Rattle.base.specs.Choice.{pick}
use Rattle.tags.specs.Tags.{within, covers, tagged_of}
use Rattle.tags.specs.declared.Kind.{Kind}
use Rattle.tags.specs.declared.Kind.TheVariants.{Sectors, Groups}
use Rattle.tags.specs.declared.Range.{Range}
use Rattle.tags.specs.declared.Range.TheVariants.{Full}
use Rattle.tags.specs.declared.Tags.{Tags}
use Rattle.store.specs.Erase.{Spans}

before_first : (n first last : ℕ) → n < first → within n first last ≡ false
before_first n first last h = simp (lt-leb first n h)

neither : (t : Bool) → pick t false false ≡ false
neither true = refl
neither false = refl

past_last : (n first last : ℕ) → last < n → within n first last ≡ false
past_last n first last h = simp (lt-leb n last h) (neither (leb first n))

module _ (tags : Tags) where
  pub none_tagged : ((sector : ℕ) → tagged_of tags sector ≡ false) → Spans tags 0 0
  none_tagged e = record { below = λ sector h. e sector; above = λ sector h. e sector }

  module _ (kind : Kind) (first last : ℕ) (e : tags.range ≡ Full kind first last) where
    pub sectors_tagged_lem : kind ≡ Sectors → Spans tags first (last + 1)
    sectors_tagged_lem k =
        let is : tags.range ≡ Full Sectors first last = e ∙ ap (λ (x : Kind). Full x first last) k in
        record {
          below = λ sector h. ap (λ (r : Range). covers r sector) is ∙ before_first sector first last h;
          above = λ sector h. ap (λ (r : Range). covers r sector) is ∙ past_last sector first last (omega arith);
        }

    pub groups_tagged : kind ≡ Groups → Spans tags (first * 8) (last * 8 + 8)
    groups_tagged k =
        let is : tags.range ≡ Full Groups first last = e ∙ ap (λ (x : Kind). Full x first last) k in
        record {
          below = λ sector h. ap (λ (r : Range). covers r sector) is ∙ before_first (sector / 8) first last (omega arith);
          above = λ sector h. ap (λ (r : Range). covers r sector) is ∙ past_last (sector / 8) first last (omega arith);
        }
