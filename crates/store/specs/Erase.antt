-- Document 01, "Reading, writing, erasing, locking": CMD38 "fills every tagged sector outside protection, sets bit 15 if any was spared".
-- Assumes nothing.
use Rattle.std.specs.Prelude.{◌≡◌, Bool, false, ◌&&◌, ◌||◌, not, List, ℕ, zero, suc, ◌/◌, ◌≤◌, ◌<◌, min, length, replicate}
use Rattle.base.specs.Choice.{pick}
use Rattle.base.specs.Sizes.{sector_size}
use Rattle.tags.specs.Tags.{tagged_of}
use Rattle.tags.specs.declared.Tags.{Tags}
use Rattle.store.specs.Map.{protected_in}
use Rattle.store.specs.Memory.{sector_written}

-- "An erased sector is 512 bytes of 0xFF"
unfoldable pub erased_sector : List ℕ
erased_sector = replicate sector_size 0xFF

-- the whole sectors of so many bytes, which have numbers of 32 bits
abbrev pub sectors_in : ℕ → ℕ
sectors_in bytes = min (bytes / sector_size) 4294967296

-- filled: tagged, and outside protection; spared: tagged, and protected
abbrev pub filled : List ℕ → Tags → Bool → ℕ → Bool
filled map tags whole sector = tagged_of tags sector && not (protected_in map whole sector)

abbrev pub spared : List ℕ → Tags → Bool → ℕ → Bool
spared map tags whole sector = tagged_of tags sector && protected_in map whole sector

unfoldable pub sector_erased : List ℕ → Tags → Bool → ℕ → List ℕ → List ℕ
sector_erased map tags whole sector card = pick (filled map tags whole sector) (sector_written card sector erased_sector) card

-- the contents after the first n sectors, one after the other
unfoldable pub erased_to : List ℕ → Tags → Bool → ℕ → List ℕ → List ℕ
erased_to map tags whole zero card = card
erased_to map tags whole (suc n) card = sector_erased map tags whole n (erased_to map tags whole n card)

-- whether one of the first n sectors is spared
unfoldable pub spared_to : List ℕ → Tags → Bool → ℕ → Bool
spared_to map tags whole zero = false
spared_to map tags whole (suc n) = spared_to map tags whole n || spared map tags whole n

-- an erase: each sector of the contents
unfoldable pub erased : List ℕ → Tags → Bool → List ℕ → List ℕ
erased map tags whole card = erased_to map tags whole (sectors_in (length card)) card

-- whether one is spared: of the contents only their length matters
unfoldable pub any_spared : List ℕ → Tags → Bool → ℕ → Bool
any_spared map tags whole bytes = spared_to map tags whole (sectors_in bytes)

-- sectors outside which nothing is tagged: from the first on, the end not among them
pub record Spans (tags : Tags) (first end : ℕ) : Type 0 where
  pub below : (sector : ℕ) → sector < first → tagged_of tags sector ≡ false
  pub above : (sector : ℕ) → end ≤ sector → tagged_of tags sector ≡ false
