-- What writing a sector means, at every byte and for every sector; and what an allowed size is.
--   written_length      the contents keep their length
--   written_here        in the sector stand the bytes written, the first 512 of those given
--   written_elsewhere   every byte outside the sector is as it was, also where nothing is written
--   read_back           the sector reads as the bytes written
--   others_kept         every other sector reads as before
--   read_part_back      and so does the part read from the sector's first byte on
--   same_sector         two contents that agree at the bytes of a sector have the same sector
--   sector_is           a sector is the bytes that stand at its places
--   erased_reads        contents that are all erased read as 0xFF
--   allowed_size        an allowed size lies between the bounds, and is one of whole protection groups
-- Assumes nothing.
use mathlib.Core.Path.{◌≡◌, sym, ap, ◌∙◌}
use mathlib.Core.Bool.{Bool, true, ◌&&◌}
use mathlib.Core.List.{List}
use Prim.Native.Nat.{ℕ, ◌+◌, ◌-◌, ◌*◌, ◌/◌, ◌%◌, ◌≤◌, ◌<◌, min}
use native.Mathlib.Omega.{arith}
use borrow.Author.Tests.{lt-ltb, ltb-true, ltb-false, le-leb, leb-true, eqb-true}
use lib.Dec.{eqb, leb, ltb}
use lib.ListN.{length, take, drop, get_or, replicate, length-take, length-drop, length-replicate, get_or-replicate}
use lib.Seq.{paste, length-paste, length-take-le, ext_get_or, get_or-take, get_or-drop}
use Rattle.base.proofs.Cases.{cases, first, last}
use Rattle.store.specs.Memory.{size_allowed, holds, sector_of, sector_written, part_read, all_erased}
use Rattle.store.proofs.Pasting.{under, over, past}

module _ (card bytes : List ℕ) (sector : ℕ) where
  -- whether the sector is written at all
  abbrev written : Bool
  written = leb 512 (length bytes) && holds card sector

  enough : written ≡ true → 512 ≤ length bytes
  enough t = leb-true 512 (length bytes) (first (leb 512 (length bytes)) (holds card sector) t)

  within : written ≡ true → sector * 512 + 512 ≤ length card
  within t = let h : sector < length card / 512 = ltb-true sector (length card / 512) (last (leb 512 (length bytes)) (holds card sector) t) in omega arith

  pub written_length : length (sector_written card sector bytes) ≡ length card
  unfolding sector_written
  written_length =
      cases written (λ t. simp t (length-paste card (sector * 512) bytes 512 (within t) (enough t))) (λ t. simp t)

  pub written_here : 512 ≤ length bytes → (p : ℕ) → p / 512 ≡ sector → sector < length card / 512 → get_or (sector_written card sector bytes) p 0 ≡ get_or bytes (p % 512) 0
  unfolding sector_written
  written_here long p here h =
      let place : p ≡ sector * 512 + p % 512 = omega arith in
      simp (le-leb 512 (length bytes) long, lt-ltb sector (length card / 512) h)
      (ap (λ (k : ℕ). get_or (paste card (sector * 512) bytes 512) k 0) place ∙ over card bytes (sector * 512) 512 (omega arith) long (p % 512) (omega arith))

  outside : (p : ℕ) → (p / 512 ≡ sector → ⊥) → 512 ≤ length bytes → sector * 512 + 512 ≤ length card → get_or (paste card (sector * 512) bytes 512) p 0 ≡ get_or card p 0
  outside p other long h =
      cases (ltb p (sector * 512))
      (λ t. under card bytes (sector * 512) 512 h long p (ltb-true p (sector * 512) t))
      (λ t.
      let lo : sector * 512 ≤ p = ltb-false p (sector * 512) t in
      cases (ltb p (sector * 512 + 512))
      (λ u. let hi : p < sector * 512 + 512 = ltb-true p (sector * 512 + 512) u in absurd (other (omega arith)))
      (λ u.
      let hi : sector * 512 + 512 ≤ p = ltb-false p (sector * 512 + 512) u in
      let place : p ≡ sector * 512 + 512 + (p - (sector * 512 + 512)) = omega arith in
      ap (λ (k : ℕ). get_or (paste card (sector * 512) bytes 512) k 0) place
      ∙ past card bytes (sector * 512) 512 h long (p - (sector * 512 + 512))
      ∙ ap (λ (k : ℕ). get_or card k 0) (sym place)))

  pub written_elsewhere : (p : ℕ) → (p / 512 ≡ sector → ⊥) → get_or (sector_written card sector bytes) p 0 ≡ get_or card p 0
  unfolding sector_written
  written_elsewhere p other = cases written (λ t. simp t (outside p other (enough t) (within t))) (λ t. simp t)

byte_of : (card : List ℕ) (sector i : ℕ) → i < 512 → get_or (sector_of card sector) i 0 ≡ get_or card (sector * 512 + i) 0
byte_of card sector i h = get_or-take 512 (drop (sector * 512) card) i 0 h ∙ get_or-drop (sector * 512) card i 0

sector_length : (card : List ℕ) (sector : ℕ) → length (sector_of card sector) ≡ min 512 (length card - sector * 512)
sector_length card sector = simp (length-take, length-drop)

pub same_sector : (a b : List ℕ) (sector : ℕ) → length a ≡ length b → ((p : ℕ) → p / 512 ≡ sector → get_or a p 0 ≡ get_or b p 0) → sector_of a sector ≡ sector_of b sector
same_sector a b sector e same =
    let la = sector_length a sector in
    let lb = sector_length b sector in
    ext_get_or 0 (sector_of a sector) (sector_of b sector) (omega arith)
    (λ i h. byte_of a sector i (omega arith) ∙ same (sector * 512 + i) (omega arith) ∙ sym (byte_of b sector i (omega arith)))

pub sector_is : (card bytes : List ℕ) (sector : ℕ) → length bytes ≡ 512 → sector < length card / 512
    → ((p : ℕ) → p / 512 ≡ sector → get_or card p 0 ≡ get_or bytes (p % 512) 0) → sector_of card sector ≡ bytes
sector_is card bytes sector long h same =
    let l = sector_length card sector in
    ext_get_or 0 (sector_of card sector) bytes (omega arith)
    (λ i hi.
    let low : (sector * 512 + i) % 512 ≡ i = omega arith in
    byte_of card sector i (omega arith) ∙ same (sector * 512 + i) (omega arith) ∙ ap (λ (k : ℕ). get_or bytes k 0) low)

module _ (card bytes : List ℕ) (sector : ℕ) where
  pub read_back : 512 ≤ length bytes → sector < length card / 512 → sector_of (sector_written card sector bytes) sector ≡ take 512 bytes
  read_back long h =
      sector_is (sector_written card sector bytes) (take 512 bytes) sector (length-take-le 512 bytes long) (omega (arith, written_length card bytes sector))
      (λ p here. written_here card bytes sector long p here h ∙ sym (get_or-take 512 bytes (p % 512) 0 (omega arith)))

  pub others_kept : (other : ℕ) → (other ≡ sector → ⊥) → sector_of (sector_written card sector bytes) other ≡ sector_of card other
  others_kept other ne =
      same_sector (sector_written card sector bytes) card other (written_length card bytes sector)
      (λ p there. written_elsewhere card bytes sector p (λ e. ne (sym there ∙ e)))

  -- a part of 512 bytes read from the sector's first byte on
  pub read_part_back : 512 ≤ length bytes → (out : List ℕ) → length out ≡ 512 → sector < length card / 512
      → part_read (sector_written card sector bytes) (sector * 512) out ≡ take 512 bytes
  unfolding part_read
  read_part_back long out e h =
      let in_memory : sector * 512 + 512 ≤ length (sector_written card sector bytes) = omega (arith, written_length card bytes sector) in
      simp (e, le-leb _ _ in_memory) (read_back long h)

replicate_part : (v n m at : ℕ) → at + n ≤ m → take n (drop at (replicate m v)) ≡ replicate n v
replicate_part v n m at h =
    let l : length (take n (drop at (replicate m v))) ≡ n = simp (length-take, length-drop, length-replicate) (omega arith) in
    let r : length (replicate n v) ≡ n = length-replicate n v in
    ext_get_or 0 (take n (drop at (replicate m v))) (replicate n v) (l ∙ sym r)
    (λ i hi.
    get_or-take n (drop at (replicate m v)) i 0 (omega arith)
    ∙ get_or-drop at (replicate m v) i 0
    ∙ get_or-replicate m (at + i) v 0 (omega arith)
    ∙ sym (get_or-replicate n i v 0 (omega arith)))

pub erased_reads : (card out : List ℕ) (at : ℕ) → at + length out ≤ length card → part_read (all_erased card) at out ≡ replicate (length out) 0xFF
unfolding part_read
erased_reads card out at h =
    simp (length-replicate, le-leb _ _ h) (replicate_part 0xFF (length out) (length card) at h)

pub allowed_size : (bytes : ℕ) → size_allowed bytes ≡ true → (8192 ≤ bytes) × (bytes ≤ 33554432) × (bytes % 8192 ≡ 0)
allowed_size bytes e =
    let bounds = first (leb 8192 bytes && leb bytes 33554432) (eqb (bytes % 8192) 0) e in (
      leb-true 8192 bytes (first (leb 8192 bytes) (leb bytes 33554432) bounds),
      leb-true bytes 33554432 (last (leb 8192 bytes) (leb bytes 33554432) bounds),
      eqb-true (bytes % 8192) 0 (last (leb 8192 bytes && leb bytes 33554432) (eqb (bytes % 8192) 0) e),
    )
