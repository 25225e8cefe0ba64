-- What an erase means, at every byte and for every sector; m stands for the map, t for the tags, w for a card that is protected whole.
--   erased_length     the contents keep their length
--   erased_byte       a byte of a sector is 0xFF if its sector is tagged and not protected, else as it was
--   erased_past       every byte past the last sector is as it was
--   filled_erased     a sector that is tagged and not protected is erased
--   others_spared     every other sector is as it was
--   protected_kept    so a protected sector is, whatever its neighbours are
--   in_a_sector       each byte lies in a sector of the contents, where these are whole sectors and no more than numbers of 32 bits tell apart
--   spared_some       if any was spared, then a sector of the contents is tagged and protected
--   spared_told_lem       if a sector of the contents is tagged and protected, then one was spared
-- Assumes nothing.
use mathlib.Core.Path.{◌≡◌, refl, sym, ap, ◌∙◌}
use mathlib.Core.Bool.{Bool, true, false, and-false, or-true}
use mathlib.Core.List.{List}
use mathlib.Core.Logic.{⊎_elim}
use Prim.Native.Nat.{ℕ, zero, suc, ◌/◌, ◌%◌, ◌≤◌, ◌<◌}
use native.Mathlib.Nat.{eq-or-lt_of_le, le_of_suc-le-suc}
use native.Mathlib.Omega.{arith}
use lib.ListN.{length, get_or, get_or-replicate}
use Rattle.base.specs.Choice.{pick}
use Rattle.base.proofs.Cases.{cases, never, opposite, first, last}
use Rattle.tags.specs.Tags.{tagged_of}
use Rattle.tags.specs.declared.Tags.{Tags}
use Rattle.store.specs.Erase.{erased_sector, sectors_in, filled, spared, sector_erased, erased_to, spared_to, erased, any_spared}
use Rattle.store.specs.Map.{protected_in}
use Rattle.store.specs.Memory.{sector_of}
use Rattle.store.proofs.Sectors.{written_length, written_here, written_elsewhere, same_sector, sector_is}

blank_length : length erased_sector ≡ 512
unfolding erased_sector
blank_length = refl

blank_byte : (i : ℕ) → i < 512 → get_or erased_sector i 0 ≡ 0xFF
unfolding erased_sector
blank_byte i h = get_or-replicate 512 i 0xFF 0 h

module _ (m : List ℕ) (t : Tags) (w : Bool) where
  one_length : (s : ℕ) (card : List ℕ) → length (sector_erased m t w s card) ≡ length card
  unfolding sector_erased
  one_length s card =
      cases (filled m t w s) (λ f. simp f (written_length card erased_sector s)) (λ f. simp f)

  -- a byte outside the sector, or of a sector that is not filled
  one_kept : (s p : ℕ) (card : List ℕ) → (p / 512 ≡ s → filled m t w s ≡ false) → get_or (sector_erased m t w s card) p 0 ≡ get_or card p 0
  unfolding sector_erased
  one_kept s p card h =
      cases (filled m t w s)
      (λ f. simp f (written_elsewhere card erased_sector s p (λ e. opposite (filled m t w s) f (h e))))
      (λ f. simp f)

  one_filled : (s p : ℕ) (card : List ℕ) → p / 512 ≡ s → s < length card / 512 → filled m t w s ≡ true → get_or (sector_erased m t w s card) p 0 ≡ 0xFF
  unfolding sector_erased
  one_filled s p card e h f = simp f (written_here card erased_sector s (omega (arith, blank_length)) p e h ∙ blank_byte (p % 512) (omega arith))

  to_length : (n : ℕ) (card : List ℕ) → length (erased_to m t w n card) ≡ length card
  unfolding erased_to
  to_length zero card = refl
  to_length (suc n) card = one_length n (erased_to m t w n card) ∙ to_length n card

  to_kept : (n p : ℕ) (card : List ℕ) → (p / 512 < n → filled m t w (p / 512) ≡ false) → get_or (erased_to m t w n card) p 0 ≡ get_or card p 0
  unfolding erased_to
  to_kept zero p card h = refl
  to_kept (suc n) p card h =
      one_kept n p (erased_to m t w n card) (λ e. sym (ap (filled m t w) e) ∙ h (omega arith))
      ∙ to_kept n p card (λ l. h (omega arith))

  to_filled : (n p : ℕ) (card : List ℕ) → p / 512 < n → n ≤ length card / 512 → filled m t w (p / 512) ≡ true → get_or (erased_to m t w n card) p 0 ≡ 0xFF
  unfolding erased_to
  to_filled zero p card l h f = absurd (omega arith)
  to_filled (suc n) p card l h f =
      ⊎_elim
      (λ (e : p / 512 ≡ n). one_filled n p (erased_to m t w n card) e (omega (arith, to_length n card)) (sym (ap (filled m t w) e) ∙ f))
      (λ (b : p / 512 < n). one_kept n p (erased_to m t w n card) (λ e. absurd (omega arith)) ∙ to_filled n p card b (omega arith) f)
      (eq-or-lt_of_le (le_of_suc-le-suc l))

  pub erased_length : (card : List ℕ) → length (erased m t w card) ≡ length card
  unfolding erased
  erased_length card = to_length (sectors_in (length card)) card

  pub erased_byte : (card : List ℕ) (p : ℕ) → p / 512 < sectors_in (length card) → get_or (erased m t w card) p 0 ≡ pick (filled m t w (p / 512)) 0xFF (get_or card p 0)
  unfolding erased
  erased_byte card p h =
      cases (filled m t w (p / 512))
      (λ f. simp f (to_filled (sectors_in (length card)) p card h (omega arith) f))
      (λ f. simp f (to_kept (sectors_in (length card)) p card (λ l. f)))

  pub erased_past : (card : List ℕ) (p : ℕ) → sectors_in (length card) ≤ p / 512 → get_or (erased m t w card) p 0 ≡ get_or card p 0
  unfolding erased
  erased_past card p h = to_kept (sectors_in (length card)) p card (λ l. absurd (omega arith))

  pub filled_erased : (card : List ℕ) (s : ℕ) → s < sectors_in (length card) → filled m t w s ≡ true → sector_of (erased m t w card) s ≡ erased_sector
  unfolding erased
  filled_erased card s h f =
      sector_is (erased m t w card) erased_sector s blank_length (omega (arith, erased_length card))
      (λ p e. to_filled (sectors_in (length card)) p card (omega arith) (omega arith) (ap (filled m t w) e ∙ f) ∙ sym (blank_byte (p % 512) (omega arith)))

  pub others_spared : (card : List ℕ) (s : ℕ) → filled m t w s ≡ false → sector_of (erased m t w card) s ≡ sector_of card s
  unfolding erased
  others_spared card s f =
      same_sector (erased m t w card) card s (erased_length card) (λ p e. to_kept (sectors_in (length card)) p card (λ l. ap (filled m t w) e ∙ f))

  pub protected_kept : (card : List ℕ) (s : ℕ) → protected_in m w s ≡ true → sector_of (erased m t w card) s ≡ sector_of card s
  protected_kept card s h = others_spared card s (simp h (and-false (tagged_of t s)))

  told : (n s : ℕ) → s < n → tagged_of t s ≡ true → protected_in m w s ≡ true → spared_to m t w n ≡ true
  unfolding spared_to
  told zero s l a b = absurd (omega arith)
  told (suc n) s l a b =
      ⊎_elim
      (λ (e : s ≡ n). simp (sym (ap (tagged_of t) e) ∙ a, sym (ap (protected_in m w) e) ∙ b) (or-true (spared_to m t w n)))
      (λ (h : s < n). simp (told n s h a b))
      (eq-or-lt_of_le (le_of_suc-le-suc l))

  some : (n : ℕ) → spared_to m t w n ≡ true → (s : ℕ) × ((s < n) × (tagged_of t s ≡ true) × (protected_in m w s ≡ true))
  unfolding spared_to
  some zero h = never h
  some (suc n) h =
      cases (spared_to m t w n)
      (λ e. let found = some n e in (found.0, (omega arith, found.1.1, found.1.2)))
      (λ e.
      let here : spared m t w n ≡ true = simp e at h in
      (n, (omega arith, first (tagged_of t n) (protected_in m w n) here, last (tagged_of t n) (protected_in m w n) here)))

  pub spared_told_lem : (card : List ℕ) (s : ℕ) → s < sectors_in (length card) → tagged_of t s ≡ true → protected_in m w s ≡ true → any_spared m t w (length card) ≡ true
  unfolding any_spared
  spared_told_lem card s l a b = told (sectors_in (length card)) s l a b

  pub spared_some : (card : List ℕ) → any_spared m t w (length card) ≡ true → (s : ℕ) × ((s < sectors_in (length card)) × (tagged_of t s ≡ true) × (protected_in m w s ≡ true))
  unfolding any_spared
  spared_some card h = some (sectors_in (length card)) h

-- 2^41 bytes are 2^32 sectors
pub in_a_sector : (card : List ℕ) (p : ℕ) → length card % 512 ≡ 0 → length card ≤ 2199023255552 → p < length card → p / 512 < sectors_in (length card)
in_a_sector card p whole most h = omega arith
