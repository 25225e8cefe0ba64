-- An erase, sector by sector.
--   skip            a run that does nothing from a on stays as it was at a
--   erased_passes   sectors that are not tagged are passed over
--   spared_passes   and none of them is spared
-- Assumes nothing.
use mathlib.Core.Path.{◌≡◌, ap, ◌∙◌}
use mathlib.Core.Bool.{Bool, false, or-false}
use mathlib.Core.List.{List}
use Prim.Native.Nat.{ℕ, zero, suc, ◌+◌, ◌-◌, ◌≤◌, ◌<◌}
use native.Mathlib.Nat.{add-zero, add-suc}
use native.Mathlib.Omega.{arith}
use Rattle.tags.specs.Tags.{tagged_of}
use Rattle.tags.specs.declared.Tags.{Tags}
use Rattle.store.specs.Erase.{sector_erased, erased_to, spared_to}

skip : {A : Type 0} (run : ℕ → A) (a n : ℕ) → ((s : ℕ) → a ≤ s → s < a + n → run (suc s) ≡ run s) → run (a + n) ≡ run a
skip run a zero h = ap run (add-zero a)
skip run a (suc n) h =
    ap run (add-suc a n) ∙ h (a + n) (omega arith) (omega arith) ∙ skip run a n (λ s lo hi. h s lo (omega arith))

skip_to : {A : Type 0} (run : ℕ → A) (a b : ℕ) → a ≤ b → ((s : ℕ) → a ≤ s → s < b → run (suc s) ≡ run s) → run b ≡ run a
skip_to run a b le h =
    let e : b ≡ a + (b - a) = omega arith in
    ap run e ∙ skip run a (b - a) (λ s lo hi. h s lo (omega arith))

module _ (map : List ℕ) (tags : Tags) (whole : Bool) (a b : ℕ) (le : a ≤ b) (no : (s : ℕ) → a ≤ s → s < b → tagged_of tags s ≡ false) where
  pub erased_passes : (card : List ℕ) → erased_to map tags whole b card ≡ erased_to map tags whole a card
  unfolding sector_erased erased_to
  erased_passes card = skip_to (λ n. erased_to map tags whole n card) a b le (λ s lo hi. simp (no s lo hi))

  pub spared_passes : spared_to map tags whole b ≡ spared_to map tags whole a
  unfolding spared_to
  spared_passes = skip_to (spared_to map tags whole) a b le (λ s lo hi. simp (no s lo hi) (or-false (spared_to map tags whole s)))
