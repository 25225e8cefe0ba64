-- What is lent, looked at first.
--   once_lent_lem     a property of 12 and of what comes after it is one of a call that looks at what is lent first
--   right_parts   what is lent rightly to a card of so many groups: a memory of its size, and a map of as many entries, each 0 or 1
--   parts_right   and that is all
-- Assumes nothing.
use mathlib.Core.Path.{◌≡◌, refl, ap}
use mathlib.Core.Bool.{Bool, true, false, ◌&&◌}
use Prim.Native.Nat.{ℕ, ◌*◌}
use borrow.Author.Tests.{eqb-true, eq-eqb}
use lib.Dec.{eqb}
use lib.ListN.{length}
use Rattle.base.proofs.Cases.{guarded, first, last, unrefused, passed}
use Rattle.base.specs.Choice.{unless}
use Rattle.base.specs.Refusals.{by}
use Rattle.base.specs.declared.Refusal.{Refusal}
use Rattle.store.specs.Lent.{Seen, lent_right, lending_of, once_lent}
use Rattle.store.specs.Map.{entries_right, map_right}
use Rattle.std.specs.Prelude.{Result, Ok, Err}

pair : (a b : Bool) → a ≡ true → b ≡ true → (a && b) ≡ true
pair true true e f = refl
pair true false e f = f
pair false b e f = e

module _ (seen : Seen) (groups : ℕ) where
  abbrev given : Bool → Result Unit Refusal
  given right = unless right (Err (by 12)) (Ok tt)

  pub once_lent_lem : {A : Type 0} (P : A → Type 0) (refusing : Refusal → A) {rest : A} → P (refusing (by 12)) → (lending_of seen groups ≡ Ok tt → P rest)
      → P (once_lent (lending_of seen groups) refusing rest)
  once_lent_lem P refusing {rest} miss hit =
      guarded (λ (l : Result Unit Refusal). P (once_lent l refusing rest)) (lent_right seen groups) (λ t. miss) (λ t. hit (ap given t))

  -- the tests of what is lent
  abbrev size : Bool
  size = eqb seen.bytes (groups * 8192)

  abbrev long : Bool
  long = eqb (length seen.map) groups

  abbrev entries : Bool
  entries = entries_right seen.map (length seen.map)

  pub right_parts : lending_of seen groups ≡ Ok tt → (seen.bytes ≡ groups * 8192) × ((length seen.map ≡ groups) × (entries ≡ true))
  right_parts e =
      let t = (passed (lent_right seen groups) (Err (by 12)) (Ok tt) (Ok tt) unrefused e).0 in
      let map = last size (map_right seen.map groups) t in (
        eqb-true seen.bytes (groups * 8192) (first size (map_right seen.map groups) t),
        (eqb-true (length seen.map) groups (first long entries map), last long entries map),
      )

  pub parts_right : seen.bytes ≡ groups * 8192 → length seen.map ≡ groups → entries ≡ true → lending_of seen groups ≡ Ok tt
  parts_right bytes map right =
      ap given
      (pair size (map_right seen.map groups) (eq-eqb seen.bytes (groups * 8192) bytes)
      (pair long entries (eq-eqb (length seen.map) groups map) right))
