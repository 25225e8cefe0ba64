-- What a document's table numbers, found by its number and not by its place in the table, so that the numbers may have gaps.
-- Assumes nothing.
use Rattle.std.specs.Prelude.{Bool, true, false, List, [], ◌∷◌, ℕ, eqb}
use Rattle.base.specs.Choice.{pick}

-- the first of a list that has a number, and another if none has it
abbrev pub first_with : {A : Type 0} → (A → ℕ) → ℕ → List A → A → A
first_with number n [] other = other
first_with number n (x ∷ xs) other = pick (eqb (number x) n) x (first_with number n xs other)

-- what a number names: one of A where the table has the number, and else nothing that a rule could speak of
abbrev pub InTable : Type 0 → Bool → Type 0
InTable A true = A
InTable A false = Unit {0}

abbrev pub in_table : {A : Type 0} (has : Bool) → A → InTable A has
in_table true x = x
in_table false x = tt
