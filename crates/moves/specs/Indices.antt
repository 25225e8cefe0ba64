-- A number in a list of numbers, as document 01 lists commands and states.
-- Assumes nothing.
use Rattle.std.specs.Prelude.{Bool, true, false, List, [], ◌∷◌, ℕ, eqb}
use Rattle.base.specs.Choice.{pick}

abbrev pub among : ℕ → List ℕ → Bool
among i [] = false
among i (k ∷ ks) = pick (eqb i k) true (among i ks)
