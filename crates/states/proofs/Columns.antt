-- The states and their numbers.
--   columns         the ten states, in the order of their numbers
--   column_by        the state of a number
--   column_placed   each state is at its number, which is below 10
-- Assumes nothing.
use mathlib.Core.Path.{◌≡◌, refl}
use mathlib.Core.List.{List, [], ◌∷◌}
use Prim.Native.Nat.{ℕ, ◌<◌}
use native.Mathlib.Omega.{arith}
use lib.ListN.{get_or}
use Rattle.states.specs.States.{column_number}
use Rattle.states.specs.declared.Column.{Column}
use Rattle.states.specs.declared.Column.TheVariants.{Idle, Ready, Ident, Stby, Tran, Data, Rcv, Prg, Dis, Ina}

abbrev pub columns : List Column
columns = Idle ∷ Ready ∷ Ident ∷ Stby ∷ Tran ∷ Data ∷ Rcv ∷ Prg ∷ Dis ∷ Ina ∷ []

abbrev pub column_by : ℕ → Column
column_by n = get_or columns n Idle

pub column_placed : (column : Column) → (column_number column < 10) × (column_by (column_number column) ≡ column)
column_placed Idle = (omega arith, refl)
column_placed Ready = (omega arith, refl)
column_placed Ident = (omega arith, refl)
column_placed Stby = (omega arith, refl)
column_placed Tran = (omega arith, refl)
column_placed Data = (omega arith, refl)
column_placed Rcv = (omega arith, refl)
column_placed Prg = (omega arith, refl)
column_placed Dis = (omega arith, refl)
column_placed Ina = (omega arith, refl)
