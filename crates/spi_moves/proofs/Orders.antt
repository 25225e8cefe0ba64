-- The rows in their order, and the law by which one test that antt computes over every row in every state holds at each.
--   row_placed      each row is at its number, which the table has
--   rows_numbered   the same as one record
--   everywhere      a test that passes at every row in every state passes at any
-- Assumes nothing.
use mathlib.Core.Path.{◌≡◌, refl}
use mathlib.Core.Bool.{Bool}
use mathlib.Core.List.{List, [], ◌∷◌}
use Prim.Native.Nat.{ℕ, ◌<◌}
use native.Mathlib.Omega.{arith}
use lib.Dec.{T}
use lib.ListN.{get_or}
use Rattle.states.specs.declared.Column.{Column}
use Rattle.moves.proofs.Spans.{Numbered}
use Rattle.moves.proofs.Tables as tables
use Rattle.spi_moves.specs.Table.{row_number}
use Rattle.spi_moves.specs.declared.Row.{Row}
use Rattle.spi_moves.specs.declared.Row.TheVariants.{GoIdleState, OpCond, OcrOrCrc, SendStatus, SendRegister, SetOrTag, Read, Write, Program, Unsupported}

abbrev pub rows : List Row
rows = GoIdleState ∷ OpCond ∷ OcrOrCrc ∷ SendStatus ∷ SendRegister ∷ SetOrTag ∷ Read ∷ Write ∷ Program ∷ Unsupported ∷ []

abbrev pub row_by : ℕ → Row
row_by n = get_or rows n GoIdleState

pub row_placed : (row : Row) → (row_number row < 10) × (row_by (row_number row) ≡ row)
row_placed GoIdleState = (omega arith, refl)
row_placed OpCond = (omega arith, refl)
row_placed OcrOrCrc = (omega arith, refl)
row_placed SendStatus = (omega arith, refl)
row_placed SendRegister = (omega arith, refl)
row_placed SetOrTag = (omega arith, refl)
row_placed Read = (omega arith, refl)
row_placed Write = (omega arith, refl)
row_placed Program = (omega arith, refl)
row_placed Unsupported = (omega arith, refl)

abbrev pub rows_numbered : Numbered Row
rows_numbered = record { number = row_number; by = row_by; by_number = λ (row : Row). (row_placed row).1 }

pub everywhere : (f : Row → Column → Bool) → T (tables.throughout rows f) → (row : Row) (column : Column) → T (f row column)
everywhere = tables.everywhere rows GoIdleState row_number row_placed
