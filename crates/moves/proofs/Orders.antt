-- The rows in their order, and the law by which one test that antt computes over every row in every state holds at each.
--   row_placed      each row is at its number, which the table has
--   rows_numbered   the same as one record
--   everywhere      a test that passes at every row in every state passes at any
-- Assumes nothing.
use mathlib.Core.Path.{◌≡◌, refl}
use mathlib.Core.Bool.{Bool}
use mathlib.Core.List.{List, [], ◌∷◌}
use Prim.Native.Nat.{ℕ, ◌<◌}
use native.Mathlib.Omega.{arith}
use lib.Dec.{T}
use lib.ListN.{get_or}
use Rattle.states.specs.declared.Column.{Column}
use Rattle.moves.proofs.Spans.{Numbered}
use Rattle.moves.proofs.Tables as tables
use Rattle.moves.specs.Moves.{row_number}
use Rattle.moves.specs.declared.Row.{Row}
use Rattle.moves.specs.declared.Row.TheVariants.{GoIdleState, OpCondAsked, OpCondShared, OpCondApart, AllSendCidWon, AllSendCidLost, SetRelativeAddr, SetDsr, SelectCard, DeselectCard, SendRegister, StopTransmission, SendStatus, GoInactiveState, SetOrTag, Read, Write, Program, OtherAddress, Unsupported}

abbrev pub rows : List Row
rows =
    GoIdleState ∷ OpCondAsked ∷ OpCondShared ∷ OpCondApart ∷ AllSendCidWon ∷ AllSendCidLost ∷ SetRelativeAddr ∷ SetDsr ∷ SelectCard ∷
    DeselectCard ∷ SendRegister ∷ StopTransmission ∷ SendStatus ∷ GoInactiveState ∷ SetOrTag ∷ Read ∷ Write ∷ Program ∷ OtherAddress ∷ Unsupported ∷ []

abbrev pub row_by : ℕ → Row
row_by n = get_or rows n GoIdleState

pub row_placed : (row : Row) → (row_number row < 20) × (row_by (row_number row) ≡ row)
row_placed GoIdleState = (omega arith, refl)
row_placed OpCondAsked = (omega arith, refl)
row_placed OpCondShared = (omega arith, refl)
row_placed OpCondApart = (omega arith, refl)
row_placed AllSendCidWon = (omega arith, refl)
row_placed AllSendCidLost = (omega arith, refl)
row_placed SetRelativeAddr = (omega arith, refl)
row_placed SetDsr = (omega arith, refl)
row_placed SelectCard = (omega arith, refl)
row_placed DeselectCard = (omega arith, refl)
row_placed SendRegister = (omega arith, refl)
row_placed StopTransmission = (omega arith, refl)
row_placed SendStatus = (omega arith, refl)
row_placed GoInactiveState = (omega arith, refl)
row_placed SetOrTag = (omega arith, refl)
row_placed Read = (omega arith, refl)
row_placed Write = (omega arith, refl)
row_placed Program = (omega arith, refl)
row_placed OtherAddress = (omega arith, refl)
row_placed Unsupported = (omega arith, refl)

abbrev pub rows_numbered : Numbered Row
rows_numbered = record { number = row_number; by = row_by; by_number = λ (row : Row). (row_placed row).1 }

pub everywhere : (f : Row → Column → Bool) → T (tables.throughout rows f) → (row : Row) (column : Column) → T (f row column)
everywhere = tables.everywhere rows GoIdleState row_number row_placed
