-- What the code's table of moves holds, in the form of MMC mode's: each entry is the move of its row in its state.
-- Assumes nothing.
use Rattle.std.specs.Prelude.{◌≡◌, List, [], ℕ, get_or}
use Rattle.states.specs.declared.Column.{Column}
use Rattle.moves.specs.Table.{entry_in}
use Rattle.moves.specs.declared.Move.{Move}
use Rattle.spi_moves.specs.Moves.{move_of}
use Rattle.spi_moves.specs.declared.Row.{Row}
use Rattle.spi_moves.specs.declared.Row.TheVariants.{GoIdleState, OpCond, OcrOrCrc, SendStatus, SendRegister, SetOrTag, Read, Write, Program, Unsupported}

-- the rows in their order
abbrev pub row_number : Row → ℕ
row_number GoIdleState = 0
row_number OpCond = 1
row_number OcrOrCrc = 2
row_number SendStatus = 3
row_number SendRegister = 4
row_number SetOrTag = 5
row_number Read = 6
row_number Write = 7
row_number Program = 8
row_number Unsupported = 9

-- the entry of a row in a state: a line for each row, against the ten states
abbrev pub entry_of : List (List Move) → Row → Column → Move
entry_of table row column = entry_in (get_or table (row_number row) []) column

unfoldable pub Ruled : List (List Move) → Type 0
Ruled table = (row : Row) (column : Column) → entry_of table row column ≡ move_of row column
