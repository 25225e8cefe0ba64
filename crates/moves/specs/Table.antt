-- What the code's table of moves holds: each entry is the move of its row in its state.
-- Assumes nothing.
use Rattle.std.specs.Prelude.{◌≡◌, List, [], get_or}
use Rattle.states.specs.States.{column_number}
use Rattle.states.specs.declared.Column.{Column}
use Rattle.moves.specs.Moves.{row_number, move_of}
use Rattle.moves.specs.declared.Move.{Move}
use Rattle.moves.specs.declared.Move.TheVariants.{Ignored}
use Rattle.moves.specs.declared.Row.{Row}

-- the entry of a row in a state: a line for each row, against the ten states
abbrev pub entry_in : List Move → Column → Move
entry_in line column = get_or line (column_number column) Ignored

abbrev pub entry_of : List (List Move) → Row → Column → Move
entry_of table row column = entry_in (get_or table (row_number row) []) column

unfoldable pub Ruled : List (List Move) → Type 0
Ruled table = (row : Row) (column : Column) → entry_of table row column ≡ move_of row column
