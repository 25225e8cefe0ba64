-- `spi_moves::legal_moves` meets its contract: each entry of the table is what document 02's rules give.
--   ruled           a table that passes the test is ruled
--   table_is_rule   the code's table passes it: one test of all 100 entries, which antt computes
-- Assumes nothing.
use mathlib.Core.Path.{refl}
use mathlib.Core.List.{List}
use Rattle.moves.proofs.Tables as tables
use Rattle.moves.specs.declared.Move.{Move}
use Rattle.spi_moves.proofs.Orders.{rows, row_placed}
use Rattle.spi_moves.specs.Moves.{move_of}
use Rattle.spi_moves.specs.Table.{row_number, Ruled}
use Rattle.spi_moves.specs.declared.Row.TheVariants.{GoIdleState}
use Rattle.spi_moves.proofs.legal_moves.Goals as goal

ruled : (table : List (List Move)) → tables.Right rows GoIdleState move_of table → Ruled table
unfolding Ruled
ruled = tables.ruled rows GoIdleState row_number row_placed move_of

table_is_rule : goal.returns
unfolding move_of
table_is_rule c = ruled _ (tt, refl)

pub returns : goal.returns
returns c = table_is_rule c
