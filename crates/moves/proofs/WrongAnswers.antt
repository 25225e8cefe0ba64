-- Wrong answers that the promises rule out, each refuted at a sample that antt computes: a call's answer is the definition, so a call
-- that gave the wrong answer would make the two equal. (docs/PROMISES.md lists them. A wrong entry of the code's table fails `table_is_rule`, the test of all its entries.)
-- Of the class of an index:
--   untag_has_a_class        CMD34, between two erase commands, taken for one
--   stream_has_a_class       CMD11, a stream read, taken for a basic command
-- Of the table of moves:
--   stop_in_dis              CMD12 takes dis to tran
--   stop_illegal_in_dis      CMD12 is marked illegal in dis
--   illegal_in_stby          a command with no legal move in stby is marked illegal
--   deselect_in_rcv          CMD7 for another card in rcv is marked illegal
--   address_in_ready         CMD3 is legal in ready
--   inactive_reset           CMD0 wakes an Inactive card
-- Of the row of a command:
--   window_of_32_bits        CMD1 with argument FF000000 has no window of 0
--   ocr_of_32_bits           CMD1's window is held against OCR bits 31..24 too
--   address_in_the_low_half  CMD13 is held against argument bits 15..0
--   select_for_all           CMD7 for address 0 selects the card of address 1
--   status_of_another        CMD13 for another card is taken
-- Assumes nothing.
use mathlib.Core.Path.{◌≡◌}
use mathlib.Core.Bool.{true}
use Prim.Native.Nat.{ℕ}
use Rattle.base.proofs.Cases.{clash}
use Rattle.states.specs.declared.Column.TheVariants.{Idle, Ready, Stby, Tran, Rcv, Dis, Ina}
use Rattle.moves.specs.Classes.{class_of}
use Rattle.moves.specs.Moves.{move_of}
use Rattle.moves.specs.Rows.{row_of}
use Rattle.moves.specs.declared.Received.{Received}
use Rattle.moves.specs.declared.Class.TheVariants.{Basic, Erase}
use Rattle.moves.specs.declared.Move.TheVariants.{Illegal, To}
use Rattle.moves.specs.declared.Row.TheVariants.{GoIdleState, OpCondShared, OpCondApart, SetRelativeAddr, SelectCard, DeselectCard, StopTransmission, SendStatus, Read}

-- a command at a card of address 1, whose OCR has bit 31 and bits 23..15 set
abbrev sent : ℕ → ℕ → Received
sent index argument = record { index = index; argument = argument; address = 1; ocr = 0x80FF8000; wins = true }

untag_has_a_class : class_of 34 ≡ Erase → ⊥
unfolding class_of
untag_has_a_class e = clash cc

stream_has_a_class : class_of 11 ≡ Basic → ⊥
unfolding class_of
stream_has_a_class e = clash cc

stop_in_dis : move_of StopTransmission Dis ≡ To Tran → ⊥
unfolding move_of
stop_in_dis e = clash cc

stop_illegal_in_dis : move_of StopTransmission Dis ≡ Illegal → ⊥
unfolding move_of
stop_illegal_in_dis e = clash cc

illegal_in_stby : move_of Read Stby ≡ Illegal → ⊥
unfolding move_of
illegal_in_stby e = clash cc

deselect_in_rcv : move_of DeselectCard Rcv ≡ Illegal → ⊥
unfolding move_of
deselect_in_rcv e = clash cc

address_in_ready : move_of SetRelativeAddr Ready ≡ To Stby → ⊥
unfolding move_of
address_in_ready e = clash cc

inactive_reset : move_of GoIdleState Ina ≡ To Idle → ⊥
unfolding move_of
inactive_reset e = clash cc

window_of_32_bits : row_of (sent 1 0xFF000000) ≡ OpCondApart → ⊥
unfolding row_of
window_of_32_bits e = clash cc

ocr_of_32_bits : row_of (sent 1 0x80000001) ≡ OpCondShared → ⊥
unfolding row_of
ocr_of_32_bits e = clash cc

address_in_the_low_half : row_of (sent 13 0x00000001) ≡ SendStatus → ⊥
unfolding row_of
address_in_the_low_half e = clash cc

select_for_all : row_of (sent 7 0x00000000) ≡ SelectCard → ⊥
unfolding row_of
select_for_all e = clash cc

status_of_another : row_of (sent 13 0x00020000) ≡ SendStatus → ⊥
unfolding row_of
status_of_another e = clash cc
