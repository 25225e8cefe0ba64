-- Wrong answers that the promises rule out, each refuted at a sample that antt computes: a call's answer is the definition, so a call
-- that gave the wrong answer would make the two equal.
--   rcv_read_as_data   rcv read as data
--   dis_read_as_prg    dis read as prg
--   number_shared      two states that share a number
--   numbers_from_1     the numbers counted from 1
--   inactive_as_dis    Inactive with the number of dis
-- Assumes nothing.
use mathlib.Core.Path.{◌≡◌, sym, ap, ◌∙◌}
use native.Mathlib.Omega.{arith}
use Rattle.states.specs.States.{column_of, column_number}
use Rattle.states.specs.declared.Column.{Column}
use Rattle.states.specs.declared.Column.TheVariants.{Idle, Data, Prg, Ina}
use Rattle.states.specs.declared.Incoming.TheVariants.{LockRequest}
use Rattle.states.specs.declared.State.TheVariants.{Rcv, Dis}
use Rattle.states.proofs.Columns.{column_by, column_placed}

rcv_read_as_data : column_of (Rcv LockRequest) ≡ Data → ⊥
rcv_read_as_data e = let n = ap column_number e in omega arith

dis_read_as_prg : column_of Dis ≡ Prg → ⊥
dis_read_as_prg e = let n = ap column_number e in omega arith

number_shared : (a b : Column) → column_number a ≡ column_number b → a ≡ b
number_shared a b e = sym (column_placed a).1 ∙ ap column_by e ∙ (column_placed b).1

numbers_from_1 : column_number Idle ≡ 1 → ⊥
numbers_from_1 e = omega arith

inactive_as_dis : column_number Ina ≡ 8 → ⊥
inactive_as_dis e = omega arith
