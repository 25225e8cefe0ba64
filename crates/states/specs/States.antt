-- Document 01, "How a card takes a frame": the states and their numbers.
-- Assumes nothing.
use Rattle.std.specs.Prelude.{ℕ}
use Rattle.states.specs.declared.Column.{Column}
use Rattle.states.specs.declared.Column.TheVariants.{Idle, Ready, Ident, Stby, Tran, Data, Rcv, Prg, Dis, Ina}
use Rattle.states.specs.declared.State.{State}
use Rattle.states.specs.declared.State.TheVariants as state

-- a state without what it waits for
abbrev pub column_of : State → Column
column_of state.Idle = Idle
column_of state.Ready = Ready
column_of state.Ident = Ident
column_of state.Stby = Stby
column_of state.Tran = Tran
column_of (state.Data outgoing) = Data
column_of (state.Rcv incoming) = Rcv
column_of state.Prg = Prg
column_of state.Dis = Dis
column_of state.Ina = Ina

-- "12..9 the state on reception, idle 0 to dis 8"; ina, which never answers, comes after them
abbrev pub column_number : Column → ℕ
column_number Idle = 0
column_number Ready = 1
column_number Ident = 2
column_number Stby = 3
column_number Tran = 4
column_number Data = 5
column_number Rcv = 6
column_number Prg = 7
column_number Dis = 8
column_number Ina = 9
