-- A script that is read piece by piece: whether the record at the front of a piece is whole, and how many bytes it has.
-- Assumes nothing.
use Rattle.std.specs.Prelude.{Bool, true, false, ℕ, ◌+◌, Ok, Err}
use Rattle.cardline_script.specs.Reading.{Read}
use Rattle.cardline_script.specs.declared.Asked.TheVariants.{Make, Go}
use Rattle.cardline_script.specs.declared.Calling.{Calling}
use Rattle.cardline_script.specs.declared.Calling.TheVariants.{Frame, BlockIn, BlockOut, WorkDone, PowerOn}
use Rattle.cardline_script.specs.declared.Going.{Going}
use Rattle.cardline_script.specs.declared.Going.TheVariants.{Call, Look, Wire}
use Rattle.cardline_script.specs.declared.Halt.TheVariants.{More, Stop}
use Rattle.cardline_script.specs.declared.Looking.{Looking}
use Rattle.cardline_script.specs.declared.Looking.TheVariants.{Card, Mode, Memory, Lend, Poke}
use Rattle.cardline_script.specs.declared.Wiring.{Wiring}
use Rattle.cardline_script.specs.declared.Wiring.TheVariants.{Frame as WireFrame, Block, Check}

-- whether the record at the front is not whole yet
abbrev pub waits : Read → Bool
waits (Err More) = true
waits (Err (Stop stop)) = false
waits (Ok (Make making)) = false
waits (Ok (Go going)) = false

-- how many bytes a record has, its kind among them
abbrev pub used_by : Calling → ℕ
used_by (Frame n selected) = n + 2
used_by (BlockIn n) = n + 3
used_by (BlockOut n) = 3
used_by WorkDone = 1
used_by PowerOn = 1

abbrev pub used_looked : Looking → ℕ
used_looked Card = 1
used_looked Mode = 1
used_looked (Memory from n) = 6
used_looked (Lend sizes) = 5
used_looked (Poke entry value) = 3

abbrev pub used_wiring : Wiring → ℕ
used_wiring (WireFrame index argument room) = 7
used_wiring (Block n room) = n + 5
used_wiring (Check n) = n + 3

abbrev pub used_going : Going → ℕ
used_going (Call calling) = used_by calling
used_going (Look looking) = used_looked looking
used_going (Wire wiring) = used_wiring wiring

abbrev pub used_asked : Read → ℕ
used_asked (Err More) = 0
used_asked (Err (Stop stop)) = 0
used_asked (Ok (Make making)) = making.map + 43 + making.password
used_asked (Ok (Go going)) = used_going going

-- the longest record, 0C with 4,096 bytes: 3 bytes, those, and O (2)
abbrev pub longest_record : ℕ
longest_record = 4101
