-- `shared_line::and` meets its contract. The loop's invariant: the first bytes are ANDed, the others are as they were.
-- Assumes nothing.
use mathlib.Core.Path.{◌≡◌}
use lib.ListN.{take}
use Rattle.shared_line.specs.Bytes.{anded}
use Rattle.shared_line.proofs.and.Given as goal

abbrev pub invariant-loop-i : goal.invariant-loop-i
invariant-loop-i l = l.out ≡ anded l.initial.out (take l.i l.frame)
