-- `store::copy_bytes` meets its contract. The loop's invariant: the bytes passed stand in place of as many others.
-- Assumes nothing.
use mathlib.Core.Path.{◌≡◌}
use mathlib.Core.List.{◌++◌}
use lib.ListN.{take, drop}
use Rattle.store.proofs.copy_bytes.Given as goal

abbrev pub invariant-loop-i : goal.invariant-loop-i
invariant-loop-i l = l.over ≡ take l.i l.bytes ++ drop l.i l.initial.over
