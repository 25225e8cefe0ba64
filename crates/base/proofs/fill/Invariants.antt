-- `base::fill` meets its contract. The loop's invariant: the bytes passed have the value, and the others are as they were.
-- Assumes nothing.
use mathlib.Core.Path.{◌≡◌}
use mathlib.Core.List.{◌++◌}
use lib.ListN.{replicate, drop}
use Rattle.base.proofs.fill.Given as goal

abbrev pub invariant-loop-byte : goal.invariant-loop-byte
invariant-loop-byte l = l.byte-items ≡ replicate l.byte-index l.value ++ drop l.byte-index l.initial.byte-items
