-- `store::entries_right` meets its contract. The loop's invariant: the entries passed are right, or one of them is not.
-- Assumes nothing.
use mathlib.Core.Path.{◌≡◌}
use Rattle.store.specs.Map.{entries_right}
use Rattle.store.proofs.entries_right.Given as goal

abbrev pub invariant-loop-entry : goal.invariant-loop-entry
invariant-loop-entry l = l.right ≡ entries_right l.map l.entry-index
