-- `store::erase` meets its contract. The loop's invariant: the memory and the answer are those of the sectors passed. No sector before
-- the loop's first or from its end on is tagged, so the run over them changes nothing.
-- Assumes nothing.
use mathlib.Core.Path.{◌≡◌}
use lib.ListN.{length}
use Rattle.store.specs.Erase.{erased_to, spared_to}
use Rattle.store.proofs.erase.Given as goal

abbrev pub invariant-loop-sector : goal.invariant-loop-sector
invariant-loop-sector l =
    (length l.memory ≡ length l.initial.memory)
    × (l.spared ≡ spared_to l.map l.tags l.whole l.sector)
    × (l.memory ≡ erased_to l.map l.tags l.whole l.sector l.initial.memory)
