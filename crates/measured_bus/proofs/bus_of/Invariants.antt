-- `measured_bus::bus_of` meets its contract. The loop's invariant: the bus of the cards so far.
-- Assumes nothing.
use mathlib.Core.Path.{◌≡◌}
use Rattle.measured_bus.specs.Rounds.{bus_of}
use Rattle.measured_bus.proofs.bus_of.Given as goal

abbrev pub invariant-loop-place : goal.invariant-loop-place
invariant-loop-place l = l.bus ≡ bus_of l.cids l.place
