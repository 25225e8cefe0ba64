-- `measured_bus::play` meets its contract. The loop's invariant: the bus after the rounds so far, and how many of them were answered.
-- Assumes nothing.
use mathlib.Core.Path.{◌≡◌}
use Prim.Native.Nat.{◌≤◌}
use Rattle.measured_bus.specs.Rounds.{after_rounds, answered_in}
use Rattle.measured_bus.proofs.play.Given as goal

abbrev pub invariant-loop-k : goal.invariant-loop-k
invariant-loop-k l =
    (l.next ≡ after_rounds l.initial.next l.k) × (l.answered ≡ answered_in l.initial.next l.k) × (l.answered ≤ l.k)
