-- `bus::damage` meets its contract. The loop's invariant: the first cards have been told, the others are as they were.
-- Assumes nothing.
use mathlib.Core.Path.{◌≡◌}
use Rattle.bus.proofs.Lists.{changed}
use Rattle.bus.specs.Bus.{count_of, damaged_card}
use Rattle.bus.proofs.damage.Given as goal

abbrev pub invariant-loop-i : goal.invariant-loop-i
invariant-loop-i l =
    (l.end ≡ count_of l.initial.next) × (l.next.count ≡ l.initial.next.count) × (l.next.cards ≡ changed damaged_card l.i l.initial.next.cards)
