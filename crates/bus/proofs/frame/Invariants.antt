-- `bus::frame` meets its contract. The loop's invariant: the first cards have had their turns, the others are as they were, and the line
-- holds what the first ones sent.
-- Assumes nothing.
use mathlib.Core.List.{map}
use mathlib.Core.Path.{◌≡◌}
use lib.ListN.{take}
use Rattle.bus.proofs.Lists.{changed}
use Rattle.bus.proofs.Telling.{after, frame}
use Rattle.bus.specs.Bus.{count_of}
use Rattle.bus.specs.Hearing.{quiet, heard_from}
use Rattle.bus.proofs.frame.Given as goal

abbrev pub invariant-loop-i : goal.invariant-loop-i
invariant-loop-i l =
    (l.end ≡ count_of l.initial.next)
    × (l.next.count ≡ l.initial.next.count)
    × (l.next.cards ≡ changed (after l.initial.next l.index l.argument) l.i l.initial.next.cards)
    × (l.heard ≡ heard_from quiet (map (frame l.initial.next l.index l.argument) (take l.i l.initial.next.cards)))
