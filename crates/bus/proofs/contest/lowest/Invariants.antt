-- `bus::contest::lowest` meets its contract. The loop's invariant: the smallest CID of the cards so far, each of 16 bytes.
-- Assumes nothing.
use mathlib.Core.Path.{◌≡◌}
use Prim.Native.Nat.{ℕ, ◌<◌}
use lib.ListN.{take, get_or}
use Rattle.card_record.specs.declared.Card.{Card}
use Rattle.bus.specs.Bus.{count_of}
use Rattle.bus.specs.Contest.{low_from, Held}
use Rattle.shared_line.specs.Lowest.{no_low}
use Rattle.bus.proofs.contest.lowest.Given as goal

abbrev pub invariant-loop-i : goal.invariant-loop-i
invariant-loop-i l =
    (l.end ≡ count_of l.bus) × (l.low ≡ low_from no_low (take l.i l.bus.cards)) × ((k : ℕ) → k < l.i → (d : Card) → Held (get_or l.bus.cards k d))
