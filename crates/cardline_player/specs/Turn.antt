-- A turn of the player: one record at most, and what is at hand behind it.
-- Assumes nothing.
use Rattle.std.specs.Prelude.{List, ℕ, ◌+◌, ◌-◌, min, length, take, drop}
use Rattle.cardline_player.specs.declared.Turned.{Turned}
use Rattle.cardline_records.specs.Record.{said_of}
use Rattle.cardline_records.specs.declared.Progress.{Progress}
use Rattle.playing.specs.declared.Said.{Said}
use Rattle.playing.specs.Playing.{kept_of}
use Rattle.playing.specs.declared.player.Turn.{Turn}
use Rattle.playing.specs.declared.Then.{Then}
use Rattle.playing.specs.declared.Then.TheVariants.{Goes, Stops, Waits, NoRoom}
use Rattle.store.specs.Lent.{Lent}

-- the bytes at hand: those of a buffer from one place to another
abbrev pub at_hand : ℕ → ℕ → List ℕ → List ℕ
at_hand from to buffer = drop from (take to buffer)

-- what is left behind a record, by how the script goes on: a record is all that there is room for at a turn, nothing is read behind a stop,
-- and the n bytes of a record that is not whole yet are moved to the front
abbrev pub left_by : Said Progress → ℕ → ℕ → Then → Turned
left_by said from to then = record { progress = said.progress; from = from; to = to; wrote = said.wrote; then = then }

abbrev pub turned_by : Then → Said Progress → ℕ → ℕ → ℕ → Turned
turned_by Goes said from to n = left_by said (min (from + said.used) to) to NoRoom
turned_by Stops said from to n = left_by said to to Stops
turned_by Waits said from to n = left_by said 0 n Waits
turned_by NoRoom said from to n = left_by said from to NoRoom

abbrev pub buffer_by : Then → ℕ → ℕ → List ℕ → List ℕ
buffer_by Goes from n buffer = buffer
buffer_by Stops from n buffer = buffer
buffer_by Waits from n buffer = kept_of from n buffer
buffer_by NoRoom from n buffer = buffer

-- the record at the front of what is at hand, carried out with an output of so many bytes: what is left, and the buffer afterwards
unfoldable pub advanced_of : Progress → ℕ → ℕ → List ℕ → Lent → ℕ → Turned
advanced_of w from to buffer lent room =
    turned_by (said_of w (at_hand from to buffer) lent room).then (said_of w (at_hand from to buffer) lent room) from to
    (min to (length buffer) - from)

unfoldable pub buffer_of : Progress → ℕ → ℕ → List ℕ → Lent → ℕ → List ℕ
buffer_of w from to buffer lent room = buffer_by (said_of w (at_hand from to buffer) lent room).then from (min to (length buffer) - from) buffer

-- what of it the next turn is told of
abbrev pub turn_of : Turned → Turn
turn_of turned = record { to = turned.to; wrote = turned.wrote; then = turned.then }
