-- A turn of the program: a piece of the script, played.
-- Assumes nothing.
use Rattle.std.specs.Prelude.{length}
use Rattle.busline_records.specs.declared.Progress.{Progress}
use Rattle.playing.specs.Playing.{Played}
use Rattle.playing.specs.declared.player.Turn.{Turn}
use Rattle.busline_player.specs.declared.Turned.{Turned}

-- what is answered of a piece: what is kept, how many bytes are left over, how many its text has, and how the script goes on
abbrev pub turned_by : Played Progress → Turned
turned_by piece = record { progress = piece.kept; kept = length piece.left; wrote = length piece.text; then = piece.then }

-- what of it the next turn is told of
abbrev pub turn_of : Turned → Turn
turn_of turned = record { to = turned.kept; wrote = turned.wrote; then = turned.then }
