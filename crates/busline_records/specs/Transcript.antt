-- A script, bytes in and text out: the lines of its records, one after the other, until one stops, and `cut` where the input ends within one.
-- Assumes nothing.
use Rattle.std.specs.Prelude.{List, ◌++◌, ℕ, ◌-◌, ◌/◌, length}
use Rattle.playing.specs.Playing.{Step, Played, played_in, played_of}
use Rattle.busline_records.specs.Printing.{cut_text, roomy}
use Rattle.busline_records.specs.Reading.{asked_of}
use Rattle.busline_records.specs.Record.{fresh_progress, asked_text, asked_said}
use Rattle.busline_records.specs.declared.Progress.{Progress}
use Rattle.playing.specs.declared.Said.{Said}

-- one record, where there is room for its line
abbrev pub step_by : List ℕ → Said Progress → Step Progress
step_by line said = record { line = line; kept = said.progress; used = said.used; then = said.then }

unfoldable pub record_step : Progress → List ℕ → Step Progress
record_step w s = step_by (asked_text w (asked_of s) s) (asked_said w (asked_of s) s)

-- the whole records of a piece of a script, as many as an output of so many bytes has room for longest lines
unfoldable pub piece_of : Progress → List ℕ → ℕ → Played Progress
piece_of w s room = played_in record_step (room / roomy) w s

-- what is answered of a piece of so many bytes
abbrev pub said_by : Played Progress → ℕ → Said Progress
said_by played bytes = record { progress = played.kept; used = bytes - length played.left; wrote = length played.text; then = played.then }

-- a whole script, played to the end of the input
abbrev pub closed : Played Progress → List ℕ
closed played = played.text ++ cut_text played.left

unfoldable pub transcript : List ℕ → List ℕ
transcript s = closed (played_of record_step fresh_progress s)
