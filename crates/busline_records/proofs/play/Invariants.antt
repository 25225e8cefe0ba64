-- `busline_records::play` meets its contract. The loop's invariant: the text written so far, and then what is left of the script played, is the
-- piece played.
-- Assumes nothing.
use Rattle.busline_records.proofs.Playing.{Here}
use Rattle.busline_records.proofs.play.Given as goal

abbrev pub invariant-loop-i : goal.invariant-loop-i
invariant-loop-i l = Here l.initial.kept l.script l.initial.out l.lines l.kept l.used l.wrote l.out l.i
