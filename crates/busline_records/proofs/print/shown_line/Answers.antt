-- `busline_records::print::shown_line` meets its contract: each return is told what the line shows; the bus answers 17 bytes.
-- Assumes nothing.
use Rattle.busline_records.specs.Printing.{shown_text}
use native.Mathlib.Omega.{arith}
use borrow.Author.Rules.{rules}
use Rattle.busline_records.proofs.Lines.{silent_line, sent_line_lem}
use Rattle.busline_records.proofs.print.shown_line.Goals as goal

pub returns-in-Some : goal.returns-in-Some
unfolding shown_text
returns-in-Some c = rw (c.in-Ok.is, c.in-Some.is, ← c.part.ensures.part) (sent_line_lem _ _ (omega (arith, c.part.ensures.within.1)) c.say.ensures)

pub returns-in-None : goal.returns-in-None
unfolding shown_text
returns-in-None c = rw (c.in-Ok.is, c.in-None.is) (silent_line _ c.say-in-None.ensures)

pub returns-in-Err : goal.returns-in-Err
unfolding shown_text
returns-in-Err c = search rules
