-- `busline_records::print::refused_line` meets its contract: each return is told whether the line is silent.
-- Assumes nothing.
use mathlib.Core.Path.{sym, ◌∙◌}
use Rattle.busline_records.proofs.Lines.{silent_line, refusal_line_lem}
use Rattle.busline_records.proofs.print.refused_line.Goals as goal

pub returns-then-prints_silent : goal.returns-then-prints_silent
returns-then-prints_silent c = rw (sym c.prints_silent.ensures ∙ c.if-prints_silent.true) (silent_line _ c.say.ensures)

pub returns : goal.returns
returns c = rw (sym c.prints_silent.ensures ∙ c.if-prints_silent.false) (refusal_line_lem c.args.why c.refused_by.ensures)
