-- `busline_records::print::bad_kind_line` meets its contract: one line.
-- Assumes nothing.
use Rattle.busline_records.proofs.Lines.{bad_kind}
use Rattle.busline_records.proofs.print.bad_kind_line.Goals as goal

pub returns : goal.returns
returns c = bad_kind c.plain.ensures
