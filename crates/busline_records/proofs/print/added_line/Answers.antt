-- `busline_records::print::added_line` meets its contract: each return is told what became of the card; a place is below 30.
-- Assumes nothing.
use Rattle.busline_records.proofs.Lines.{card_line, refusal_line_lem}
use Rattle.busline_records.proofs.print.added_line.Goals as goal

pub returns-in-Ok : goal.returns-in-Ok
returns-in-Ok c = rw c.in-Ok.is (card_line _ c.named.ensures)

pub returns-in-Err : goal.returns-in-Err
returns-in-Err c = rw c.in-Err.is (refusal_line_lem c.in-Err.why c.refused_by.ensures)
