-- `cardline_records::make::fill_front` meets its contract: the part that is filled, and the rest.
-- Assumes nothing.
use Rattle.cardline_records.proofs.Lending.{filled_is}
use Rattle.cardline_records.proofs.make.fill_front.Goals as goal

pub returns : goal.returns
returns c =
    let a = c.args in
    filled_is a.memory.now c.fill.new.bytes a.n c.min-k.result a.value c.min-k.ensures c.fill.ensures.bytes
