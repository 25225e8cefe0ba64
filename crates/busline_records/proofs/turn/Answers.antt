-- `busline_records::turn` meets its contract: the record at the place, and its line behind the text.
-- Assumes nothing.
use mathlib.Core.Path.{refl}
use native.Mathlib.Omega.{arith}
use Rattle.busline_records.proofs.Playing.{read_on, line_at}
use Rattle.busline_records.proofs.turn.Goals as goal

pub returns-clause-text : goal.returns-clause-text
returns-clause-text c = let a = c.args in
    let d = c.carry_out in
    let p = c.part-rest.ensures.part in
    let read = read_on a.progress a.script.now _ a.out.now _ a.at a.wrote d.result p refl d.ensures.answer in
    let line = line_at a.progress a.script.now _ a.out.now _ a.at a.wrote d.result p refl d.ensures.answer d.new.out _ (omega arith) d.ensures.text d.auto.out refl in line
