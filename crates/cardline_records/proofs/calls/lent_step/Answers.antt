-- `cardline_records::calls::lent_step` meets its contract: the first bytes of each buffer are lent.
-- Assumes nothing.
use mathlib.Core.Path.{refl}
use Rattle.cardline_records.proofs.Lending.{stepped_answer, stepped_lent, stepped_output}
use Rattle.cardline_records.proofs.calls.lent_step.Goals as goal

pub returns-clause-answer : goal.returns-clause-answer
returns-clause-answer c =
    let a = c.args in
    let s = c.step in
    stepped_answer a.card a.lent a.call a.input.now a.buffers.now.memory.now a.buffers.now.map.now a.output.now _ _ c.min-k.ensures c.min-j.ensures
    s.result s.ensures.answer

pub returns-clause-lent : goal.returns-clause-lent
returns-clause-lent c =
    let a = c.args in
    let s = c.step in
    record {
      memory = refl;
      map = refl;
      holds = stepped_lent a.card a.lent a.call a.input.now a.buffers.now.memory.now a.buffers.now.map.now a.output.now _ _ c.min-k.ensures c.min-j.ensures
          s.new.memory s.new.map s.ensures.lent;
    }

pub returns-clause-output : goal.returns-clause-output
returns-clause-output c =
    let a = c.args in
    let s = c.step in
    stepped_output a.card a.lent a.call a.input.now a.buffers.now.memory.now a.buffers.now.map.now a.output.now _ _ c.min-k.ensures c.min-j.ensures
    s.new.output s.ensures.output
