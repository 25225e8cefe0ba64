-- `cardline_records::answers::sent_beside` meets its contract: each return is told the writer's answer.
-- Assumes nothing.
use mathlib.Core.Path.{ap, ◌∙◌}
use borrow.Author.Rules.{rules}
use lib.ListN.{replicate}
use Rattle.cardline_records.proofs.Sending.{sent_beside_lem}
use Rattle.cardline_records.specs.Calls.{beside_bytes, beside_text}
use Rattle.text.proofs.Pages.{writes_as}
use Rattle.cardline_records.proofs.answers.sent_beside.Goals as goal

pub returns-in-Ok : goal.returns-in-Ok
unfolding beside_bytes
returns-in-Ok c =
    let d = c.write_sent-written in
    let a = c.args in
    writes_as
    (ap (beside_text a.word.now)
    (c.part.ensures.part
    ∙ sent_beside_lem a.registers a.sent (replicate 17 0) d.new.out d.result d.ensures.answer c.in-Ok.n
    c.in-Ok.is d.ensures.output))
    c.beside.ensures

pub returns-in-Err : goal.returns-in-Err
unfolding beside_bytes
returns-in-Err c = search rules
