-- `cardline_records::answers::sent_line` meets its contract: each return is told the writer's answer.
-- Assumes nothing.
use mathlib.Core.Path.{ap, ◌∙◌}
use native.Mathlib.Omega.{arith}
use borrow.Author.Rules.{rules}
use lib.ListN.{replicate}
use Rattle.cardline_records.proofs.Lengths.{shown_short}
use Rattle.cardline_records.proofs.Sending.{sent_text_lem}
use Rattle.text.proofs.Writing.{line_as}
use Rattle.cardline_records.specs.Calls.{shown_text, sent_text}
use Rattle.cardline_records.proofs.answers.sent_line.Goals as goal

pub returns-in-Ok : goal.returns-in-Ok
unfolding sent_text
returns-in-Ok c =
    let d = c.write_sent-written in
    let a = c.args in
    let bytes = c.part.result.now in
    line_as
    (ap (shown_text a.count) c.part.ensures.part
    ∙ sent_text_lem a.count a.registers a.sent (replicate 17 0) d.new.out d.result d.ensures.answer c.in-Ok.n
    c.in-Ok.is d.ensures.output)
    (record { put = c.shown.ensures; short = omega (arith, shown_short a.count bytes) })

pub returns-in-Err : goal.returns-in-Err
unfolding sent_text
returns-in-Err c = search rules
