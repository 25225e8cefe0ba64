-- `cardline_records::answers::refused_line` meets its contract: three texts, one after the other.
-- Assumes nothing.
use mathlib.Core.Path.{ap}
use borrow.Author.Rules.{rules}
use Rattle.cardline_records.proofs.Lengths.{refused_short}
use Rattle.cardline_records.proofs.Sending.{beside_most}
use Rattle.cardline_records.specs.Calls.{beside_bytes, refused_text}
use Rattle.text.proofs.Pages.{writes_as, writes_both}
use Rattle.text.specs.Lines.{number_text}
use Rattle.cardline_records.proofs.answers.refused_line.Goals as goal

pub returns : goal.returns
unfolding refused_text
returns c =
    let a = c.args in
    let number = writes_as (ap number_text c.number.ensures.answer) c.number-2.ensures in
    let line = (writes_both (writes_both c.head.ensures number) c.sent_beside.ensures).put in
    record {
      put = search (rules, line);
      short = refused_short a.count a.refusal a.word.now (beside_bytes a.registers a.sent) (beside_most a.registers a.sent);
    }
