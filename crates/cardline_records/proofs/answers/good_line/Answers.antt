-- `cardline_records::answers::good_line` meets its contract: two texts, one after the other.
-- Assumes nothing.
use borrow.Author.Rules.{rules}
use Rattle.cardline_records.proofs.Lengths.{good_short}
use Rattle.cardline_records.proofs.Sending.{beside_most}
use Rattle.cardline_records.specs.Calls.{beside_bytes, good_text}
use Rattle.text.proofs.Pages.{writes_both}
use Rattle.cardline_records.proofs.answers.good_line.Goals as goal

pub returns : goal.returns
unfolding good_text
returns c =
    let a = c.args in
    let line = (writes_both c.head.ensures c.sent_beside.ensures).put in
    record {
      put = search (rules, line);
      short = good_short a.count (beside_bytes a.registers a.sent) (beside_most a.registers a.sent);
    }
