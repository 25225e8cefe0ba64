-- `text::lines::named` meets its contract: one text after the other.
-- Assumes nothing.
use borrow.Author.Rules.{rules}
use Rattle.text.proofs.Pages.{writes_both}
use Rattle.text.specs.Lines.{named_line}
use Rattle.text.proofs.lines.named.Goals as goal

pub returns : goal.returns
unfolding named_line
returns c =
    let line = (writes_both (writes_both c.put.ensures c.number.ensures) c.put-2.ensures).put in
    search (rules, line)
