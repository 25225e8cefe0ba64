-- `text::lines::say` meets its contract: one text after the other.
-- Assumes nothing.
use borrow.Author.Rules.{rules}
use Rattle.text.proofs.Pages.{writes_both}
use Rattle.text.specs.Lines.{word_line}
use Rattle.text.proofs.lines.say.Goals as goal

pub returns : goal.returns
unfolding word_line
returns c =
    let line = (writes_both c.head.ensures c.ending.ensures).put in
    search (rules, line)
