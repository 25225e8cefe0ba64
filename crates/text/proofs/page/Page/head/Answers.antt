-- `text::page::Page::head` meets its contract: three texts, one after the other.
-- Assumes nothing.
use Rattle.text.proofs.Pages.{writes_both}
use Rattle.text.specs.Lines.{head_text}
use Rattle.text.proofs.page.Page.head.Goals as goal

pub returns : goal.returns
unfolding head_text
returns c = writes_both (writes_both c.decimal.ensures c.put.ensures) c.put-2.ensures
