-- `text::page::Page::number` meets its contract: a space and then the digits.
-- Assumes nothing.
use Rattle.text.proofs.Pages.{writes_both}
use Rattle.text.specs.Lines.{number_text}
use Rattle.text.proofs.page.Page.number.Goals as goal

pub returns : goal.returns
unfolding number_text
returns c = writes_both c.put.ensures c.decimal.ensures
