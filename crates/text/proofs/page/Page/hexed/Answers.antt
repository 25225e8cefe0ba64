-- `text::page::Page::hexed` meets its contract: a space and then the digits.
-- Assumes nothing.
use Rattle.text.proofs.Pages.{writes_both}
use Rattle.text.specs.Lines.{hex_text}
use Rattle.text.proofs.page.Page.hexed.Goals as goal

pub returns : goal.returns
unfolding hex_text
returns c = writes_both c.put.ensures c.hex.ensures
