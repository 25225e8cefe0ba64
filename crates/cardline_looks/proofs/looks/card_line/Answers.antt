-- `cardline_looks::looks::card_line` meets its contract: four texts, one after the other.
-- Assumes nothing.
use borrow.Author.Rules.{rules}
use Rattle.text.proofs.Pages.{writes_both}
use Rattle.cardline_looks.proofs.Lengths.{card_short}
use Rattle.cardline_looks.specs.Looks.{card_text}
use Rattle.cardline_looks.proofs.looks.card_line.Goals as goal

pub returns : goal.returns
unfolding card_text
returns c =
    let a = c.args in
    let line = (writes_both (writes_both (writes_both c.head.ensures c.link_text.ensures) c.flags_text.ensures) c.ending.ensures).put in
    record {
      put = search (rules, line);
      short = card_short a.count a.link a.locked a.map.now;
    }
