-- `cardline_looks::lines::say_number` meets its contract: three texts, one after the other.
-- Assumes nothing.
use borrow.Author.Rules.{rules}
use Rattle.text.proofs.Pages.{writes_both}
use Rattle.cardline_looks.proofs.Lengths.{number_line_short}
use Rattle.cardline_looks.specs.Lines.{number_line}
use Rattle.cardline_looks.proofs.lines.say_number.Goals as goal

pub returns : goal.returns
unfolding number_line
returns c = record {
  line = let a = c.args in
      let line = (writes_both (writes_both c.head.ensures c.number.ensures) c.ending.ensures).put in
      record {
        put = search (rules, line);
        short = number_line_short a.count a.word.now a.n a.bytes.now;
      };
}
