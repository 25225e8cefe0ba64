-- `cardline_looks::looks::mode_line` meets its contract: four texts, one after the other.
-- Assumes nothing.
use mathlib.Core.Path.{ap, ◌∙◌}
use borrow.Author.Rules.{rules}
use Rattle.text.proofs.Pages.{writes_as, writes_both}
use Rattle.text.specs.Lines.{number_text}
use Rattle.cardline_looks.proofs.Bytes.{flag_written}
use Rattle.cardline_looks.proofs.Lengths.{mode_short}
use Rattle.cardline_looks.specs.Looks.{mode_text}
use Rattle.cardline_looks.proofs.looks.mode_line.Goals as goal

pub returns : goal.returns
unfolding mode_text
returns c =
    let a = c.args in
    let spi = writes_as (ap number_text (c.from.ensures ∙ flag_written a.mode.spi)) c.number.ensures in
    let checks = writes_as (ap number_text (c.from-2.ensures ∙ flag_written a.mode.checks)) c.number-2.ensures in
    let line = (writes_both (writes_both (writes_both c.head.ensures spi) checks) c.put.ensures).put in
    record {
      put = search (rules, line);
      short = mode_short a.count a.mode;
    }
