-- `busline_records::carry::added` meets its contract: a line, and what is kept: the bus with the card. A place is below 30.
-- Assumes nothing.
use mathlib.Core.Path.{sym, ap, ◌∙◌}
use Rattle.bus.specs.declared.Added.{Added}
use Rattle.busline_records.proofs.Laws.{place_below}
use Rattle.busline_records.specs.Record.{card_text, card_said}
use native.Mathlib.Omega.{arith}
use borrow.Author.Rules.{rules}
use Rattle.std.proofs.lemmas.Grind.{common_steps}
use Rattle.busline_records.proofs.carry.added.Goals as goal

pub added_line-wrote-requires : goal.added_line-wrote-requires
added_line-wrote-requires c = λ n e. place_below _ _ n (sym (ap (λ (a : Added). a.adding) c.add-given.ensures.answer) ∙ e)

pub returns-clause-answer : goal.returns-clause-answer
unfolding card_text card_said
returns-clause-answer c = search rules

pub returns-clause-text : goal.returns-clause-text
unfolding card_text card_said
returns-clause-text c = grind (arith, common_steps)
