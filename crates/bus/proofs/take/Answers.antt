-- `bus::take` meets its contract: a place that is not taken answers with the record of a refused make.
-- Assumes nothing.
use native.Mathlib.Omega.{arith}
use borrow.Author.Rules.{rules}
use Rattle.bus.specs.Bus.{taken_from}
use Rattle.std.proofs.lemmas.Grind.{common_steps}
use Rattle.bus.proofs.take.Goals as goal

pub returns-then-end-place : goal.returns-then-end-place
unfolding taken_from
returns-then-end-place c = search rules

pub returns : goal.returns
unfolding taken_from
returns c = grind (arith, common_steps)
