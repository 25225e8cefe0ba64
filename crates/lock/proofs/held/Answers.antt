-- `lock::held` meets its contract: the array has 16 bytes, so the length that counts is the smaller of the record's and 16.
-- Assumes nothing.
use mathlib.Core.Path.{sym, ◌∙◌}
use borrow.Author.Rules.{rules}
use Rattle.lock.proofs.Stored.{stored_length}
use Rattle.lock.proofs.held.Goals as goal

pub returns-clause-answer : goal.returns-clause-answer
returns-clause-answer c = c.min.ensures ∙ sym (stored_length c.args.lock (search rules))
