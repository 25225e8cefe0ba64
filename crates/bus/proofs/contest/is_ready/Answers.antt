-- `bus::contest::is_ready` meets its contract: not in SPI, and Ready; and what the type of a card says of its CID.
-- Assumes nothing.
use borrow.Author.Rules.{rules}
use Rattle.bus.proofs.Lists.{bytes_held}
use Rattle.bus.specs.Contest.{cid_of, Held}
use Rattle.bus.proofs.contest.is_ready.Goals as goal
use Rattle.bus.proofs.contest.is_ready.Goals.{Start}

-- looked up where little else is known: the search goes through a bounded number of facts
held : (s : Start) → Held s.args.card
held s = bytes_held (cid_of s.args.card) 16 (search rules) (λ i. search rules)

pub returns-in-Ready-clause-bytes : goal.returns-in-Ready-clause-bytes
returns-in-Ready-clause-bytes c = held c.before.before.before

pub returns-in_default-clause-bytes : goal.returns-in_default-clause-bytes
returns-in_default-clause-bytes c = held c.before.before.before

pub returns-else-not-card-clause-bytes : goal.returns-else-not-card-clause-bytes
returns-else-not-card-clause-bytes c = held c.before.before
