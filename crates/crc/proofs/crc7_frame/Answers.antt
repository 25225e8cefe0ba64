-- `crc::crc7_frame` meets its contract: what it works is the remainder, by the law of 40 bits.
-- Assumes nothing.
use borrow.Author.Rules.{rules}
use Rattle.crc.proofs.Worked.{worked, worked_is}
use Rattle.crc.proofs.crc7_frame.Goals as goal

pub returns : goal.returns
unfolding worked
returns c = record { answer = worked_is c.args.first c.args.word (search rules) (search rules) }
