-- `crc::crc7` meets its contract. The loop's invariant: the sum is that of the bytes before those that are left. A turn passes five bytes or one.
-- Assumes nothing.
use lib.ListN.{length}
use Rattle.crc.proofs.Left.{Summed}
use Rattle.crc.proofs.crc7.Given as goal

abbrev pub invariant-loop-rest : goal.invariant-loop-rest
invariant-loop-rest l = Summed l.bytes l.rest l.sum

abbrev pub decreases-loop-rest : goal.decreases-loop-rest
decreases-loop-rest l = length l.rest
