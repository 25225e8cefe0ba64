-- `crc::table16` meets its contract: one test of all 256 entries, which antt computes.
-- Assumes nothing.
use mathlib.Core.Path.{refl}
use Rattle.crc.specs.Bits.{bits}
use Rattle.crc.specs.Crc.{divide, remainder, check_sum, crc16}
use Rattle.crc.proofs.Rule.{remainders}
use Rattle.crc.proofs.table16.Goals as goal

pub returns : goal.returns
unfolding crc16 check_sum remainder divide bits
returns c = remainders crc16 _ tt refl
