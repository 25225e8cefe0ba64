-- `crc::crc16` meets its contract. The loop's invariant: the sum is that of the bytes passed.
-- Assumes nothing.
use mathlib.Core.Path.{◌≡◌}
use lib.ListN.{take}
use Rattle.crc.specs.Crc.{crc16}
use Rattle.crc.proofs.crc16.Given as goal

abbrev pub invariant-loop-b : goal.invariant-loop-b
invariant-loop-b l = l.sum ≡ crc16 (take l.b-index l.bytes)
