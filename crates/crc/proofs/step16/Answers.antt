-- `crc::step16` meets its contract: the entry at the byte that meets the high byte so far, and the low byte moved up.
-- Assumes nothing.
use mathlib.Core.Path.{ap}
use Prim.Native.Nat.{ℕ, ◌*◌, ◌/◌, ◌%◌}
use native.Mathlib.Omega.{arith}
use lib.Bits.{bit_xor}
use Rattle.crc.specs.Table.{Remainders}
use Rattle.crc.proofs.Rule.{index_lt}
use Rattle.crc.proofs.step16.Goals as goal

pub returns : goal.returns
unfolding Remainders
returns c = let a = c.args in
    ap (λ (x : ℕ). bit_xor x (a.sum % 256 * 256)) (c.requires (bit_xor (a.sum / 256) a.b) (index_lt (a.sum / 256) a.b (omega arith) (omega arith)))
