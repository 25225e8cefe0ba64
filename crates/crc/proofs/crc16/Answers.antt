use mathlib.Core.List.{[], ◌∷◌}
use Prim.Native.Nat.{◌*◌, ◌/◌, ◌%◌}
use borrow.Author.Rules.{rules}
use lib.Bits.{bit_xor}
use Rattle.crc.specs.Bits.{bits}
use Rattle.crc.specs.Crc.{divide, remainder, check_sum, crc16}
use Rattle.crc.proofs.Fold.{turn}
use Rattle.crc.proofs.Steps.{crc16_step}
use Rattle.crc.proofs.crc16.Goals as goal

pub loop-b-init : goal.loop-b-init
unfolding crc16 check_sum remainder divide bits
loop-b-init c = search rules

pub loop-b-preserved : goal.loop-b-preserved
loop-b-preserved c =
    turn crc16 (λ x b. bit_xor (crc16 (bit_xor (x / 256) b ∷ [])) (x % 256 * 256)) crc16_step c.args.bytes.now c.loop-b.b-index c.loop-b.sum c.step16-sum.result
    (search rules) c.loop-b.invariant c.step16-sum.ensures
