-- `wire::last_byte` meets its contract: the law of the closing byte.
-- Assumes nothing.
use mathlib.Core.Path.{sym, ap, ◌∙◌}
use Prim.Native.Nat.{ℕ, ◌+◌, ◌*◌, ◌<◌}
use native.Mathlib.Omega.{arith}
use Rattle.crc.proofs.Steps.{crc7_lt}
use Rattle.wire.proofs.InBytes.{last_is}
use Rattle.wire.proofs.last_byte.Goals as goal

small : (c : goal.After-crc7) → c.crc7.result < 128
small c = rw c.crc7.ensures.answer (crc7_lt _)

pub overflow_mul-result : goal.overflow_mul-result
overflow_mul-result c = omega (arith, small c)

pub overflow_add-result : goal.overflow_add-result
overflow_add-result c = omega (arith, small c)

pub returns : goal.returns
returns c = record { answer = ap (λ (x : ℕ). x * 2 + 1) c.crc7.ensures.answer ∙ sym (last_is c.args.body.now) }
