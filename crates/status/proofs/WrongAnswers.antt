-- Wrong answers that the promises rule out, each refuted at a sample that antt computes: a call's answer is the definition, so a call
-- that gave the wrong answer would make the two equal. (Those of set, clear_command_bits, pending and word are laws of the files beside this one.)
--   error_left     an error bit left by `none`
--   stray_left     a bit without a name left by it
-- Assumes nothing.
use mathlib.Core.Path.{◌≡◌}
use native.Mathlib.Omega.{arith}
use Rattle.status.specs.Bits.{bit_at}
use Rattle.status.specs.Status.{no_errors}

error_left : bit_at 23 no_errors.bits ≡ 1 → ⊥
error_left e = omega arith

stray_left : bit_at 0 no_errors.bits ≡ 1 → ⊥
stray_left e = omega arith
