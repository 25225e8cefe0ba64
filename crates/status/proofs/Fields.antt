-- The fields of a status, by their sizes.
--   flag_lt     a flag is one bit
--   flag_from   a flag is the number that the code turns it into
--   shown_le    what is shown of the error bits is at most all of them
-- Assumes nothing.
use mathlib.Core.Path.{◌≡◌, refl}
use mathlib.Core.Bool.{Bool, true, false}
use Prim.Native.Nat.{◌≤◌, ◌<◌}
use native.Mathlib.Omega.{arith}
use lib.Bits.{and_le_r}
use Rattle.std.specs.Int.{from_bool}
use Rattle.status.specs.ErrorBits.{error_bits, word_with}
use Rattle.status.specs.Status.{flag, shown}
use Rattle.status.specs.declared.Errors.{Errors}

pub flag_lt : (b : Bool) → flag b < 2
flag_lt true = omega arith
flag_lt false = omega arith

pub flag_from : (b : Bool) → from_bool b ≡ flag b
flag_from true = refl
flag_from false = refl

pub shown_le : (e : Errors) → shown e ≤ word_with error_bits
shown_le e = and_le_r e.bits (word_with error_bits)
