-- How long a framed block is.
--   beside_short      a block carries two or three bytes beside its payload
--   unstarted_length  what stands behind the start byte is the payload with its CRC16
-- Assumes nothing.
use mathlib.Core.Path.{◌≡◌}
use mathlib.Core.Bool.{Bool, true, false}
use mathlib.Core.List.{List}
use Prim.Native.Nat.{ℕ, ◌+◌, ◌≤◌}
use native.Mathlib.Omega.{arith}
use lib.ListN.{length, length-drop}
use Rattle.card_blocks.specs.Framing.{beside, unstarted}

pub beside_short : (spi : Bool) → (2 ≤ beside spi) × (beside spi ≤ 3)
beside_short true = (omega arith, omega arith)
beside_short false = (omega arith, omega arith)

pub unstarted_length : (spi : Bool) (block : List ℕ) (n : ℕ) → length block ≡ n + beside spi → length (unstarted spi block) ≡ n + 2
unstarted_length true block n e = omega (arith, length-drop 1 block)
unstarted_length false block n e = e
