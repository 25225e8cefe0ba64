-- `store::protection_bits` meets its contract. The loop's invariant: the bits of the groups from i on, which leave room for one more.
-- Assumes nothing.
use mathlib.Core.Path.{◌≡◌}
use Prim.Native.Nat.{◌+◌, ◌-◌}
use Rattle.store.specs.Map.{bits_from}
use Rattle.store.proofs.protection_bits.Given as goal

abbrev pub invariant-loop-i : goal.invariant-loop-i
invariant-loop-i l = l.bits ≡ bits_from l.map (l.first + l.i) (32 - l.i)
