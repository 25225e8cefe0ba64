use Prim.Native.Nat.{◌+◌, ◌-◌}
use native.Mathlib.Omega.{arith}
use Rattle.store.proofs.Bits.{bit_small, bits_half, bits_all}
use Rattle.store.proofs.protection_bits.Goals as goal

pub overflow_mul-bits : goal.overflow_mul-bits
overflow_mul-bits c =
    let a = c.args in
    let l = c.loop-i in
    omega (arith, bits_half a.map.now (a.group + l.i) (32 - l.i) (omega arith))

pub overflow_add-bits : goal.overflow_add-bits
overflow_add-bits c =
    let a = c.args in
    let l = c.loop-i in
    omega (arith, bits_half a.map.now (a.group + l.i) (32 - l.i) (omega arith), bit_small a.map.now (a.group + (l.i - 1)))

pub returns : goal.returns
returns c = record {
  answer = let a = c.args in
      let l = c.loop-i in
      bits_all a.map.now a.group l.i l.bits (omega arith) l.invariant;
}
