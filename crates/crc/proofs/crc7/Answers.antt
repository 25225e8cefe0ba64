use mathlib.Core.Path.{◌≡◌, ap, ◌∙◌}
use mathlib.Core.List.{List, [], ◌∷◌}
use Prim.Native.Nat.{ℕ, ◌*◌, ◌-◌}
use native.Mathlib.Omega.{arith}
use borrow.Author.Rules.{rules}
use lib.Bits.{bit_xor}
use lib.ListN.{length, get_or, take, drop, length-drop}
use lib.Seq.{take_all}
use Rattle.crc.specs.Bits.{bits, spelt}
use Rattle.crc.proofs.Left.{begins, ends, byte_so_far, by_five, by_one}
use Rattle.crc.proofs.crc7.Goals as goal
use Rattle.crc.proofs.crc7.Goals.{in_default-tail, in-len4-up}

pub loop-rest-init : goal.loop-rest-init
loop-rest-init c = begins c.args.bytes.now

pub overflow_mul-met : goal.overflow_mul-met
overflow_mul-met c = omega (arith, byte_so_far _ _ _ c.loop-rest.invariant)

pub loop-rest-preserved : goal.loop-rest-preserved
loop-rest-preserved c =
    let rest : List ℕ = c.loop-rest.rest.now in
    let t = c.if-tail-lt4.first in
    let m = c.loop-rest.invariant in
    let r = c.crc7_frame-sum.ensures.answer in
    let met : ℕ = bit_xor (c.loop-rest.sum * 2) (get_or rest 0 0) in
    let tail : List ℕ = take (length rest - 1) (drop 1 rest) in
    let whole : tail ≡ drop 1 rest = take_all (length rest - 1) (drop 1 rest) (omega (arith, length-drop 1 rest)) in
    elim c.if-tail-lt4.branch [
      | in_default-tail w ↦
          let ex : t.0 ≡ 0 = ap (λ z. z.0) w.first-is in
          let ew : t.1 ≡ met = ap (λ z. z.1) w.first-is in
          let eb : t.2.now ≡ drop 1 rest = ap (λ z. z.2.now) w.first-is ∙ whole in
          by_one _ rest _ _ _ _ m r _ c.in-len1-up.len_at_least (λ (k : ℕ). search rules) ex ew eb
      | in-len4-up w ↦
          let ex : t.0 ≡ met = ap (λ z. z.0) w.first-is in
          let ew : t.1 ≡ spelt (bits (get_or tail 0 0 ∷ get_or tail 1 0 ∷ get_or tail 2 0 ∷ get_or tail 3 0 ∷ [])) =
          ap (λ z. z.1) w.first-is ∙ w.word.ensures.answer in
          let eb : t.2.now ≡ drop 4 tail = ap (λ z. z.2.now) w.first-is ∙ take_all (length tail - 4) (drop 4 tail) (omega (arith, length-drop 4 tail)) in
          by_five _ rest _ _ _ _ m r tail _ whole w.in-len4-up.len_at_least ex ew eb
    ]

pub returns : goal.returns
returns c = record { answer = ends _ _ _ c.loop-rest.invariant (omega arith) }
