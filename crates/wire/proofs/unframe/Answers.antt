-- `wire::unframe` meets its contract: at each return the tests that led there say which case of `framing_of` holds, by the law of
-- a frame's six bytes.
-- Assumes nothing.
use mathlib.Core.Path.{sym, ap, ap₂, ◌∙◌}
use mathlib.Core.List.{◌++◌}
use Prim.Native.Nat.{ℕ}
use native.Mathlib.Omega.{arith}
use borrow.Author.Tests.{eq-eqb, ne_eqb}
use lib.ListN.{get_or}
use Rattle.crc.specs.Bits.{bits_of}
use Rattle.crc.specs.Crc.{remainder, generator7}
use Rattle.crc.proofs.Bits.{word_spelt}
use Rattle.crc.proofs.Worked.{five}
use Rattle.wire.proofs.InBytes.{framing_is, framing_good, meaning}
use Rattle.wire.proofs.unframe.Goals.{then-first-ne0-via-then-first-ne0, then-first-ne0-via-else-first-ne0+then-first-ne1, then-first-ne0-via-else-first-ne0+else-first-ne1+then-last-ne1}
use Rattle.wire.proofs.unframe.Goals as goal

pub returns-then-first-ne0 : goal.returns-then-first-ne0
returns-then-first-ne0 c = record {
  answer = rw (framing_is c.args.frame.now (omega arith) (λ k. (c.type_inv.frame k).fits))
      (elim c.then-first-ne0.branch [
        | then-first-ne0-via-then-first-ne0 w ↦ simp (ne_eqb _ _ w.if-first-ne0.true)
        | then-first-ne0-via-else-first-ne0+then-first-ne1 w ↦ simp (eq-eqb _ _ w.if-first-ne0.false, ne_eqb _ _ w.if-first-ne1.true)
        | then-first-ne0-via-else-first-ne0+else-first-ne1+then-last-ne1 w ↦ simp (eq-eqb _ _ w.if-first-ne0.false, eq-eqb _ _ w.if-first-ne1.false, ne_eqb _ _ w.if-last-ne1.true)
      ]);
}

pub returns : goal.returns
returns c =
    let f = c.args.frame.now in
    let small = λ (k : ℕ). (c.type_inv.frame k).fits in
    let w = c.from_be_bytes-argument.ensures ∙ sym (word_spelt (get_or f 1 0) (get_or f 2 0) (get_or f 3 0) (get_or f 4 0) (small 1) (small 2) (small 3) (small 4)) in
    record {
      answer = ap₂ (meaning f) w
          (c.crc7_frame-sum.ensures.answer
          ∙ ap (λ (x : ℕ). remainder 7 generator7 (bits_of 8 (get_or f 0 0) ++ bits_of 32 x)) w
          ∙ five (get_or f 0 0) (get_or f 1 0) (get_or f 2 0) (get_or f 3 0) (get_or f 4 0))
          ∙ sym (framing_good f (omega arith) small c.if-first-ne0.false c.if-first-ne1.false c.if-last-ne1.false);
    }
