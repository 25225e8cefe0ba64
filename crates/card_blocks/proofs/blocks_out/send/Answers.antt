-- `card_blocks::blocks_out::send` meets its contract: the block, in SPI behind its start byte.
-- Assumes nothing.
use mathlib.Core.Path.{◌≡◌, refl, sym, ap, ap₂, ◌∙◌, subst}
use mathlib.Core.Bool.{Bool, true, false}
use mathlib.Core.List.{List, ◌++◌, append-nil}
use Prim.Native.Nat.{ℕ, ◌-◌, ◌≤◌, ◌<◌}
use native.Mathlib.Omega.{arith}
use lib.ListN.{length, take, drop, set, length-drop, drop_of_length-le}
use lib.Seq.{take_all}
use Rattle.store.specs.Lent.{lent_of}
use Rattle.card_blocks.specs.BlockOut.{block_for, block_laid, sent_whole, sent_out}
use Rattle.card_blocks.specs.Framing.{beside, start_byte}
use Rattle.card_blocks.proofs.Laying.{unlaid, start_stored, start_left}
use Rattle.card_blocks.proofs.blocks_out.send.Goals.{else-sent-via-then-sent+else-card, else-sent-via-else-sent}
use Rattle.card_blocks.proofs.blocks_out.send.Goals as goal

-- an output that has no room for a start byte
short : (spi : Bool) (block o : List ℕ) → length o < beside spi - 2 → block_laid spi block o ≡ o
short true block o h = unlaid true block o (omega arith)
short false block o h = absurd (omega arith)

-- what is laid behind the first n bytes, n being those before the block, by whether it went out
left : (spi : Bool) (block o : List ℕ) (n : ℕ) → n ≡ beside spi - 2 → n ≤ length o → sent_whole block (length (drop n o)) ≡ false
    → take n o ++ block_laid false block (drop n o) ≡ block_laid spi block o
left true block o n e = subst (λ (k : ℕ). k ≤ length o → sent_whole block (length (drop k o)) ≡ false → take k o ++ block_laid false block (drop k o) ≡ block_laid true block o) (sym e) (start_left block o)
left false block o n e = subst (λ (k : ℕ). k ≤ length o → sent_whole block (length (drop k o)) ≡ false → take k o ++ block_laid false block (drop k o) ≡ block_laid false block o) (sym e) (λ some t. refl)

-- o is the output at entry; the code lends all of it behind its first n bytes, and last is what is left there
module _ (block o last : List ℕ) (n : ℕ) (told : Bool) (some : n ≤ length o) (et : told ≡ sent_whole block (length (take (length o - n) (drop n o))))
    (el : last ≡ block_laid false block (take (length o - n) (drop n o))) where
  rest : take (length o - n) (drop n o) ≡ drop n o
  rest = take_all (length o - n) (drop n o) (omega (arith, length-drop n o))

  whole : sent_whole block (length (drop n o)) ≡ told
  whole = sym (et ∙ ap (λ (l : List ℕ). sent_whole block (length l)) rest)

  back : take n o ++ (last ++ drop (length o - n) (drop n o)) ≡ take n o ++ block_laid false block (drop n o)
  back =
      ap₂ (λ (l r : List ℕ). take n o ++ (l ++ r)) (el ∙ ap (block_laid false block) rest)
      (drop_of_length-le (drop n o) {i = length o - n} (omega (arith, length-drop n o)))
      ∙ ap (λ (l : List ℕ). take n o ++ l) (append-nil (block_laid false block (drop n o)))

  unsent : (spi : Bool) → n ≡ beside spi - 2 → told ≡ false → take n o ++ (last ++ drop (length o - n) (drop n o)) ≡ block_laid spi block o
  unsent spi e t = back ∙ left spi block o n e some (whole ∙ t)

  plain : (spi : Bool) → n ≡ beside spi - 2 → spi ≡ false → take n o ++ (last ++ drop (length o - n) (drop n o)) ≡ block_laid spi block o
  plain spi e here =
      back
      ∙ ap (λ (k : ℕ). take k o ++ block_laid false block (drop k o)) (e ∙ ap (λ (b : Bool). beside b - 2) here)
      ∙ ap (λ (b : Bool). block_laid b block o) (sym here)

  sent : (spi : Bool) → n ≡ beside spi - 2 → told ≡ true → spi ≡ true
      → set (take n o ++ (last ++ drop (length o - n) (drop n o))) 0 start_byte ≡ block_laid spi block o
  sent spi e t here =
      let one : n ≡ 1 = e ∙ ap (λ (b : Bool). beside b - 2) here in
      ap (λ (l : List ℕ). set l 0 start_byte) back
      ∙ ap (λ (k : ℕ). set (take k o ++ block_laid false block (drop k o)) 0 start_byte) one
      ∙ start_stored block o (omega (arith, one, some)) (ap (λ (k : ℕ). sent_whole block (length (drop k o))) (sym one) ∙ whole ∙ t)
      ∙ ap (λ (b : Bool). block_laid b block o) (sym here)

pub returns-then-out-before : goal.returns-then-out-before
unfolding sent_out
returns-then-out-before c = let a = c.args in
    let block = block_for a.card.registers (lent_of a.memory.now a.map.now) a.sending in
    sym (short a.card.mode.spi block a.out.now (simp (← c.beside-before.ensures) c.if-out-before.true))

pub returns-then-card : goal.returns-then-card
unfolding sent_out
returns-then-card c = let a = c.args in
    let block = block_for a.card.registers (lent_of a.memory.now a.map.now) a.sending in
    let s = c.send_block-sent in
    sent block a.out.now s.new.out _ s.result c.if-out-before.false s.ensures.answer s.ensures.output a.card.mode.spi
    (ap (λ (m : ℕ). m - 2) c.beside-before.ensures) c.if-sent.true c.if-card.true

pub returns-else-sent : goal.returns-else-sent
unfolding sent_out
returns-else-sent c =
    let a = c.args in
    let block = block_for a.card.registers (lent_of a.memory.now a.map.now) a.sending in
    let s = c.send_block-sent in
    let before = ap (λ (m : ℕ). m - 2) c.beside-before.ensures in
    elim c.else-sent.branch [
      | else-sent-via-else-sent w ↦ unsent block a.out.now s.new.out _ s.result c.if-out-before.false s.ensures.answer s.ensures.output a.card.mode.spi before w.if-sent.false
      | else-sent-via-then-sent+else-card w ↦ plain block a.out.now s.new.out _ s.result c.if-out-before.false s.ensures.answer s.ensures.output a.card.mode.spi before w.if-card.false
    ]
