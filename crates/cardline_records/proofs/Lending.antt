-- Laws of parts of a list, as far as it goes.
--   lent_front, lent_back   the first k of a list and the rest, where k is n or as many as there are
--   filled_is          a memory whose first n bytes are filled
--   front_is           the first bytes of two buffers, as they are lent
--   stepped_answer, stepped_lent, stepped_output    a call that is lent them
--   told_record, told_text    what a call leaves and its line, from what it answered
-- Assumes nothing.
use mathlib.Core.Path.{◌≡◌, sym, ap, ap₂, ◌∙◌}
use mathlib.Core.Bool.{true, false}
use mathlib.Core.List.{List, ◌++◌}
use Prim.Native.Nat.{ℕ, ◌≤◌, ◌<◌, min}
use native.Mathlib.Omega.{arith}
use borrow.Author.Tests.{leb-true, leb-false}
use lib.Dec.{leb}
use lib.ListN.{length, take, drop, replicate, length-replicate, drop_of_length-le}
use lib.Seq.{take_all}
use Rattle.base.proofs.Cases.{cases}
use Rattle.cardline_looks.specs.Lines.{blank}
use Rattle.cardline_looks.specs.Looks.{front_of}
use Rattle.cardline_records.specs.Calls.{step_lent, buffers_lent, output_lent, reply_text, call_text}
use Rattle.cardline_records.specs.Makes.{memory_filled}
use Rattle.cardline_records.specs.Progress.{put_back}
use Rattle.card.specs.Step.{step_of, lent_after, output_of}
use Rattle.card.specs.declared.Call.{Call}
use Rattle.card_blocks.specs.declared.Stepped.{Stepped}
use Rattle.card_record.specs.declared.Card.{Card}
use Rattle.cardline_script.specs.declared.Sizes.{Sizes}
use Rattle.store.specs.Lent.{Lent, lent_of, seen}

pub lent_front : (l : List ℕ) (n k : ℕ) → k ≡ min n (length l) → take k l ≡ take n l
lent_front l n k e =
    cases (leb n (length l))
    (λ (t : leb n (length l) ≡ true).
    let h : n ≤ length l = leb-true n (length l) t in
    let j : k ≡ n = omega arith in
    ap (λ (m : ℕ). take m l) j)
    (λ (t : leb n (length l) ≡ false).
    let h : length l < n = leb-false n (length l) t in
    take_all k l (omega arith) ∙ sym (take_all n l (omega arith)))

pub lent_back : (l : List ℕ) (n k : ℕ) → k ≡ min n (length l) → drop k l ≡ drop n l
lent_back l n k e =
    cases (leb n (length l))
    (λ (t : leb n (length l) ≡ true).
    let h : n ≤ length l = leb-true n (length l) t in
    let j : k ≡ n = omega arith in
    ap (λ (m : ℕ). drop m l) j)
    (λ (t : leb n (length l) ≡ false).
    let h : length l < n = leb-false n (length l) t in
    drop_of_length-le l {i = k} (omega arith) ∙ sym (drop_of_length-le l {i = n} (omega arith)))

pub filled_is : (l p : List ℕ) (n k v : ℕ) → k ≡ min n (length l) → p ≡ replicate (length (take k l)) v → p ++ drop k l ≡ memory_filled n v l
unfolding memory_filled
filled_is l p n k v ek e =
    ap₂ (λ (x y : List ℕ). x ++ y) (e ∙ ap (λ (m : List ℕ). replicate (length m) v) (lent_front l n k ek)) (lent_back l n k ek)

-- k and j are how many bytes of the memory and the map are lent; r, m, p and q are the answer, the lent bytes of both and the output afterwards
module _ (card : Card) (lent : Sizes) (call : Call) (input memory map output : List ℕ) (k j : ℕ) (ek : k ≡ min lent.memory (length memory)) (ej : j ≡ min lent.map (length map)) where
  abbrev buffers : Lent
  buffers = lent_of memory map

  front_is : lent_of (take k memory) (take j map) ≡ front_of lent buffers
  front_is = ap₂ (λ (x y : List ℕ). lent_of x y) (lent_front memory lent.memory k ek) (lent_front map lent.map j ej)

  pub stepped_answer : (r : Stepped) → r ≡ step_of card call input (seen (lent_of (take k memory) (take j map))) (length output)
      → r ≡ step_lent card lent call input buffers (length output)
  unfolding step_lent
  stepped_answer r e = e ∙ ap (λ (l : Lent). step_of card call input (seen l) (length output)) front_is

  pub stepped_lent : (m p : List ℕ) → lent_of m p ≡ lent_after card call input (lent_of (take k memory) (take j map))
      → lent_of (m ++ drop k memory) (p ++ drop j map) ≡ buffers_lent card lent call input buffers
  unfolding buffers_lent
  stepped_lent m p e =
      ap₂ (λ (x y : List ℕ). lent_of (m ++ x) (p ++ y)) (lent_back memory lent.memory k ek) (lent_back map lent.map j ej)
      ∙ ap (put_back lent buffers) (e ∙ ap (lent_after card call input) front_is)

  pub stepped_output : (q : List ℕ) → q ≡ output_of card call (lent_of (take k memory) (take j map)) output
      → q ≡ output_lent card lent call buffers output
  unfolding output_lent
  stepped_output q e = e ∙ ap (λ (l : Lent). output_of card call l output) front_is

-- a call's line and what it leaves, where o is the output before the call and q after it
module _ (card : Card) (lent : Sizes) (call : Call) (input : List ℕ) (buffers : Lent) (o q : List ℕ) (room : ℕ) (r : Stepped) (eo : o ≡ blank room)
    (er : r ≡ step_lent card lent call input buffers (length o)) (eq : q ≡ output_lent card lent call buffers o) where
  told_step : r ≡ step_lent card lent call input buffers room
  told_step = er ∙ ap (λ (k : ℕ). step_lent card lent call input buffers k) (ap length eo ∙ length-replicate room 0xA5)

  told_output : q ≡ output_lent card lent call buffers (blank room)
  told_output = eq ∙ ap (λ (l : List ℕ). output_lent card lent call buffers l) eo

  pub told_record : r.card ≡ (step_lent card lent call input buffers room).card
  told_record = ap (λ (x : Stepped). x.card) told_step

  pub told_text : (count : ℕ) → reply_text count call card.registers r.reply q ≡ call_text count card lent call input buffers room
  unfolding call_text
  told_text count = ap₂ (λ (x : Stepped) (l : List ℕ). reply_text count call card.registers x.reply l) told_step told_output
