-- Laws of a script that is read piece by piece. For s, the bytes at hand, and t, bytes behind them:
--   stays    a record that is whole asks for the same, whatever stands behind it
--   inside   what it asks for lies within the bytes at hand
--   short    one that is not whole yet has fewer bytes than the longest record
-- Each walks the definition once, by Reads.
-- Assumes nothing.
use mathlib.Core.Path.{◌≡◌, refl, sym, ap, ap₂, ◌∙◌}
use mathlib.Core.Bool.{Bool, true, false}
use mathlib.Core.List.{List, [], ◌∷◌, ◌++◌}
use Prim.Native.Nat.{ℕ, ◌+◌, ◌*◌, ◌≤◌, ◌<◌}
use native.Mathlib.Omega.{arith}
use borrow.Author.Tests.{leb-true, leb-false, le-leb}
use lib.Dec.{eqb, leb, eqb-suc-zero}
use lib.ListN.{length, length-append, get_or-append}
use Rattle.base.proofs.Cases.{cases, never}
use Rattle.base.specs.Choice.{pick, unless}
use Rattle.std.specs.Prelude.{Ok, Err}
use Rattle.cardline_script.specs.Reading.{Read, byte_at, two, three, four, complete, making_asked, make_asked, frame_asked, counted_asked, block_in_asked, block_out_asked, memory_asked, lend_asked, poke_asked, write_frame_asked, write_block_asked, check_asked, spi_asked, shown_asked, more_asked, asked_of}
use Rattle.cardline_script.specs.Whole.{waits, used_asked, longest_record}
use Rattle.cardline_script.specs.declared.Asked.TheVariants.{Go}
use Rattle.cardline_script.specs.declared.Calling.TheVariants.{WorkDone, PowerOn}
use Rattle.cardline_script.specs.declared.Going.TheVariants.{Call, Look}
use Rattle.cardline_script.specs.declared.Halt.TheVariants.{Stop}
use Rattle.cardline_script.specs.declared.Looking.TheVariants.{Card, Mode}
use Rattle.cardline_script.specs.declared.Stop.TheVariants.{NoCard, BadKind, TooBig}

-- what a slice's type says of its bytes
abbrev pub Bytes : List ℕ → Type 0
Bytes s = (i : ℕ) → byte_at s i < 256

-- a is what the bytes at hand ask for, b what they ask for with others behind them
pub record Reads (s : List ℕ) (a b : Read) : Type 0 where
  pub same : waits a ≡ false → b ≡ a
  pub within : used_asked a ≤ length s
  pub few : Bytes s → waits a ≡ true → length s < longest_record

module _ (s t : List ℕ) where
  byte_stays : (i : ℕ) → i < length s → byte_at (s ++ t) i ≡ byte_at s i
  byte_stays i h = get_or-append s t 0 i h

  two_stays : (i : ℕ) → i + 1 < length s → two (s ++ t) i ≡ two s i
  unfolding two
  two_stays i h = ap₂ (λ (a b : ℕ). a * 256 + b) (byte_stays i (omega arith)) (byte_stays (i + 1) h)

  three_stays : (i : ℕ) → i + 2 < length s → three (s ++ t) i ≡ three s i
  unfolding three
  three_stays i h = ap₂ (λ (a b : ℕ). a * 256 + b) (two_stays i (omega arith)) (byte_stays (i + 2) h)

  pub four_stays : (i : ℕ) → i + 3 < length s → four (s ++ t) i ≡ four s i
  unfolding four
  four_stays i h = rw (two_stays i (omega arith), byte_stays (i + 2) (omega arith), byte_stays (i + 3) h)

  -- the same wherever the bytes stop
  settled : (a : Read) → waits a ≡ false → used_asked a ≤ length s → Reads s a a
  settled a w h = record { same = λ e. refl; within = h; few = λ bytes e. never (sym w ∙ e) }

  complete_reads : (n m : ℕ) (a b : Read) → (Bytes s → n ≤ longest_record) → (n ≤ length s → m ≡ n) → (n ≤ length s → Reads s a b)
      → Reads s (complete n s a) (complete m (s ++ t) b)
  complete_reads n m a b small same then =
      cases (leb n (length s))
      (λ (e : leb n (length s) ≡ true).
      let h : n ≤ length s = leb-true n (length s) e in
      let j : m ≡ n = same h in
      let g : leb m (length (s ++ t)) ≡ true = le-leb m (length (s ++ t)) (let k = length-append s t in omega arith) in
      rw (e, g) (then h))
      (λ (e : leb n (length s) ≡ false).
      let h : length s < n = leb-false n (length s) e in
      rw e (record { same = λ w. never (sym w); within = omega arith; few = λ bytes w. let k = small bytes in omega arith }))

  limit_reads : (limit n m : ℕ) (a b : Read) → m ≡ n → (n ≤ limit → Reads s a b)
      → Reads s (unless (leb n limit) (Err (Stop TooBig)) a) (unless (leb m limit) (Err (Stop TooBig)) b)
  limit_reads limit n m a b j then =
      rw j
      (cases (leb n limit)
      (λ (e : leb n limit ≡ true). rw e (then (leb-true n limit e)))
      (λ (e : leb n limit ≡ false). rw e (settled (Err (Stop TooBig)) refl (omega arith))))

  pick_reads : (k : Bool) (a b c d : Read) → Reads s a b → Reads s c d → Reads s (pick k a c) (pick k b d)
  pick_reads true a b c d h i = h
  pick_reads false a b c d h i = i

  making_reads : (n : ℕ) → Reads s (making_asked n s) (making_asked n (s ++ t))
  unfolding making_asked
  making_reads n =
      complete_reads (byte_at s 5 + 43) (byte_at (s ++ t) 5 + 43) _ _ (λ bytes. let k = bytes 5 in omega arith)
      (λ h. ap (λ (m : ℕ). m + 43) (byte_stays 5 (omega arith)))
      (λ h.
      rw (byte_stays 5 (omega arith), byte_stays (byte_at s 5 + 42) (omega arith))
      (complete_reads (byte_at s 5 + 43 + byte_at s (byte_at s 5 + 42)) (byte_at s 5 + 43 + byte_at s (byte_at s 5 + 42)) _ _
      (λ bytes. let k = bytes 5 in let j = bytes (byte_at s 5 + 42) in omega arith) (λ i. refl)
      (λ i. rw (byte_stays 4 (omega arith)) (settled _ refl i))))

  make_reads : Reads s (make_asked s) (make_asked (s ++ t))
  unfolding make_asked
  make_reads =
      complete_reads 4 4 _ _ (λ bytes. omega arith) (λ h. refl)
      (λ h. rw (three_stays 1 (omega arith)) (limit_reads 524288 (three s 1) (three s 1) _ _ refl (λ i. making_reads (three s 1))))

  frame_reads : (selected : Bool) → Reads s (frame_asked s selected) (frame_asked (s ++ t) selected)
  unfolding frame_asked
  frame_reads selected =
      complete_reads 2 2 _ _ (λ bytes. omega arith) (λ h. refl)
      (λ h.
      rw (byte_stays 1 (omega arith))
      (complete_reads (byte_at s 1 + 2) (byte_at s 1 + 2) _ _ (λ bytes. let k = bytes 1 in omega arith) (λ i. refl) (λ i. settled _ refl i)))

  counted_reads : (more : ℕ) (a b : Read) → more ≤ 2 → (two s 1 + 3 + more ≤ length s → Reads s a b)
      → Reads s (counted_asked s more a) (counted_asked (s ++ t) more b)
  unfolding counted_asked
  counted_reads more a b small then =
      complete_reads 3 3 _ _ (λ bytes. omega arith) (λ h. refl)
      (λ h.
      rw (two_stays 1 (omega arith))
      (limit_reads 4096 (two s 1) (two s 1) _ _ refl
      (λ i. complete_reads (two s 1 + 3 + more) (two s 1 + 3 + more) a b (λ bytes. omega arith) (λ j. refl) then)))

  block_in_reads : Reads s (block_in_asked s) (block_in_asked (s ++ t))
  block_in_reads =
      counted_reads 0 _ _ (omega arith) (λ h. rw (two_stays 1 (omega arith)) (settled _ refl (omega arith)))

  block_out_reads : Reads s (block_out_asked s) (block_out_asked (s ++ t))
  unfolding block_out_asked
  block_out_reads =
      complete_reads 3 3 _ _ (λ bytes. omega arith) (λ h. refl)
      (λ h. rw (two_stays 1 (omega arith)) (limit_reads 4096 (two s 1) (two s 1) _ _ refl (λ i. settled _ refl h)))

  memory_reads : Reads s (memory_asked s) (memory_asked (s ++ t))
  unfolding memory_asked
  memory_reads =
      complete_reads 6 6 _ _ (λ bytes. omega arith) (λ h. refl)
      (λ h.
      rw (three_stays 1 (omega arith), two_stays 4 (omega arith))
      (limit_reads 4096 (two s 4) (two s 4) _ _ refl (λ i. settled _ refl h)))

  lend_reads : Reads s (lend_asked s) (lend_asked (s ++ t))
  unfolding lend_asked
  lend_reads =
      complete_reads 5 5 _ _ (λ bytes. omega arith) (λ h. refl)
      (λ h. rw (three_stays 1 (omega arith), byte_stays 4 (omega arith)) (settled _ refl h))

  poke_reads : Reads s (poke_asked s) (poke_asked (s ++ t))
  unfolding poke_asked
  poke_reads =
      complete_reads 3 3 _ _ (λ bytes. omega arith) (λ h. refl)
      (λ h. rw (byte_stays 1 (omega arith), byte_stays 2 (omega arith)) (settled _ refl h))

  write_frame_reads : Reads s (write_frame_asked s) (write_frame_asked (s ++ t))
  unfolding write_frame_asked
  write_frame_reads =
      complete_reads 7 7 _ _ (λ bytes. omega arith) (λ h. refl)
      (λ h. rw (byte_stays 1 (omega arith), four_stays 2 (omega arith), byte_stays 6 (omega arith)) (settled _ refl h))

  write_block_reads : Reads s (write_block_asked s) (write_block_asked (s ++ t))
  unfolding write_block_asked
  write_block_reads =
      counted_reads 2 _ _ (omega arith)
      (λ h.
      rw (two_stays 1 (omega arith), two_stays (two s 1 + 3) (omega arith))
      (limit_reads 4096 (two s (two s 1 + 3)) (two s (two s 1 + 3)) _ _ refl (λ i. settled _ refl (omega arith))))

  check_reads : Reads s (check_asked s) (check_asked (s ++ t))
  check_reads =
      counted_reads 0 _ _ (omega arith) (λ h. rw (two_stays 1 (omega arith)) (settled _ refl (omega arith)))

  module _ (some : 1 ≤ length s) where
    spi_reads : (kind : ℕ) → Reads s (spi_asked kind s) (spi_asked kind (s ++ t))
    unfolding spi_asked
    spi_reads kind =
        pick_reads (eqb kind 0x0E) _ _ _ _ (frame_reads true)
        (pick_reads (eqb kind 0x0F) _ _ _ _ (settled (Ok (Go (Look Mode))) refl some) (settled (Err (Stop BadKind)) refl (omega arith)))

    shown_reads : (kind : ℕ) → Reads s (shown_asked kind s) (shown_asked kind (s ++ t))
    unfolding shown_asked
    shown_reads kind =
        pick_reads (eqb kind 0x08) _ _ _ _ memory_reads
        (pick_reads (eqb kind 0x09) _ _ _ _ lend_reads
        (pick_reads (eqb kind 0x0A) _ _ _ _ poke_reads
        (pick_reads (eqb kind 0x0B) _ _ _ _ write_frame_reads
        (pick_reads (eqb kind 0x0C) _ _ _ _ write_block_reads
        (pick_reads (eqb kind 0x0D) _ _ _ _ check_reads (spi_reads kind))))))

    more_reads : (kind : ℕ) → Reads s (more_asked kind s) (more_asked kind (s ++ t))
    unfolding more_asked
    more_reads kind =
        pick_reads (eqb kind 0x02) _ _ _ _ (frame_reads false)
        (pick_reads (eqb kind 0x03) _ _ _ _ block_in_reads
        (pick_reads (eqb kind 0x04) _ _ _ _ block_out_reads
        (pick_reads (eqb kind 0x05) _ _ _ _ (settled (Ok (Go (Call WorkDone))) refl some)
        (pick_reads (eqb kind 0x06) _ _ _ _ (settled (Ok (Go (Call PowerOn))) refl some)
        (pick_reads (eqb kind 0x07) _ _ _ _ (settled (Ok (Go (Look Card))) refl some) (shown_reads kind))))))

    first_reads : (kind : ℕ) → Reads s (unless (eqb kind 0x01) (Err (Stop NoCard)) (make_asked s)) (unless (eqb kind 0x01) (Err (Stop NoCard)) (make_asked (s ++ t)))
    first_reads kind =
        cases (eqb kind 0x01)
        (λ (e : eqb kind 0x01 ≡ true). rw e make_reads)
        (λ (e : eqb kind 0x01 ≡ false). rw e (settled (Err (Stop NoCard)) refl (omega arith)))

-- the record at the front of a piece
reads : (made : Bool) (s t : List ℕ) → Reads s (asked_of made s) (asked_of made (s ++ t))
unfolding asked_of
reads made [] t = record { same = λ w. never (sym w); within = omega arith; few = λ bytes w. omega arith }
reads made (k ∷ s) t =
    simp eqb-suc-zero
    (pick_reads (k ∷ s) t made _ _ _ _ (more_reads (k ∷ s) t (omega arith) k) (first_reads (k ∷ s) t (omega arith) k))

pub stays : (made : Bool) (s t : List ℕ) → waits (asked_of made s) ≡ false → asked_of made (s ++ t) ≡ asked_of made s
stays made s t w = (reads made s t).same w

pub inside : (made : Bool) (s : List ℕ) → used_asked (asked_of made s) ≤ length s
inside made s = (reads made s []).within

pub short : (made : Bool) (s : List ℕ) → Bytes s → waits (asked_of made s) ≡ true → length s < longest_record
short made s bytes w = (reads made s []).few bytes w
