-- `card_blocks::blocks_out::send_part` meets its contract: the part read into the front and the two bytes stored behind it are the block.
-- Assumes nothing.
use mathlib.Core.Path.{◌≡◌, refl, sym, ap, ◌∙◌}
use mathlib.Core.Bool.{Bool, true, false}
use mathlib.Core.List.{List, [], ◌++◌}
use Prim.Native.Nat.{ℕ, ◌+◌, ◌-◌, ◌^◌, ◌≤◌, ◌<◌}
use native.Mathlib.Omega.{arith}
use borrow.Author.Tests.{leb-true}
use borrow.Rule.Slice.PartMut.{put_mid}
use borrow.Author.Rules.{rules}
use lib.ListN.{length, take, drop, length-drop, take-append-drop}
use Rattle.std.specs.Int.{w16, to_be_bytes}
use lib.Seq.{take_at, length-take-le}
use Rattle.base.proofs.Cases.{cases}
use Rattle.crc.specs.Crc.{crc16}
use Rattle.store.specs.Memory.{inside, part_of, part_read}
use Rattle.wire.proofs.BlockTheorems.{long as block_long}
use Rattle.wire.proofs.Closing.{closed}
use Rattle.wire.specs.Blocks.{block_of}
use Rattle.card_blocks.specs.BlockOut.{part_block, block_laid, sent_whole}
use Rattle.card_blocks.proofs.Laying.{unlaid, laid_whole, sent_short, sent_long}
use Rattle.card_blocks.proofs.blocks_out.send_part.Goals as goal

-- m is the memory and o the output at entry
module _ (m o : List ℕ) (at n : ℕ) where
  a_block : inside m at n ≡ true → part_block m at n ≡ block_of (part_of m at n)
  unfolding part_block
  a_block t = simp t

  no_block : inside m at n ≡ false → part_block m at n ≡ []
  unfolding part_block
  no_block t = simp t

  whole : inside m at n ≡ true → length (part_of m at n) ≡ n
  whole t = length-take-le n (drop at m) (omega (arith, length-drop at m, leb-true (at + n) (length m) t))

  -- what is told and what is left are what they must be
  abbrev Sends : Bool → List ℕ → Type 0
  Sends told l = (told ≡ sent_whole (part_block m at n) (length o)) × (l ≡ block_laid false (part_block m at n) o)

  outside : inside m at n ≡ false → Sends false o
  outside t = rw (no_block t) (refl, refl)

  full : length o < n + 2 → Sends false o
  full h =
      cases (inside m at n)
      (λ (t : inside m at n ≡ true).
      let b : List ℕ = block_of (part_of m at n) in
      let long : length b ≡ n + 2 = block_long (part_of m at n) ∙ ap (λ (i : ℕ). i + 2) (whole t) in
      rw (a_block t) (sym (sent_short b (length o) (omega arith)), sym (unlaid false b o (omega arith))))
      outside

  -- front is the first n bytes after the read
  module _ (front : List ℕ) (room : n + 2 ≤ length o) (el : front ≡ part_read m at (take n o)) where
    read : length (take n o) ≡ n
    read = length-take-le n o (omega arith)

    refused : inside m at (length (take n o)) ≡ false → Sends false (front ++ drop n o)
    unfolding part_read
    refused t =
        let none = outside (ap (inside m at) (sym read) ∙ t) in
        let kept : front ≡ take n o = el ∙ simp t in
        (none.0, ap (λ (x : List ℕ). x ++ drop n o) kept ∙ take-append-drop n o ∙ none.1)

    sent : inside m at (length (take n o)) ≡ true → (s : ℕ) (b : List ℕ) → s ≡ crc16 (take n (front ++ drop n o)) → b ≡ to_be_bytes w16 s → s < 2 ^ 16
        → Sends true (put_mid n (n + 2 - n) (front ++ drop n o) b)
    unfolding part_read
    sent t s b es eb hs =
        let yes : inside m at n ≡ true = ap (inside m at) (sym read) ∙ t in
        let p : List ℕ = part_of m at n in
        let taken : front ≡ p = el ∙ simp t (ap (part_of m at) read) in
        let l : front ++ drop n o ≡ p ++ drop n o = ap (λ (x : List ℕ). x ++ drop n o) taken in
        let long : length (block_of p) ≡ n + 2 = block_long p ∙ ap (λ (i : ℕ). i + 2) (whole yes) in
        rw (a_block yes) (
          sym (sent_long (block_of p) (length o) (omega arith) (omega arith)),
          closed p o (front ++ drop n o) b n s (whole yes) l eb hs (es ∙ ap crc16 (ap (take n) l ∙ take_at p (drop n o) n (whole yes)))
              ∙ sym (laid_whole false (block_of p) o (omega arith) (omega arith) ∙ ap (λ (i : ℕ). block_of p ++ drop i o) long),
        )

pub returns-then-out-lt2 : goal.returns-then-out-lt2
returns-then-out-lt2 c = let a = c.args in
    let s = full a.memory.now a.out.now a.at a.n (grind arith) in record { answer = s.0; output = s.1 }

pub returns-then-not-read_part : goal.returns-then-not-read_part
returns-then-not-read_part c = let a = c.args in
    let p = c.read_part in
    let s = refused a.memory.now a.out.now a.at a.n p.new.out (omega arith) p.ensures.output
    (sym p.ensures.answer ∙ c.if-not-read_part.true) in
    record { answer = s.0; output = s.1 }

pub returns : goal.returns
returns c = let a = c.args in
    let p = c.read_part in
    let s = sent a.memory.now a.out.now a.at a.n p.new.out (omega arith) p.ensures.output
    (sym p.ensures.answer ∙ c.if-not-read_part.false)
    _ _ c.crc16-sum.ensures.answer (c.copy_from_slice.ensures.after ∙ c.to_be_bytes.ensures) (search rules) in
    record { answer = s.0; output = s.1 }
