-- A block laid at the front of an output.
--   laid_front    it is laid as every answer is
--   unlaid        one that does not fit leaves the output as it was
--   laid_whole    one that fits stands at the front
--   sent_short    one that does not fit is told as refused 6
--   sent_long     one that fits is told with its length
--   start_stored  a block laid behind a first byte, and then the start byte stored there, is the block with its start byte
--   start_left    where none was laid behind it, none is laid with its start byte
-- Assumes nothing.
use mathlib.Core.Path.{◌≡◌, refl, sym, ap, ◌∙◌}
use mathlib.Core.Bool.{Bool, true, false}
use mathlib.Core.List.{List, [], ◌∷◌, ◌++◌}
use Prim.Native.Nat.{ℕ, ◌≤◌, ◌<◌}
use native.Mathlib.Omega.{arith}
use borrow.Author.Tests.{le-leb, lt-leb, leb-true, leb-false}
use lib.ListN.{length, take, drop, set}
use Rattle.base.proofs.Cases.{never}
use Rattle.base.specs.Output.{fits, laid}
use Rattle.card_blocks.specs.BlockOut.{in_front, block_laid, sent_whole}
use Rattle.card_blocks.specs.Framing.{start_byte, with_start}

left : (bytes o : List ℕ) → length o < length bytes → in_front bytes o ≡ o
unfolding in_front
left bytes o h = simp (lt-leb (length bytes) (length o) h)

front : (bytes o : List ℕ) → length bytes ≤ length o → in_front bytes o ≡ bytes ++ drop (length bytes) o
unfolding in_front
front bytes o h = simp (le-leb (length bytes) (length o) h)

pub laid_front : (block o : List ℕ) → 1 ≤ length block → block_laid false block o ≡ laid (fits block o) block o
unfolding in_front
laid_front [] o some = absurd (omega arith)
laid_front (b ∷ bs) o some = refl

pub unlaid : (spi : Bool) (block o : List ℕ) → length o < length (with_start spi block) → block_laid spi block o ≡ o
unlaid spi [] o h = refl
unlaid spi (b ∷ bs) o h = left (with_start spi (b ∷ bs)) o h

pub laid_whole : (spi : Bool) (block o : List ℕ) → 1 ≤ length block → length (with_start spi block) ≤ length o
    → block_laid spi block o ≡ with_start spi block ++ drop (length (with_start spi block)) o
laid_whole spi [] o some h = absurd (omega arith)
laid_whole spi (b ∷ bs) o some h = front (with_start spi (b ∷ bs)) o h

pub sent_short : (block : List ℕ) (room : ℕ) → room < length block → sent_whole block room ≡ false
sent_short [] room h = refl
sent_short (b ∷ bs) room h = lt-leb (length (b ∷ bs)) room h

pub sent_long : (block : List ℕ) (room : ℕ) → 1 ≤ length block → length block ≤ room → sent_whole block room ≡ true
sent_long [] room some h = absurd (omega arith)
sent_long (b ∷ bs) room some h = le-leb (length (b ∷ bs)) room h

pub start_stored : (block o : List ℕ) → 1 ≤ length o → sent_whole block (length (drop 1 o)) ≡ true
    → set (take 1 o ++ block_laid false block (drop 1 o)) 0 start_byte ≡ block_laid true block o
start_stored block [] some e = absurd (omega arith)
start_stored [] (x ∷ o) some e = never e
start_stored (b ∷ bs) (x ∷ o) some e =
    let h : length (b ∷ bs) ≤ length o = leb-true (length (b ∷ bs)) (length o) e in
    ap (λ (l : List ℕ). start_byte ∷ l) (front (b ∷ bs) o h) ∙ sym (front (start_byte ∷ b ∷ bs) (x ∷ o) (omega arith))

pub start_left : (block o : List ℕ) → 1 ≤ length o → sent_whole block (length (drop 1 o)) ≡ false
    → take 1 o ++ block_laid false block (drop 1 o) ≡ block_laid true block o
start_left block [] some e = absurd (omega arith)
start_left [] (x ∷ o) some e = refl
start_left (b ∷ bs) (x ∷ o) some e =
    let h : length o < length (b ∷ bs) = leb-false (length (b ∷ bs)) (length o) e in
    ap (λ (l : List ℕ). x ∷ l) (left (b ∷ bs) o h) ∙ sym (left (start_byte ∷ b ∷ bs) (x ∷ o) (omega arith))
