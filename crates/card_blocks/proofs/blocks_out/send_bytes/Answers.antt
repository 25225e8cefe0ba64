-- `card_blocks::blocks_out::send_bytes` meets its contract: `write_block` lays the block where it fits, and a payload of this length is refused by 6 alone.
-- Assumes nothing.
use mathlib.Core.Path.{◌≡◌, refl, sym, ap, ◌∙◌}
use mathlib.Core.Bool.{false}
use mathlib.Core.List.{List, [], ◌∷◌}
use Prim.Native.Nat.{ℕ, ◌≤◌}
use native.Mathlib.Omega.{arith}
use borrow.Author.Tests.{le-leb}
use lib.Dec.{leb}
use lib.ListN.{length}
use Rattle.base.proofs.Cases.{kept_by}
use Rattle.base.specs.Output.{fits, laid}
use Rattle.base.specs.Refusals.{by}
use Rattle.base.specs.declared.Refusal.{Refusal}
use Rattle.wire.proofs.BlockTheorems.{long}
use Rattle.wire.specs.Blocks.{block_of, block_written}
use Rattle.card_blocks.specs.BlockOut.{block_laid, sent_whole}
use Rattle.card_blocks.proofs.Laying.{laid_front}
use Rattle.card_blocks.proofs.blocks_out.send_bytes.Goals as goal
use Rattle.std.specs.Prelude.{Result, is_ok}

-- what fits goes out whole
whole : (b : List ℕ) (room : ℕ) → 1 ≤ length b → leb (length b) room ≡ sent_whole b room
whole [] room some = absurd (omega arith)
whole (x ∷ b) room some = refl

-- p is the payload, o the output at entry, l and r what `write_block` left and told
module _ (p o l : List ℕ) (r : Result ℕ Refusal) (lo : 1 ≤ length p) (hi : length p ≤ 2048) (er : r ≡ block_written p o) (el : l ≡ laid r (block_of p) o) where
  written : r ≡ fits (block_of p) o
  unfolding block_written
  written = er ∙ simp (le-leb 1 (length p) lo, le-leb (length p) 2048 hi)

  output : l ≡ block_laid false (block_of p) o
  output = el ∙ ap (λ (x : Result ℕ Refusal). laid x (block_of p) o) written ∙ sym (laid_front (block_of p) o (omega (arith, long p)))

  sent : is_ok r ≡ sent_whole (block_of p) (length o)
  sent =
      ap (λ (x : Result ℕ Refusal). is_ok x) written ∙ kept_by (by 6) (length (block_of p)) (leb (length (block_of p)) (length o))
      ∙ whole (block_of p) (length o) (omega (arith, long p))

pub returns-clause-answer : goal.returns-clause-answer
returns-clause-answer c =
    let p = c.args.bytes.now in
    let b = c.write_block.ensures in
    c.is_ok.ensures.value ∙ sent p c.args.out.now _ c.write_block.result c.requires.0 c.requires.1 b.answer b.output

pub returns-clause-output : goal.returns-clause-output
returns-clause-output c =
    let p = c.args.bytes.now in
    let b = c.write_block.ensures in
    output p c.args.out.now _ c.write_block.result c.requires.0 c.requires.1 b.answer b.output
