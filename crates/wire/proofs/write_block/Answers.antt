-- `wire::write_block` meets its contract: the copied payload and the two bytes of the sum behind it are the block.
-- Assumes nothing.
use mathlib.Core.Path.{refl, ap, ◌∙◌}
use mathlib.Core.List.{List, ◌++◌}
use Prim.Native.Nat.{ℕ, ◌+◌}
use borrow.Author.Rules.{rules}
use borrow.Author.Tests.{le-leb}
use lib.ListN.{length, drop}
use Rattle.base.proofs.Output.{short, written}
use Rattle.wire.specs.Blocks.{block_of, block_written}
use Rattle.wire.proofs.BlockTheorems.{long}
use Rattle.wire.proofs.Closing.{closed}
use Rattle.wire.proofs.write_block.Goals as goal

pub returns-then-out-n-clause-answer : goal.returns-then-out-n-clause-answer
unfolding block_written
returns-then-out-n-clause-answer c =
    let p = c.args.payload.now in
    simp (le-leb _ _ c.if-n-lt1.false, le-leb _ _ c.if-n-gt-LONGEST_BLOCK.false)
    (short (block_of p) c.args.out.now (length p + 2) (long p) c.if-out-n.true)

pub returns : goal.returns
unfolding block_written
returns c =
    let p = c.args.payload.now in
    let o = c.args.out.now in
    let w = written (block_of p) o (length p + 2) (long p) _ c.if-out-n.false
    (closed p o _ _ (length p) _ refl (ap (λ (x : List ℕ). x ++ drop (length p) o) c.copy_from_slice.ensures.after)
    (c.copy_from_slice-2.ensures.after ∙ c.to_be_bytes.ensures) (search rules) c.crc16-sum.ensures.answer) in
    record { answer = simp (le-leb _ _ c.if-n-lt1.false, le-leb _ _ c.if-n-gt-LONGEST_BLOCK.false) w.0; output = w.1 }
