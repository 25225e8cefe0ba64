-- `card_blocks::blocks_in::store` meets its contract: each arm does what its callees ensure. A sector takes 512 bytes of a block, which are those kept.
-- Assumes nothing.
use mathlib.Core.Path.{◌≡◌, refl, sym, ap, ap₂, ◌∙◌}
use mathlib.Core.Bool.{Bool, ◌&&◌}
use mathlib.Core.List.{List, ◌++◌}
use Prim.Native.Nat.{ℕ, ◌+◌, ◌*◌, ◌≤◌, ◌<◌}
use native.Mathlib.Omega.{arith}
use borrow.Author.Tests.{le-leb, lt-leb}
use lib.ListN.{length, take, drop}
use lib.Seq.{paste, length-take-le, take-take}
use Rattle.base.specs.Choice.{pick}
use Rattle.store.specs.Lent.{lent_of}
use Rattle.store.specs.Memory.{holds, sector_written}
use Rattle.card_blocks.proofs.blocks_in.store.Goals as goal

kept_written : (m block : List ℕ) (sector : ℕ) → 512 ≤ length block → sector_written m sector (take 512 block) ≡ sector_written m sector block
unfolding sector_written
kept_written m block sector long =
    let l : length (take 512 block) ≡ 512 = length-take-le 512 block long in
    ap₂ (λ (t : Bool) (x : List ℕ). pick (t && holds m sector) (take (sector * 512) m ++ x ++ drop (sector * 512 + 512) m) m)
    (le-leb 512 (length (take 512 block)) (omega arith) ∙ sym (le-leb 512 (length block) long))
    (take-take 512 512 block (omega arith))

short_left : (m block : List ℕ) (sector : ℕ) → length block < 512 → m ≡ sector_written m sector block
unfolding sector_written
short_left m block sector h =
    sym (ap (λ (t : Bool). pick (t && holds m sector) (paste m (sector * 512) block 512) m) (lt-leb 512 (length block) h))

pub returns-then-block-ge-SECTOR_LENGTH : goal.returns-then-block-ge-SECTOR_LENGTH
returns-then-block-ge-SECTOR_LENGTH c = let a = c.args in
    let long : 512 ≤ length a.block.now = c.if-block-ge-SECTOR_LENGTH.true in
    record {
      memory = refl;
      map = refl;
      holds = simp (c.write_sector.ensures.memory, c.kept-bytes.ensures, c.in-Sector.is)
          (ap (λ (x : List ℕ). lent_of x a.lent.now.map.now) (kept_written a.lent.now.memory.now a.block.now _ long));
    }

pub returns-else-block-ge-SECTOR_LENGTH : goal.returns-else-block-ge-SECTOR_LENGTH
returns-else-block-ge-SECTOR_LENGTH c = let a = c.args in
    record {
      memory = refl;
      map = refl;
      holds = simp c.in-Sector.is
          (ap (λ (x : List ℕ). lent_of x a.lent.now.map.now) (short_left a.lent.now.memory.now a.block.now _ c.if-block-ge-SECTOR_LENGTH.false));
    }
