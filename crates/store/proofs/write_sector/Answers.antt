-- `store::write_sector` meets its contract: the first 512 bytes stand over the sector, or there are fewer, or the memory has no such sector.
-- Assumes nothing.
use mathlib.Core.Path.{sym, ap, ◌∙◌}
use mathlib.Core.List.{List, ◌++◌}
use Prim.Native.Nat.{ℕ, ◌*◌, ◌+◌}
use native.Mathlib.Omega.{arith}
use borrow.Author.Tests.{lt-ltb, le-leb}
use lib.ListN.{take, drop, length-take, length-drop}
use lib.Seq.{take-take, length-take-le}
use Rattle.std.proofs.lemmas.Slice.{put_mid-paste}
use Rattle.store.specs.Memory.{sector_written}
use Rattle.store.proofs.write_sector.Goals as goal

pub copy_bytes-requires : goal.copy_bytes-requires
copy_bytes-requires c = simp (length-take, length-drop) (omega arith)

pub returns-then-number-memory : goal.returns-then-number-memory
unfolding sector_written
returns-then-number-memory c =
    let m = c.args.memory.now in
    let s = c.args.bytes.now in
    let at = c.args.sector * 512 in
    let long = length-take-le 512 s c.if-bytes-lt-SECTOR.false in
    record {
      memory = simp (le-leb 512 _ c.if-bytes-lt-SECTOR.false, lt-ltb c.args.sector _ c.if-number-memory.true)
          (put_mid-paste at _ m _ (take 512 s) 512 c.copy_bytes.ensures (omega arith) (sym long)
          ∙ ap (λ (x : List ℕ). take at m ++ x ++ drop (at + 512) m) (take-take 512 512 s (omega arith)));
    }
