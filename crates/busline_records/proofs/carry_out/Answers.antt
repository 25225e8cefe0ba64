-- `busline_records::carry_out` meets its contract: the line is in the first bytes of the output, and the rest stays.
-- Assumes nothing.
use Prim.Native.Nat.{◌≤◌}
use borrow.Author.Tests.{le-leb}
use lib.ListN.{length}
use Rattle.busline_records.proofs.Laws.{chunk_whole}
use Rattle.busline_records.specs.Record.{text_of}
use Rattle.busline_records.proofs.carry_out.Goals as goal

pub returns-clause-text : goal.returns-clause-text
unfolding text_of
returns-clause-text c =
    let o = c.args.out.now in
    let chunk = c.in-Some.ensures.cases in
    let room : 64 ≤ length o = chunk.enough in
    rw (le-leb 64 (length o) room, ← c.read.ensures.answer) (chunk_whole o _ _ _ _ room c.carry.ensures.short chunk.same c.carry.ensures.text)
