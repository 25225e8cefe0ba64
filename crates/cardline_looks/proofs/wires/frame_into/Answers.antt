-- `cardline_looks::wires::frame_into` meets its contract: the whole output is shown, written or not.
-- Assumes nothing.
use Prim.Native.Nat.{◌≤◌}
use native.Mathlib.Omega.{arith}
use lib.ListN.{length}
use Rattle.cardline_looks.proofs.Writers.{frame_text_lem}
use Rattle.cardline_looks.specs.Lines.{line_room}
use Rattle.text.proofs.Writing.{line_as, line_most}
use Rattle.cardline_looks.proofs.wires.frame_into.Goals as goal

pub returns : goal.returns
returns c =
    let a = c.args in
    let d = c.write_command-answer in
    let h : line_room 12 (length d.new.out) ≤ line_room 20 (length a.output.now) = omega arith in
    line_as (frame_text_lem a.count a.index a.argument _ _ _ d.result c.fill.ensures.bytes d.ensures.answer d.ensures.output)
    (line_most h c.written_line.ensures)
