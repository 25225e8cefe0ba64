-- `program_io::hex::decode_line` meets its contract: a digit that waits for its second is one, and no more is stored than there is room for.
-- Assumes nothing.
use Rattle.std.proofs.Common.{◌≤◌, ◌<◌, length, IfSome}
use Rattle.program_io.proofs.hex.decode_line.Given as goal

abbrev pub invariant-loop-b : goal.invariant-loop-b
invariant-loop-b l =
    (goal.iterator-loop-b).can_next l.b-iterator
    × (goal.iterator-loop-b).is_finite l.b-iterator
    × IfSome l.high (λ h. h < 16)
    × (l.n ≤ length l.initial.out)
