-- `program_io::hex::decode` meets its contract: no line gives more bytes than there is room for.
-- Assumes nothing.
use Rattle.std.proofs.Common.{◌≤◌, length}
use Rattle.program_io.proofs.hex.decode.Given as goal

abbrev pub invariant-loop-digits : goal.invariant-loop-digits
invariant-loop-digits l =
    (goal.iterator-loop-digits).can_next l.digits-iterator
    × (goal.iterator-loop-digits).is_finite l.digits-iterator
    × (l.n ≤ length l.initial.out)
