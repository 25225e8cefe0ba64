-- `lock::matches` meets its contract. The loop's invariant: the bytes passed are those of the password.
-- Assumes nothing.
use mathlib.Core.Path.{◌≡◌}
use lib.ListN.{take, drop}
use Rattle.lock.proofs.matches.Given as goal

abbrev pub invariant-loop-i : goal.invariant-loop-i
invariant-loop-i l = take l.i (drop 2 l.payload) ≡ take l.i l.lock.password
