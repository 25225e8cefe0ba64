-- `cardline_records::make::make_line` meets its contract: each return is told what became of the make.
-- Assumes nothing.
use Prim.Native.Nat.{◌≤◌}
use native.Mathlib.Omega.{arith}
use lib.ListN.{length}
use Rattle.cardline_records.proofs.Lengths.{plain_line_lem}
use Rattle.cardline_records.specs.Words.{made_word}
use Rattle.text.proofs.Lengths.{refusal_short}
use Rattle.cardline_records.proofs.make.make_line.Goals as goal

pub returns-in-Ok : goal.returns-in-Ok
returns-in-Ok c =
    let short : length made_word ≤ 20 = omega arith in
    rw c.in-Ok.is (plain_line_lem made_word short c.plain.ensures)

pub returns-in-Err : goal.returns-in-Err
returns-in-Err c =
    rw c.in-Err.is
    (record { put = c.refused_by.ensures; short = omega (arith, refusal_short c.in-Err.refusal) })
