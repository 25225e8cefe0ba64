-- `cardline_looks::wires::checked_line` meets its contract: each return is told the answer.
-- Assumes nothing.
use mathlib.Core.List.{[]}
use native.Mathlib.Omega.{arith}
use Rattle.text.proofs.Lengths.{word_short}
use Rattle.cardline_looks.specs.Words.{good_word}
use Rattle.cardline_looks.proofs.wires.checked_line.Goals as goal

pub returns-in-Ok : goal.returns-in-Ok
returns-in-Ok c =
    let a = c.args in
    rw c.in-Ok.is (record { put = c.say.ensures; short = omega (arith, word_short a.count good_word []) })
