-- `cardline_looks::looks::look_line` meets its contract: each return is told its kind.
-- Assumes nothing.
use mathlib.Core.List.{[]}
use native.Mathlib.Omega.{arith}
use Rattle.text.proofs.Lengths.{word_short}
use Rattle.cardline_looks.specs.Words.{lent_word, poked_word}
use Rattle.cardline_looks.proofs.looks.look_line.Goals as goal

pub returns-in-Lend : goal.returns-in-Lend
returns-in-Lend c = record {
  line = let a = c.args in
      rw c.in-Lend.is (record { put = c.say.ensures; short = omega (arith, word_short a.count lent_word []) });
}

pub returns-in-Poke : goal.returns-in-Poke
returns-in-Poke c = record {
  line = let a = c.args in
      rw c.in-Poke.is (record { put = c.say-in-Poke.ensures; short = omega (arith, word_short a.count poked_word []) });
}
