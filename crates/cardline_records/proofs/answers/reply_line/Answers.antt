-- `cardline_records::answers::reply_line` meets its contract: each return is told its call.
-- Assumes nothing.
use mathlib.Core.List.{[]}
use native.Mathlib.Omega.{arith}
use Rattle.text.proofs.Lengths.{word_short}
use Rattle.cardline_records.specs.Words.{done_word, power_word}
use Rattle.cardline_records.proofs.answers.reply_line.Goals as goal

pub returns-in-WorkDone : goal.returns-in-WorkDone
returns-in-WorkDone c =
    let a = c.args in
    rw c.in-WorkDone.is (record { put = c.say.ensures; short = omega (arith, word_short a.count done_word []) })

pub returns-in-PowerOn : goal.returns-in-PowerOn
returns-in-PowerOn c =
    let a = c.args in
    rw c.in-PowerOn.is (record { put = c.say-in-PowerOn.ensures; short = omega (arith, word_short a.count power_word []) })
