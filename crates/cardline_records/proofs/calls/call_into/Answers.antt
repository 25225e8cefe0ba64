-- `cardline_records::calls::call_into` meets its contract: the output is made blank, the call carried out and its line told.
-- Assumes nothing.
use Prim.Native.Nat.{◌≤◌, max}
use native.Mathlib.Omega.{arith}
use lib.ListN.{length}
use Rattle.cardline_looks.specs.Lines.{line_room}
use Rattle.cardline_records.proofs.Lending.{told_record, told_text}
use Rattle.card_blocks.specs.Lending.{held}
use Rattle.text.proofs.Writing.{line_as, line_most}
use Rattle.cardline_records.proofs.calls.call_into.Goals as goal

pub returns-clause-record : goal.returns-clause-record
returns-clause-record c =
    let a = c.args in
    let d = c.lent_step-stepped in
    told_record a.card a.lent a.call a.input.now (held a.buffers.now) _ d.new.output (length a.output.now) d.result
    c.fill.ensures.bytes d.ensures.answer d.ensures.output

pub returns-clause-line : goal.returns-clause-line
returns-clause-line c =
    let a = c.args in
    let d = c.lent_step-stepped in
    let h : line_room 20 (max 17 (length d.new.output)) ≤ line_room 20 (max 17 (length a.output.now)) = omega arith in
    line_as
    (told_text a.card a.lent a.call a.input.now (held a.buffers.now) _ d.new.output (length a.output.now) d.result
    c.fill.ensures.bytes d.ensures.answer d.ensures.output a.count)
    (line_most h c.reply_line-wrote.ensures)
