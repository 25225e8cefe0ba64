-- `firmware::frames::mmc_parts_frame` meets its contract: 12, 1 and 2 leave the record, 3 tells what it leaves, and else the command is heard.
-- Assumes nothing.
use mathlib.Core.Path.{sym, ap, ◌∙◌}
use Rattle.card.specs.Frame.{frame_stepped}
use Rattle.card_record.specs.declared.Mode.{Mode}
use Rattle.spi.specs.Hearing.{crc_passes}
use Rattle.store.specs.Lent.{lent_of}
use Rattle.firmware.specs.Answers.{won_by, selected_by}
use Rattle.firmware.proofs.Left.{lent_by, frame_unlent, frame_unframed, frame_damaged, frame_heard}
use Rattle.firmware.proofs.Sends.{framed_index}
use Rattle.firmware.proofs.frames.mmc_parts_frame.Goals as goal

-- 12
pub returns-in-Err : goal.returns-in-Err
unfolding frame_stepped
returns-in-Err c =
    let a = c.args in
    let numbers = a.numbers.now in
    let cid = a.cid.now in
    let csd = a.csd.now in
    let password = a.password.now in
    let lent = lent_of a.memory.now a.map.now in
    let lending = lent_by numbers cid csd password lent _ _ _ c.groups_of.ensures.answer c.lent_check-lending.ensures.answer c.in-Err.is in
    let left =
    frame_unlent numbers cid csd password (won_by a.won) (selected_by a.selected) a.frame.now lent _ _ a.answer.now lending c.number.ensures.answer
    in
    record { answer = left.0; numbers = left.1.0; lent = left.1.1.0; sent = left.1.1.1 }

-- 3
pub returns-then-not-crc_passes : goal.returns-then-not-crc_passes
unfolding frame_stepped
returns-then-not-crc_passes c =
    let a = c.args in
    let numbers = a.numbers.now in
    let cid = a.cid.now in
    let csd = a.csd.now in
    let password = a.password.now in
    let lent = lent_of a.memory.now a.map.now in
    let lending = lent_by numbers cid csd password lent _ _ _ c.groups_of.ensures.answer c.lent_check-lending.ensures.answer c.in-Ok.is in
    let read = c.in-Ok-framing.field-0 in
    let framing = sym c.unframe-framing.ensures.answer ∙ c.in-Ok-framing.is in
    let judged = c.crc_passes.ensures.answer ∙ ap (λ (mode : Mode). crc_passes mode read.index read.crc_right) c.mode_of.ensures.answer in
    let told = c.tell_damaged.ensures in
    let left =
    frame_damaged numbers cid csd password (won_by a.won) (selected_by a.selected) a.frame.now lent _ _ _ _ a.answer.now _ _ _ lending framing
    (sym judged ∙ c.if-not-crc_passes.true) c.number-then-not-crc_passes.ensures.answer told.numbers.0 told.numbers.1 told.sent told.answer
    in
    record { answer = left.0; numbers = left.1.0; lent = left.1.1.0; sent = left.1.1.1 }

pub hear-requires : goal.hear-requires
hear-requires c = framed_index _ _ _ _ (sym c.unframe-framing.ensures.answer ∙ c.in-Ok-framing.is)

-- a command
pub returns-else-not-crc_passes : goal.returns-else-not-crc_passes
unfolding frame_stepped
returns-else-not-crc_passes c =
    let a = c.args in
    let numbers = a.numbers.now in
    let cid = a.cid.now in
    let csd = a.csd.now in
    let password = a.password.now in
    let lent = lent_of a.memory.now a.map.now in
    let lending = lent_by numbers cid csd password lent _ _ _ c.groups_of.ensures.answer c.lent_check-lending.ensures.answer c.in-Ok.is in
    let read = c.in-Ok-framing.field-0 in
    let framing = sym c.unframe-framing.ensures.answer ∙ c.in-Ok-framing.is in
    let judged = c.crc_passes.ensures.answer ∙ ap (λ (mode : Mode). crc_passes mode read.index read.crc_right) c.mode_of.ensures.answer in
    let heard = c.hear.ensures in
    let left =
    frame_heard numbers cid csd password (won_by a.won) (selected_by a.selected) a.frame.now lent _ _ _ a.answer.now _ _ _ _ lending framing
    (sym judged ∙ c.if-not-crc_passes.false) heard.numbers.0 heard.numbers.1 heard.lent heard.sent heard.answer
    in
    record { answer = left.0; numbers = left.1.0; lent = left.1.1.0; sent = left.1.1.1 }

-- 1, 2
pub returns-in-Err-framing : goal.returns-in-Err-framing
unfolding frame_stepped
returns-in-Err-framing c =
    let a = c.args in
    let numbers = a.numbers.now in
    let cid = a.cid.now in
    let csd = a.csd.now in
    let password = a.password.now in
    let lent = lent_of a.memory.now a.map.now in
    let lending = lent_by numbers cid csd password lent _ _ _ c.groups_of.ensures.answer c.lent_check-lending.ensures.answer c.in-Ok.is in
    let framing = sym c.unframe-framing.ensures.answer ∙ c.in-Err-framing.is in
    let left =
    frame_unframed numbers cid csd password (won_by a.won) (selected_by a.selected) a.frame.now lent _ _ a.answer.now lending framing
    c.number-in-Err-framing.ensures.answer
    in
    record { answer = left.0; numbers = left.1.0; lent = left.1.1.0; sent = left.1.1.1 }
