-- `card::frames::heard` meets its contract: what `spi` gives is carried out, and an erase that spared a sector is told.
-- Assumes nothing.
use mathlib.Core.Path.{◌≡◌, sym, ap, ◌∙◌}
use Rattle.command.specs.declared.Change.{Change}
use Rattle.card_record.specs.declared.Link.{Link}
use Rattle.card_record.specs.declared.Mode.{Mode}
use Rattle.card_record.specs.declared.Sent.{Sent}
use Rattle.store.specs.Lent.{seen}
use Rattle.card_blocks.specs.Lending.{held}
use Rattle.card.specs.Frame.{sparing, skip_told, answered_by, command_heard}
use Rattle.card.specs.declared.Answered.{Answered}
use Rattle.card.proofs.frames.heard.Goals.{in-Nothing, in-Protect, in-Erase}
use Rattle.card.proofs.frames.heard.Goals as goal

abbrev answered : Mode → Link → Sent → Answered
answered mode link sent = record { mode = mode; link = link; sent = sent }

pub returns-clause-answer : goal.returns-clause-answer
unfolding command_heard
returns-clause-answer c =
    let a = c.args in
    let given = c.hear-given.result in
    let before = seen (held a.lent.now) in
    let by = λ (change : Change). skip_told given.link (sparing a.link.tags a.whole before change) in
    let told : c.match-given.told ≡ by given.change =
    elim c.match-given.branch [
      | in-Nothing w ↦ w.told-is ∙ sym (ap by w.in-Nothing.is)
      | in-Protect w ↦ w.told-is ∙ sym (ap by w.in-Protect.is)
      | in-Erase w ↦ w.told-is ∙ w.tell_spared-told.ensures ∙ ap (skip_told given.link) w.erase.ensures.answer ∙ sym (ap by w.in-Erase.is)
    ] in
    ap (λ (link : Link). answered given.mode link given.sent) told ∙ ap (answered_by a.link a.whole before) c.hear-given.ensures.answer
