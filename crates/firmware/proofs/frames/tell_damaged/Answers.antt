-- `firmware::frames::tell_damaged` meets its contract: the link and the mode taken in and damaged, the error bits told, and one byte sent.
-- Assumes nothing.
use mathlib.Core.Path.{sym, ap, ap₂, ◌∙◌}
use mathlib.Core.List.{List}
use Prim.Native.Nat.{ℕ}
use native.Mathlib.Omega.{arith}
use lib.ListN.{length, set}
use Rattle.card_record.specs.Record.{with_errors}
use Rattle.card_record.specs.declared.Link.{Link}
use Rattle.card_record.specs.declared.Mode.{Mode}
use Rattle.crossing.specs.Record.{link_of, mode_of}
use Rattle.spi.proofs.Laws.{damage_errors}
use Rattle.spi.specs.Hearing.{damaged_of}
use Rattle.spi.specs.declared.Heard.{Heard}
use Rattle.firmware.specs.Answers.{byte_sent, fronted}
use Rattle.firmware.proofs.frames.tell_damaged.Goals as goal

pub send_byte-requires : goal.send_byte-requires
send_byte-requires c = omega arith

pub returns : goal.returns
returns c =
    let a = c.args in
    let numbers = a.numbers.now in
    let heard =
    c.damaged-damaged.ensures.answer
    ∙ ap₂ (λ (mode : Mode) (link : Link). damaged_of mode a.selected link) c.mode_of-mode.ensures.answer c.link_of-link.ensures.answer
    in
    let sent = ap (λ (h : Heard). byte_sent h.sent) heard in
    let told = c.tell_errors.ensures in
    record {
      answer = c.send_byte.ensures.answer ∙ ap length sent;
      numbers = (
        told.numbers ∙ ap (λ (h : Heard). set numbers 4 h.link.errors.bits) heard,
        told.crossing ∙ ap (λ (h : Heard). with_errors (link_of numbers) h.link.errors) heard
            ∙ sym (damage_errors (mode_of numbers) a.selected (link_of numbers)),
      );
      sent = c.send_byte.ensures.output ∙ ap (λ (l : List ℕ). fronted l a.answer.now) sent;
    }
