-- `firmware::frames::hear` meets its contract: the card's call, between a link and a mode taken in and told, and its answer written.
-- Assumes nothing.
use mathlib.Core.Path.{sym, ap, ◌∙◌}
use mathlib.Core.List.{List}
use Prim.Native.Nat.{ℕ}
use Rattle.crossing.specs.Record.{registers_of}
use Rattle.firmware.proofs.Sends.{heard_sendable}
use Rattle.firmware.proofs.Told.{registers_kept}
use Rattle.firmware.proofs.frames.hear.Goals as goal

pub send-requires : goal.send-requires
send-requires c = rw c.heard-heard.ensures.answer (heard_sendable _ _ _ _ _ _ _ _ c.requires)

pub returns : goal.returns
returns c =
    let mode = c.mode_of-mode.ensures.answer in
    let link = c.link_of-link.ensures.answer in
    let met = c.met_of-met.ensures in
    let whole = c.csd_protects-whole.ensures.answer in
    let heard = c.heard-heard.ensures in
    let told = c.tell_link.ensures in
    let cid = c.args.cid.now in
    let csd = c.args.csd.now in
    let registers =
    c.registers_of-registers.ensures.answer ∙ ap (λ (l : List ℕ). registers_of l cid csd) told.numbers
    ∙ registers_kept _ _ c.args.numbers.now cid csd
    in
    record {
      answer = simp (c.send.ensures.answer, registers, heard.answer, mode, link, met, whole);
      numbers = (
        simp (told.numbers, heard.answer, mode, link, met, whole),
        (simp (told.crossing.0, heard.answer, mode, link, met, whole), simp (told.crossing.1, heard.answer, mode, link, met, whole)),
      );
      lent = simp (c.memory-1.given.1.1 (sym heard.lent.memory), c.map-1.given.1.1 (sym heard.lent.map), heard.lent.holds, mode, link, met, whole);
      sent = simp (c.send.ensures.output, registers, heard.answer, mode, link, met, whole);
    }
