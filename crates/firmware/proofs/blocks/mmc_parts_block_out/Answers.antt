-- `firmware::blocks::mmc_parts_block_out` meets its contract: 12 leaves the record, and else the card's call, between a record taken in and told.
-- Assumes nothing.
use mathlib.Core.Path.{◌≡◌, sym, ap, ◌∙◌}
use mathlib.Core.List.{List}
use Prim.Native.Nat.{ℕ}
use lib.ListN.{length}
use Rattle.card_blocks.specs.BlockOut.{state_sends, sent_out, out_judged}
use Rattle.card_blocks.specs.declared.OutJudged.{OutJudged}
use Rattle.card_blocks.specs.declared.Stepped.{Stepped}
use Rattle.card_record.specs.declared.Card.{Card}
use Rattle.crossing.specs.Record.{card_of}
use Rattle.store.specs.Lent.{Lent, lent_of, seen, lending_of}
use Rattle.firmware.proofs.Left.{lent_by}
use Rattle.firmware.proofs.LeftBlocks.{out_judged_lem, out_unlent, out_left, out_told}
use Rattle.firmware.proofs.blocks.mmc_parts_block_out.Goals as goal
use Rattle.std.specs.Prelude.{Ok}

-- what the card's call answers and writes at the card that was taken in, where what is lent is right
module _ (numbers cid csd password out : List ℕ) (lent : Lent) (card : Card) where
  stepped_as : (stepped : Stepped) → lending_of (seen lent) (card_of numbers cid csd password).registers.groups ≡ Ok tt
      → card ≡ card_of numbers cid csd password → stepped ≡ (state_sends card card.link.state (length out)).stepped
      → stepped ≡ (out_judged (card_of numbers cid csd password) (seen lent) (length out)).stepped
  stepped_as stepped lending taken e =
      e
      ∙ ap (λ (of : Card). (state_sends of of.link.state (length out)).stepped) taken
      ∙ ap (λ (j : OutJudged). j.stepped) (out_judged_lem numbers cid csd password lent out (Ok tt) lending)

  sent_as : (written : List ℕ) → lending_of (seen lent) (card_of numbers cid csd password).registers.groups ≡ Ok tt
      → card ≡ card_of numbers cid csd password → written ≡ sent_out card lent (state_sends card card.link.state (length out)).sending out
      → written
      ≡ sent_out (card_of numbers cid csd password) lent (out_judged (card_of numbers cid csd password) (seen lent) (length out)).sending out
  sent_as written lending taken e =
      e
      ∙ ap (λ (of : Card). sent_out of lent (state_sends of of.link.state (length out)).sending out) taken
      ∙ ap (λ (j : OutJudged). sent_out (card_of numbers cid csd password) lent j.sending out)
      (out_judged_lem numbers cid csd password lent out (Ok tt) lending)

-- 12
pub returns-in-Err : goal.returns-in-Err
returns-in-Err c =
    let a = c.args in
    let numbers = a.numbers.now in
    let cid = a.cid.now in
    let csd = a.csd.now in
    let password = a.password.now in
    let lent = lent_of a.memory.now a.map.now in
    let lending = lent_by numbers cid csd password lent _ _ _ c.groups_of.ensures.answer c.lent_check-lending.ensures.answer c.in-Err.is in
    let left = out_unlent numbers cid csd password lent a.out.now _ _ lending c.number.ensures.answer in
    record { answer = left.0; numbers = left.1.0; output = left.1.1.0; written = left.1.1.1 }

-- 15, 6
pub returns-then-leaves_record : goal.returns-then-leaves_record
returns-then-leaves_record c =
    let a = c.args in
    let numbers = a.numbers.now in
    let cid = a.cid.now in
    let csd = a.csd.now in
    let password = a.password.now in
    let out = a.out.now in
    let lent = lent_of a.memory.now a.map.now in
    let lending = lent_by numbers cid csd password lent _ _ _ c.groups_of.ensures.answer c.lent_check-lending.ensures.answer c.in-Ok.is in
    let taken = c.card_of-card.ensures.answer in
    let does = c.given_out-stepped.ensures in
    let stepped = stepped_as numbers cid csd password out lent _ _ lending taken does.answer in
    let sent = sent_as numbers cid csd password out lent _ _ lending taken does.output in
    let left =
    out_left numbers cid csd password lent out _ _ _ _ stepped c.number_told-number.ensures.answer
    (sym c.leaves_record.ensures.answer ∙ c.if-leaves_record.true) sent c.wrote.ensures.answer
    in
    record { answer = left.0; numbers = left.1.0; output = left.1.1.0; written = left.1.1.1 }

pub returns : goal.returns
returns c =
    let a = c.args in
    let numbers = a.numbers.now in
    let cid = a.cid.now in
    let csd = a.csd.now in
    let password = a.password.now in
    let out = a.out.now in
    let lent = lent_of a.memory.now a.map.now in
    let lending = lent_by numbers cid csd password lent _ _ _ c.groups_of.ensures.answer c.lent_check-lending.ensures.answer c.in-Ok.is in
    let taken = c.card_of-card.ensures.answer in
    let does = c.given_out-stepped.ensures in
    let stepped = stepped_as numbers cid csd password out lent _ _ lending taken does.answer in
    let sent = sent_as numbers cid csd password out lent _ _ lending taken does.output in
    let told = c.tell_link.ensures in
    let left =
    out_told numbers cid csd password lent out _ _ _ _ _ stepped c.number_told-number.ensures.answer
    (sym c.leaves_record.ensures.answer ∙ c.if-leaves_record.false) told.numbers told.crossing sent c.wrote.ensures.answer
    in
    record { answer = left.0; numbers = left.1.0; output = left.1.1.0; written = left.1.1.1 }
