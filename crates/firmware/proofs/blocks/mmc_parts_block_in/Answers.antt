-- `firmware::blocks::mmc_parts_block_in` meets its contract: 12 leaves the record, and else the card's call, between a record taken in and told.
-- Assumes nothing.
use mathlib.Core.Path.{◌≡◌, sym, ap, ap₂, ◌∙◌}
use mathlib.Core.List.{List}
use Prim.Native.Nat.{ℕ}
use native.Mathlib.Omega.{arith}
use Rattle.card_blocks.specs.BlockIn.{state_judged, stored_by, block_judged}
use Rattle.card_blocks.specs.Framing.{unstarted}
use Rattle.card_blocks.specs.declared.BlockJudged.{BlockJudged}
use Rattle.card_blocks.specs.declared.Stepped.{Stepped}
use Rattle.card_record.specs.declared.Card.{Card}
use Rattle.crossing.specs.Record.{card_of}
use Rattle.store.specs.Lent.{Lent, lent_of, seen, lending_of}
use Rattle.firmware.proofs.Left.{lent_by}
use Rattle.firmware.proofs.LeftBlocks.{in_judged, in_unlent, in_left, in_told}
use Rattle.firmware.proofs.blocks.mmc_parts_block_in.Goals as goal
use Rattle.std.specs.Prelude.{Ok}

-- what the card's call answers and leaves at the card that was taken in, where what is lent is right
module _ (numbers cid csd password block response : List ℕ) (lent : Lent) (card : Card) where
  stepped_as : (stepped : Stepped) → lending_of (seen lent) (card_of numbers cid csd password).registers.groups ≡ Ok tt
      → card ≡ card_of numbers cid csd password → stepped ≡ (state_judged card card.link.state block lent.map).stepped
      → stepped ≡ (block_judged (card_of numbers cid csd password) block (seen lent)).stepped
  stepped_as stepped lending taken e =
      e
      ∙ ap (λ (of : Card). (state_judged of of.link.state block lent.map).stepped) taken
      ∙ ap (λ (j : BlockJudged). j.stepped) (in_judged numbers cid csd password block lent response (Ok tt) lending)

  stored_as : (now : Lent) → lending_of (seen lent) (card_of numbers cid csd password).registers.groups ≡ Ok tt
      → card ≡ card_of numbers cid csd password
      → now ≡ stored_by (unstarted card.mode.spi block) (state_judged card card.link.state block lent.map).storing lent
      → now
      ≡ stored_by (unstarted (card_of numbers cid csd password).mode.spi block)
      (block_judged (card_of numbers cid csd password) block (seen lent)).storing lent
  stored_as now lending taken e =
      e
      ∙ ap (λ (of : Card). stored_by (unstarted of.mode.spi block) (state_judged of of.link.state block lent.map).storing lent) taken
      ∙ ap (λ (j : BlockJudged). stored_by (unstarted (card_of numbers cid csd password).mode.spi block) j.storing lent)
      (in_judged numbers cid csd password block lent response (Ok tt) lending)

-- 12
pub returns-in-Err : goal.returns-in-Err
returns-in-Err c =
    let a = c.args in
    let numbers = a.numbers.now in
    let cid = a.cid.now in
    let csd = a.csd.now in
    let password = a.password.now in
    let lent = lent_of a.memory.now a.map.now in
    let lending = lent_by numbers cid csd password lent _ _ _ c.groups_of.ensures.answer c.lent_check-lending.ensures.answer c.in-Err.is in
    let left = in_unlent numbers cid csd password a.block.now lent a.response.now _ _ lending c.number.ensures.answer in
    record { answer = left.0; numbers = left.1.0; password = left.1.1.0; lent = left.1.1.1.0; sent = left.1.1.1.1 }

pub send_byte-requires : goal.send_byte-requires
send_byte-requires c = omega arith

-- 15
pub returns-then-leaves_record : goal.returns-then-leaves_record
returns-then-leaves_record c =
    let a = c.args in
    let numbers = a.numbers.now in
    let cid = a.cid.now in
    let csd = a.csd.now in
    let password = a.password.now in
    let block = a.block.now in
    let response = a.response.now in
    let lent = lent_of a.memory.now a.map.now in
    let lending = lent_by numbers cid csd password lent _ _ _ c.groups_of.ensures.answer c.lent_check-lending.ensures.answer c.in-Ok.is in
    let taken = c.card_of-card.ensures.answer in
    let does = c.taken_in-stepped.ensures in
    let stepped = stepped_as numbers cid csd password block response lent _ _ lending taken does.answer in
    let stored = stored_as numbers cid csd password block response lent _ _ lending taken (ap₂ lent_of (c.memory-1.given.1.1 (sym does.lent.memory)) (c.map-1.given.1.1 (sym does.lent.map)) ∙ does.lent.holds) in
    let sends = c.send_byte.ensures in
    let left =
    in_left numbers cid csd password block lent response _ stepped _ _ sends.output sends.answer _ _ c.number_told-number.ensures.answer
    (sym c.leaves_record.ensures.answer ∙ c.if-leaves_record.true) stored
    in
    record { answer = left.0; numbers = left.1.0; password = left.1.1.0; lent = left.1.1.1.0; sent = left.1.1.1.1 }

pub returns : goal.returns
returns c =
    let a = c.args in
    let numbers = a.numbers.now in
    let cid = a.cid.now in
    let csd = a.csd.now in
    let password = a.password.now in
    let block = a.block.now in
    let response = a.response.now in
    let lent = lent_of a.memory.now a.map.now in
    let lending = lent_by numbers cid csd password lent _ _ _ c.groups_of.ensures.answer c.lent_check-lending.ensures.answer c.in-Ok.is in
    let taken = c.card_of-card.ensures.answer in
    let does = c.taken_in-stepped.ensures in
    let stepped = stepped_as numbers cid csd password block response lent _ _ lending taken does.answer in
    let stored = stored_as numbers cid csd password block response lent _ _ lending taken (ap₂ lent_of (c.memory-1.given.1.1 (sym does.lent.memory)) (c.map-1.given.1.1 (sym does.lent.map)) ∙ does.lent.holds) in
    let sends = c.send_byte.ensures in
    let told = c.tell_link_and_lock.ensures in
    let left =
    in_told numbers cid csd password block lent response _ stepped _ _ sends.output sends.answer _ _ _ c.number_told-number.ensures.answer
    (sym c.leaves_record.ensures.answer ∙ c.if-leaves_record.false) told.numbers told.crossing stored
    in
    record { answer = left.0; numbers = left.1.0; password = left.1.1.0; lent = left.1.1.1.0; sent = left.1.1.1.1 }
