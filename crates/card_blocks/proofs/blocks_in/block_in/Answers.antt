-- `card_blocks::blocks_in::block_in` meets its contract: 12, and then the block.
-- Assumes nothing.
use mathlib.Core.Path.{◌≡◌, refl, sym, ap, ◌∙◌}
use mathlib.Core.List.{List}
use Prim.Native.Nat.{ℕ}
use Rattle.card_record.specs.declared.Card.{Card}
use Rattle.store.specs.Lent.{Lent, seen, lending_of, once_lent}
use Rattle.card_blocks.specs.Lending.{held}
use Rattle.card_blocks.specs.BlockIn.{unread, state_judged, block_judged, stored_by}
use Rattle.card_blocks.specs.Framing.{unstarted}
use Rattle.card_blocks.specs.declared.BlockJudged.{BlockJudged}
use Rattle.card_blocks.proofs.blocks_in.block_in.Goals as goal
use Rattle.std.specs.Prelude.{Result}
use Rattle.base.specs.declared.Refusal.{Refusal}

judged : (card : Card) (block : List ℕ) (lent : Lent) {lending : Result Unit Refusal} → lending_of (seen lent) card.registers.groups ≡ lending
    → once_lent lending (unread card) (state_judged card card.link.state block lent.map) ≡ block_judged card block (seen lent)
unfolding block_judged
judged card block lent e = sym (ap (λ (x : Result Unit Refusal). once_lent x (unread card) (state_judged card card.link.state block lent.map)) e)

pub returns-in-Ok-clause-answer : goal.returns-in-Ok-clause-answer
returns-in-Ok-clause-answer c = let a = c.args in
    let lent = held a.lent.now in
    let j = judged a.card a.block.now lent (sym c.check.ensures ∙ c.in-Ok.is) in c.taken_in.ensures.answer ∙ ap (λ (x : BlockJudged). x.stepped) j

pub returns-in-Ok-clause-lent : goal.returns-in-Ok-clause-lent
returns-in-Ok-clause-lent c = let a = c.args in
    let lent = held a.lent.now in
    let j = judged a.card a.block.now lent (sym c.check.ensures ∙ c.in-Ok.is) in let d = c.taken_in.ensures.lent in
    record { memory = d.memory; map = d.map; holds = d.holds ∙ ap (λ (x : BlockJudged). stored_by (unstarted a.card.mode.spi a.block.now) x.storing lent) j }

pub returns-in-Err-clause-answer : goal.returns-in-Err-clause-answer
returns-in-Err-clause-answer c = let a = c.args in
    let lent = held a.lent.now in
    let j = judged a.card a.block.now lent (sym c.check.ensures ∙ c.in-Err.is) in c.refuse.ensures.answer ∙ ap (λ (x : BlockJudged). x.stepped) j

pub returns-in-Err-clause-lent : goal.returns-in-Err-clause-lent
returns-in-Err-clause-lent c = let a = c.args in
    let lent = held a.lent.now in
    let j = judged a.card a.block.now lent (sym c.check.ensures ∙ c.in-Err.is) in
    record { memory = refl; map = refl; holds = ap (λ (x : BlockJudged). stored_by (unstarted a.card.mode.spi a.block.now) x.storing lent) j }
