-- `card_blocks::blocks_out::block_out` meets its contract: 12, and then the block.
-- Assumes nothing.
use mathlib.Core.Path.{◌≡◌, sym, ap, ◌∙◌}
use Prim.Native.Nat.{ℕ}
use lib.ListN.{length}
use Rattle.card_record.specs.declared.Card.{Card}
use Rattle.store.specs.Lent.{Lent, lent_of, seen, lending_of, once_lent}
use Rattle.card_blocks.specs.BlockOut.{unsent, state_sends, out_judged, sent_out}
use Rattle.card_blocks.specs.declared.OutJudged.{OutJudged}
use Rattle.card_blocks.proofs.blocks_out.block_out.Goals as goal
use Rattle.std.specs.Prelude.{Result}
use Rattle.base.specs.declared.Refusal.{Refusal}

judged : (card : Card) (lent : Lent) (room : ℕ) {lending : Result Unit Refusal} → lending_of (seen lent) card.registers.groups ≡ lending
    → once_lent lending (unsent card) (state_sends card card.link.state room) ≡ out_judged card (seen lent) room
unfolding out_judged
judged card lent room e = sym (ap (λ (x : Result Unit Refusal). once_lent x (unsent card) (state_sends card card.link.state room)) e)

pub returns-in-Ok-clause-answer : goal.returns-in-Ok-clause-answer
returns-in-Ok-clause-answer c = let a = c.args in
    let lent = lent_of a.memory.now a.map.now in
    let j = judged a.card lent (length a.out.now) (sym c.lent_check.ensures.answer ∙ c.in-Ok.is) in c.given_out.ensures.answer ∙ ap (λ (x : OutJudged). x.stepped) j

pub returns-in-Ok-clause-output : goal.returns-in-Ok-clause-output
returns-in-Ok-clause-output c = let a = c.args in
    let lent = lent_of a.memory.now a.map.now in
    let j = judged a.card lent (length a.out.now) (sym c.lent_check.ensures.answer ∙ c.in-Ok.is) in c.given_out.ensures.output ∙ ap (λ (x : OutJudged). sent_out a.card lent x.sending a.out.now) j

pub returns-in-Err-clause-answer : goal.returns-in-Err-clause-answer
unfolding sent_out
returns-in-Err-clause-answer c = let a = c.args in
    let lent = lent_of a.memory.now a.map.now in
    let j = judged a.card lent (length a.out.now) (sym c.lent_check.ensures.answer ∙ c.in-Err.is) in c.refuse.ensures.answer ∙ ap (λ (x : OutJudged). x.stepped) j

pub returns-in-Err-clause-output : goal.returns-in-Err-clause-output
unfolding sent_out
returns-in-Err-clause-output c = let a = c.args in
    let lent = lent_of a.memory.now a.map.now in
    let j = judged a.card lent (length a.out.now) (sym c.lent_check.ensures.answer ∙ c.in-Err.is) in ap (λ (x : OutJudged). sent_out a.card lent x.sending a.out.now) j
