-- `card_blocks::blocks_in::lock_judged` meets its contract: the lock's answer decides.
-- Assumes nothing.
use mathlib.Core.Path.{◌≡◌, sym, ap, ◌∙◌}
use mathlib.Core.Bool.{Bool}
use mathlib.Core.List.{List}
use Prim.Native.Nat.{ℕ}
use Rattle.lock.specs.Requests.{request_of}
use Rattle.lock.specs.declared.Answer.{Answer}
use Rattle.lock.specs.declared.Requested.{Requested}
use Rattle.card_record.specs.Record.{csd_protects}
use Rattle.card_record.specs.declared.Card.{Card}
use Rattle.card_blocks.specs.BlockIn.{lock_judged, request_judged}
use Rattle.card_blocks.proofs.blocks_in.lock_judged.Goals as goal

-- what follows from an answer that is known
answered : (card : Card) (payload : List ℕ) (given : Requested) {whole : Bool} {answer : Answer} → given ≡ request_of card.lock payload whole
    → whole ≡ csd_protects card.registers.csd → given.answer ≡ answer → lock_judged card given.lock answer ≡ request_judged card payload
unfolding request_judged
answered card payload given e w a =
    ap (lock_judged card given.lock) (sym a)
    ∙ ap (λ (x : Requested). lock_judged card x.lock x.answer) (e ∙ ap (request_of card.lock payload) w)

pub returns-in-Granted : goal.returns-in-Granted
returns-in-Granted c = let a = c.args in
    c.block_good.ensures
    ∙ answered a.card a.payload.now c.request-requested.result c.request-requested.ensures.answer c.csd_protects-whole.ensures.answer c.in-Granted.is

pub returns-in-Erased : goal.returns-in-Erased
returns-in-Erased c = let a = c.args in
    c.block_good-in-Erased.ensures
    ∙ answered a.card a.payload.now c.request-requested.result c.request-requested.ensures.answer c.csd_protects-whole.ensures.answer c.in-Erased.is

pub returns-in-Failed : goal.returns-in-Failed
returns-in-Failed c = let a = c.args in
    c.block_refused.ensures
    ∙ answered a.card a.payload.now c.request-requested.result c.request-requested.ensures.answer c.csd_protects-whole.ensures.answer c.in-Failed.is
