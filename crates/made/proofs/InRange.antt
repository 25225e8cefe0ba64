-- A made card that awaits one block awaits it inside its memory.
--   one_block_in_range    a block in never answers number 18 there
-- Assumes nothing.
use mathlib.Core.Path.{◌≡◌, ap, ◌∙◌, subst}
use mathlib.Core.List.{List, [], ◌∷◌}
use Prim.Native.Nat.{ℕ, ◌<◌}
use native.Mathlib.Omega.{arith}
use Rattle.base.proofs.Cases.{clash}
use Rattle.base.specs.Refusals.{number_of, refusal_of}
use Rattle.base.specs.declared.Refusal.{Refusal}
use Rattle.card_blocks.proofs.Outcomes.{one, only, sectors, Refuses, wrong_length_lem, wrong_crc, past_end, protected, failed, InOutcome, unreads, refuses, stores, grants, forces, block_outcome}
use Rattle.card_blocks.specs.BlockIn.{sector_at, block_refused, block_good}
use Rattle.card.specs.Step.{step_of}
use Rattle.card_blocks.specs.declared.BlockJudged.{BlockJudged}
use Rattle.card.specs.declared.Call.TheVariants.{BlockIn}
use Rattle.moves.proofs.Among.{each}
use Rattle.card_record.specs.declared.Card.{Card}
use Rattle.states.specs.declared.Incoming.{Incoming}
use Rattle.states.specs.declared.Incoming.TheVariants.{One}
use Rattle.states.specs.declared.State.TheVariants.{Rcv}
use Rattle.store.specs.Lent.{Seen}
use Rattle.made.specs.Made.{Awaits, Waits, Made}
use Rattle.std.specs.Prelude.{Option, Err}
use Rattle.status.specs.declared.ErrorBit.{ErrorBit}

module _ (card : Card) (made : Made card) (at : ℕ) (awaits : card.link.state ≡ Rcv (One at)) where
  inside : sector_at at < sectors card
  inside =
      let one : Awaits card.registers.groups card.link.length card.lock.locked (One at)
      = subst (Waits card.registers.groups card.link.length card.lock.locked) awaits made.link.work in
      omega arith

  -- of the refusals of an awaited block only 18 has that number, and it says that the block lies outside
  refusal_other : (incoming : Incoming) {refusal : Refusal} {fault : Option ErrorBit} → card.link.state ≡ Rcv incoming → Refuses card incoming refusal fault
      → number_of refusal ≡ 18 → ⊥
  refusal_other incoming on wrong_length_lem e = omega arith
  refusal_other incoming on wrong_crc e = omega arith
  refusal_other incoming on (past_end other w outside) e =
      let awaited : incoming ≡ One at = cc in let same : other ≡ at = only w (one at) awaited in omega (arith, inside)
  refusal_other incoming on protected e = omega arith
  refusal_other incoming on failed e = omega arith

  abbrev refused_by : Refusal → BlockJudged → Type 0
  refused_by refusal judged = judged.stepped.reply.outcome ≡ Err refusal

  module _ (block : List ℕ) (seen : Seen) (refusal : Refusal) where
    not_18 : {judged : BlockJudged} → InOutcome card block seen judged → refused_by refusal judged → number_of refusal ≡ 18 → ⊥
    unfolding block_refused block_good
    not_18 (unreads n listed) e is =
        each (λ (k : ℕ). refusal_of k ≡ refusal → ⊥) (12 ∷ 15 ∷ []) (λ z. omega (arith, ap number_of z), (λ z. omega (arith, ap number_of z), tt)) n listed (cc)
    not_18 (refuses incoming other fault on why) e is = let z : other ≡ refusal = cc in refusal_other incoming on why (ap number_of z ∙ is)
    not_18 (stores incoming other w on right) e is = clash cc
    not_18 (grants on granted) e is = clash cc
    not_18 (forces on erased) e is = clash cc

  pub one_block_in_range : (block : List ℕ) (seen : Seen) (room : ℕ) (refusal : Refusal)
      → (step_of card BlockIn block seen room).reply.outcome ≡ Err refusal → number_of refusal ≡ 18 → ⊥
  one_block_in_range block seen room refusal = not_18 block seen refusal (block_outcome card block seen)
