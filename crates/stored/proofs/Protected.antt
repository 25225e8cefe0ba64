-- What protection means: "CSD bit 13 (permanent) or 12 (temporary) protects the whole card", and an entry of the map its group.
--   granted_free       the sector that a granted write goes to is not protected
--   forced_locked      a forced erase is granted only by a locked card that its CSD does not protect
--   protected_stays    a byte of a protected sector changes only by a granted forced erase
--   csd_forbids        while the CSD protects the card, no step changes its memory
-- Assumes nothing.
use mathlib.Core.Path.{◌≡◌}
use mathlib.Core.Bool.{Bool, true, false}
use mathlib.Core.List.{List}
use mathlib.Core.Logic.{inl, inr}
use Prim.Native.Nat.{ℕ, ◌/◌}
use borrow.Author.Tests.{eqb-true, eqb-false}
use lib.Dec.{eqb}
use lib.ListN.{get_or}
use lib.Seq.{ext_get_or}
use Rattle.base.proofs.Cases.{cases, clash, opposite}
use Rattle.card_blocks.proofs.Outcomes.{WritesAt, one, many, only, InOutcome, unreads, refuses, stores, grants, forces, block_outcome}
use Rattle.card_blocks.specs.BlockIn.{block_refused, block_good, block_judged}
use Rattle.card.specs.Step.{lent_after}
use Rattle.card_blocks.specs.declared.BlockJudged.{BlockJudged}
use Rattle.card.specs.declared.Call.{Call}
use Rattle.card_blocks.specs.declared.Storing.TheVariants.{All}
use Rattle.made.proofs.Run.{lent_lengths}
use Rattle.card_record.specs.Record.{csd_protects}
use Rattle.card_record.specs.declared.Card.{Card}
use Rattle.states.specs.declared.Incoming.{Incoming}
use Rattle.states.specs.declared.Incoming.TheVariants.{LockRequest}
use Rattle.states.specs.declared.State.TheVariants.{Rcv}
use Rattle.store.specs.Lent.{Lent, Seen, seen}
use Rattle.store.specs.Map.{protected_in}
use Rattle.stored.specs.Changes.{AwaitsWrite, ProtectedByte, ByteChanges, payload_at, ForcedErase, Cause, written, erased, forced}
use Rattle.stored.proofs.Changes.{memory_changes}
use Rattle.stored.proofs.Requests.{asks_erase}
use Rattle.std.specs.Prelude.{Ok, None}

-- ---- what is granted
module _ (card : Card) (at : ℕ) where
  -- the address that a write awaits is one
  place : {incoming : Incoming} {other : ℕ} → WritesAt incoming other → card.link.state ≡ Rcv incoming → AwaitsWrite card at → other ≡ at
  place w s (inl a) = only w (one at) (cc)
  place w s (inr a) = only w (many at) (cc)

  pub no_request : {P : Type 0} → card.link.state ≡ Rcv LockRequest → AwaitsWrite card at → P
  no_request s (inl a) = clash cc
  no_request s (inr a) = clash cc

module _ (card : Card) (block : List ℕ) (seen : Seen) where
  free : (at : ℕ) {judged : BlockJudged} → InOutcome card block seen judged → AwaitsWrite card at → judged.stepped.reply.outcome ≡ Ok None
      → protected_in seen.map (csd_protects card.registers.csd) (at / 512) ≡ false
  unfolding block_refused block_good
  free at (unreads n listed) a d = clash cc
  free at (refuses incoming refusal fault s why) a d = clash cc
  free at (stores incoming other w s right) a d = rw (place card at w s a) at right.free
  free at (grants s e) a d = no_request card at s a
  free at (forces s e) a d = no_request card at s a

  pub granted_free : (at : ℕ) → AwaitsWrite card at → (block_judged card block seen).stepped.reply.outcome ≡ Ok None
      → protected_in seen.map (csd_protects card.registers.csd) (at / 512) ≡ false
  granted_free at = free at (block_outcome card block seen)

  abbrev Locked : Type 0
  Locked = (csd_protects card.registers.csd ≡ false) × (card.lock.locked ≡ true)

  all_locked : {judged : BlockJudged} → InOutcome card block seen judged → judged.storing ≡ All → Locked
  unfolding block_refused block_good
  all_locked (unreads n listed) e = clash cc
  all_locked (refuses incoming refusal fault s why) e = clash cc
  all_locked (stores incoming at w s right) e = clash cc
  all_locked (grants s a) e = clash cc
  all_locked (forces s a) e =
      let asked = asks_erase card.lock (payload_at card block) (csd_protects card.registers.csd) a in (asked.1.1, asked.1.0)

  pub forced_locked : (call : Call) → ForcedErase card call block seen → (csd_protects card.registers.csd ≡ false) × (card.lock.locked ≡ true)
  forced_locked call f = all_locked (block_outcome card block seen) f.granted

-- ---- what stays
module _ (card : Card) (call : Call) (input : List ℕ) (lent : Lent) where
  abbrev guarded : ℕ → Bool
  guarded sector = protected_in lent.map (csd_protects card.registers.csd) sector

  by_cause : (sector : ℕ) → guarded sector ≡ true → Cause card call input (seen lent) sector → ForcedErase card call input (seen lent)
  by_cause sector g (written at w e) =
      let done : (block_judged card input (seen lent)).stepped.reply.outcome ≡ Ok None = rw w.called at (w.granted 0) in
      opposite (guarded (at / 512)) (rw e at g) (granted_free card input (seen lent) at w.awaited done)
  by_cause sector g (erased t) = opposite (guarded sector) g t.unprotected
  by_cause sector g (forced f) = f

  pub protected_stays : (p : ℕ) → ProtectedByte card lent p → ByteChanges card call input lent p → ForcedErase card call input (seen lent)
  protected_stays p g d = by_cause (p / 512) g (memory_changes card call input lent p d)

pub csd_forbids : (card : Card) (call : Call) (input : List ℕ) (lent : Lent) → csd_protects card.registers.csd ≡ true
    → (lent_after card call input lent).memory ≡ lent.memory
csd_forbids card call input lent whole =
    let after : List ℕ = (lent_after card call input lent).memory in
    ext_get_or 0 after lent.memory (lent_lengths card call input lent).memory
    (λ p h.
    cases (eqb (get_or after p 0) (get_or lent.memory p 0))
    (λ t. eqb-true (get_or after p 0) (get_or lent.memory p 0) t)
    (λ t.
    let f = protected_stays card call input lent p (simp whole) (eqb-false (get_or after p 0) (get_or lent.memory p 0) t) in
    opposite (csd_protects card.registers.csd) whole (forced_locked card input (seen lent) call f).0))
