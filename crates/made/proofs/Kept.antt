-- What calls keep of a record, whatever the record is.
--   registers_kept    no call changes the registers
--   lock_kept         no call changes password and lock flag but a block in and power-on
-- Assumes nothing.
use mathlib.Core.Path.{◌≡◌, refl}
use mathlib.Core.Bool.{Bool}
use mathlib.Core.List.{List}
use Prim.Native.Nat.{ℕ}
use Rattle.card_blocks.proofs.Outcomes.{InOutcome, unreads, refuses, stores, grants, forces, OutOutcome, unsends, past, across, sends, block_outcome, out_outcome}
use Rattle.card.proofs.Outcomes.{FrameOutcome, unheard, damaged, commands, frame_outcome, told}
use Rattle.card_blocks.specs.BlockIn.{block_refused, block_good}
use Rattle.card_blocks.specs.BlockOut.{out_refused, out_good}
use Rattle.card.specs.Frame.{FrameJudged, frame_judged, spares, frame_stepped}
use Rattle.card.specs.Step.{step_of}
use Rattle.card_blocks.specs.declared.BlockJudged.{BlockJudged}
use Rattle.card.specs.declared.Call.{Call}
use Rattle.card.specs.declared.Call.TheVariants.{Frame, BlockIn, BlockOut, WorkDone, PowerOn}
use Rattle.card_blocks.specs.declared.OutJudged.{OutJudged}
use Rattle.card_blocks.specs.declared.Stepped.{Stepped}
use Rattle.card_record.specs.Power.{powered_on, worked}
use Rattle.card_record.specs.declared.Card.{Card}
use Rattle.store.specs.Lent.{Seen}

module _ (card : Card) where
  -- registers and lock as they were
  abbrev Same : Card → Type 0
  Same next = (next.registers ≡ card.registers) × (next.lock ≡ card.lock)

  in_registers : (block : List ℕ) (seen : Seen) {judged : BlockJudged} → InOutcome card block seen judged
      → judged.stepped.card.registers ≡ card.registers
  unfolding block_refused block_good
  in_registers block seen (unreads n listed) = refl
  in_registers block seen (refuses incoming refusal fault on why) = refl
  in_registers block seen (stores incoming at w on right) = refl
  in_registers block seen (grants on granted) = refl
  in_registers block seen (forces on erased) = refl

  out_same : {judged : OutJudged} → OutOutcome card judged → Same judged.stepped.card
  unfolding out_refused out_good
  out_same (unsends n listed) = (refl, refl)
  out_same (past outgoing on) = (refl, refl)
  out_same (across outgoing on) = (refl, refl)
  out_same (sends outgoing next n sending on within) = (refl, refl)

  judged_same : (wins selected : Bool) (frame : List ℕ) (seen : Seen) {judged : FrameJudged} → FrameOutcome card wins selected frame seen judged
      → Same judged.stepped.card
  judged_same wins selected frame seen (unheard n listed) = (refl, refl)
  judged_same wins selected frame seen (damaged index argument is fails) = (refl, refl)
  judged_same wins selected frame seen (commands index argument right is passes lent) = (refl, refl)

  frame_same : (wins selected : Bool) (frame : List ℕ) (seen : Seen) → Same (frame_stepped card wins selected frame seen).card
  unfolding frame_stepped
  frame_same wins selected frame seen =
      let same = judged_same wins selected frame seen (frame_outcome card wins selected frame seen) in
      told (λ (s : Stepped). Same s.card) (frame_judged card wins selected frame seen).stepped
      (spares card seen (frame_judged card wins selected frame seen).change) same same

  pub registers_kept : (call : Call) (input : List ℕ) (seen : Seen) (room : ℕ) → (step_of card call input seen room).card.registers ≡ card.registers
  unfolding worked powered_on
  registers_kept (Frame wins selected) input seen room = (frame_same wins selected input seen).0
  registers_kept BlockIn input seen room = in_registers input seen (block_outcome card input seen)
  registers_kept BlockOut input seen room = (out_same (out_outcome card seen room)).0
  registers_kept WorkDone input seen room = refl
  registers_kept PowerOn input seen room = refl

  -- a call that is neither a block in nor power-on
  abbrev pub KeepsLock : Call → Type 0
  KeepsLock (Frame wins selected) = Unit {0}
  KeepsLock BlockIn = ⊥
  KeepsLock BlockOut = Unit {0}
  KeepsLock WorkDone = Unit {0}
  KeepsLock PowerOn = ⊥

  pub lock_kept : (call : Call) → KeepsLock call → (input : List ℕ) (seen : Seen) (room : ℕ)
      → (step_of card call input seen room).card.lock ≡ card.lock
  unfolding worked
  lock_kept (Frame wins selected) other input seen room = (frame_same wins selected input seen).1
  lock_kept BlockIn other input seen room = absurd other
  lock_kept BlockOut other input seen room = (out_same (out_outcome card seen room)).1
  lock_kept WorkDone other input seen room = refl
  lock_kept PowerOn other input seen room = absurd other
