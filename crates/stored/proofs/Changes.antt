-- Why memory and map change.
--   memory_changes    a byte that differs after a step: a granted write to its sector, CMD38 with its sector tagged and free, or a forced erase
--   map_changes       an entry that differs after a step: CMD28 or CMD29 at its group, or a forced erase
--   unfilled_byte     a byte that an erase does not fill is as it was
--   forces_all        a lock request that is answered by an erase of everything is a forced erase
-- Assumes nothing.
use mathlib.Core.Path.{◌≡◌, refl, ap, ◌∙◌}
use mathlib.Core.Bool.{Bool, true, false, not}
use mathlib.Core.List.{List}
use mathlib.Core.Logic.{inl, inr}
use Prim.Native.Nat.{ℕ, ◌/◌}
use borrow.Author.Tests.{ltb-true, ltb-false, eqb-true, eqb-false, not-true}
use lib.Dec.{eqb, ltb}
use lib.ListN.{length, get_or}
use lib.Seq.{get_or-set_other}
use Rattle.base.specs.Choice.{pick}
use Rattle.base.proofs.Cases.{cases, first, last}
use Rattle.card_blocks.proofs.Outcomes.{WritesAt, one, many, asked_of, InOutcome, unreads, refuses, stores, grants, forces, block_outcome}
use Rattle.card_blocks.specs.Framing.{unstarted}
use Rattle.card_blocks.specs.BlockIn.{block_refused, block_good, block_judged, stored_by}
use Rattle.card.specs.Frame.{frame_judged, changed_by}
use Rattle.card_blocks.specs.declared.BlockJudged.{BlockJudged}
use Rattle.card.specs.declared.Call.{Call}
use Rattle.card.specs.declared.Call.TheVariants.{Frame, BlockIn, BlockOut, WorkDone, PowerOn}
use Rattle.card_blocks.specs.declared.Storing.TheVariants.{All}
use Rattle.command.specs.declared.Change.{Change}
use Rattle.lock.specs.declared.Answer.TheVariants.{Erased}
use Rattle.card_record.specs.Record.{csd_protects}
use Rattle.card_record.specs.declared.Card.{Card}
use Rattle.states.specs.declared.Incoming.{Incoming}
use Rattle.states.specs.declared.Incoming.TheVariants.{LockRequest}
use Rattle.states.specs.declared.State.TheVariants.{Rcv}
use Rattle.store.specs.Erase.{sectors_in, filled, erased}
use Rattle.store.specs.Lent.{Lent, Seen, seen}
use Rattle.store.specs.Map.{protected_in, group_set}
use Rattle.store.proofs.Erased.{erased_byte, erased_past}
use Rattle.store.proofs.Sectors.{written_elsewhere}
use Rattle.tags.specs.Tags.{tagged_of}
use Rattle.tags.specs.declared.Tags.{Tags}
use Rattle.stored.specs.Changes.{AwaitsWrite, ByteChanges, EntryChanges, payload_at, ForcedErase, Cause, written, erased as by_tag, forced, MapCause, set}
use Rattle.stored.proofs.Requests.{asks_erase}
use Rattle.stored.proofs.Commands.{FrameChange, nothing, protects, frees, erases, frame_change}

-- a byte that an erase does not fill is as it was
pub unfilled_byte : (m : List ℕ) (t : Tags) (w : Bool) (memory : List ℕ) (p : ℕ) → filled m t w (p / 512) ≡ false
    → get_or (erased m t w memory) p 0 ≡ get_or memory p 0
unfilled_byte m t w memory p f =
    cases (ltb (p / 512) (sectors_in (length memory)))
    (λ h. erased_byte m t w memory p (ltb-true (p / 512) (sectors_in (length memory)) h) ∙ simp f)
    (λ h. erased_past m t w memory p (ltb-false (p / 512) (sectors_in (length memory)) h))

-- a write that the card awaits, by the state that awaits it
awaits : (card : Card) {incoming : Incoming} {at : ℕ} → WritesAt incoming at → card.link.state ≡ Rcv incoming → AwaitsWrite card at
awaits card (one at) e = inl e
awaits card (many at) e = inr e

-- a forced erase, from a lock request that is answered so
pub forces_all : (card : Card) (input : List ℕ) (seen : Seen) → card.link.state ≡ Rcv LockRequest
    → (asked_of card input).answer ≡ Erased → (block_judged card input seen).storing ≡ All → ForcedErase card BlockIn input seen
forces_all card input seen on asked granted =
    let byte = asks_erase card.lock (payload_at card input) (csd_protects card.registers.csd) asked in
    record { called = refl; awaited = on; forced = byte.0; granted = granted }

-- ---- memory
module _ (card : Card) (input : List ℕ) (lent : Lent) (p : ℕ) where
  abbrev Differs : Lent → Type 0
  Differs after = get_or after.memory p 0 ≡ get_or lent.memory p 0 → ⊥

  frame_byte : (wins selected : Bool) {change : Change} → FrameChange card wins selected input (seen lent) change
      → (frame_judged card wins selected input (seen lent)).change ≡ change
      → Differs (changed_by card change lent) → Cause card (Frame wins selected) input (seen lent) (p / 512)
  frame_byte wins selected nothing e d = absurd (d refl)
  frame_byte wins selected (protects argument c l) e d = absurd (d refl)
  frame_byte wins selected (frees argument c l) e d = absurd (d refl)
  frame_byte wins selected (erases argument c l) e d =
      let tags : Tags = card.link.tags in
      let whole : Bool = csd_protects card.registers.csd in
      cases (filled lent.map tags whole (p / 512))
      (λ f.
      let tagged : Bool = tagged_of tags (p / 512) in
      let guarded : Bool = protected_in lent.map whole (p / 512) in
      by_tag (record {
        wins = wins;
        selected = selected;
        called = refl;
        argument = argument;
        command = c;
        taken = e;
        tagged = first tagged (not guarded) f;
        unprotected = not-true guarded (last tagged (not guarded) f);
      }))
      (λ f. absurd (d (unfilled_byte lent.map tags whole lent.memory p f)))

  block_byte : {judged : BlockJudged} → InOutcome card input (seen lent) judged → block_judged card input (seen lent) ≡ judged
      → Differs (stored_by (unstarted card.mode.spi input) judged.storing lent) → Cause card BlockIn input (seen lent) (p / 512)
  unfolding block_refused block_good
  block_byte (unreads n listed) e d = absurd (d refl)
  block_byte (refuses incoming refusal fault s why) e d = absurd (d refl)
  block_byte (stores incoming at w s right) e d =
      cases (eqb (p / 512) (at / 512))
      (λ t.
      written at (record { called = refl; awaited = awaits card w s; granted = λ room. ap (λ (j : BlockJudged). j.stepped.reply.outcome) e })
      (eqb-true (p / 512) (at / 512) t))
      (λ t. absurd (d (written_elsewhere lent.memory (unstarted card.mode.spi input) (at / 512) p (eqb-false (p / 512) (at / 512) t))))
  block_byte (grants s a) e d = absurd (d refl)
  block_byte (forces s a) e d = forced (forces_all card input (seen lent) s a (ap (λ (j : BlockJudged). j.storing) e))

pub memory_changes : (card : Card) (call : Call) (input : List ℕ) (lent : Lent) (p : ℕ)
    → ByteChanges card call input lent p → Cause card call input (seen lent) (p / 512)
memory_changes card (Frame wins selected) input lent p d = frame_byte card input lent p wins selected (frame_change card wins selected input (seen lent)) refl d
memory_changes card BlockIn input lent p d = block_byte card input lent p (block_outcome card input (seen lent)) refl d
memory_changes card BlockOut input lent p d = absurd (d refl)
memory_changes card WorkDone input lent p d = absurd (d refl)
memory_changes card PowerOn input lent p d = absurd (d refl)

-- ---- the map
module _ (card : Card) (input : List ℕ) (lent : Lent) (group : ℕ) where
  abbrev MapDiffers : List ℕ → Type 0
  MapDiffers after = get_or after group 0 ≡ get_or lent.map group 0 → ⊥

  addressed : (at : ℕ) (on : Bool) → MapDiffers (group_set lent.map at on) → group ≡ at
  addressed at on d =
      cases (eqb group at) (λ t. eqb-true group at t)
      (λ t. absurd (d (get_or-set_other lent.map at group (pick on 1 0) 0 (eqb-false group at t))))

  frame_entry : (wins selected : Bool) {change : Change} → FrameChange card wins selected input (seen lent) change → (frame_judged card wins selected input (seen lent)).change ≡ change
      → MapDiffers (changed_by card change lent).map → MapCause card (Frame wins selected) input (seen lent) group
  frame_entry wins selected nothing e d = absurd (d refl)
  frame_entry wins selected (protects argument c l) e d =
      let g = addressed (argument / 8192) true d in
      set (record { wins = wins; selected = selected; called = refl; argument = argument; addressed = g; taken = inl (c, rw g e) })
  frame_entry wins selected (frees argument c l) e d =
      let g = addressed (argument / 8192) false d in
      set (record { wins = wins; selected = selected; called = refl; argument = argument; addressed = g; taken = inr (c, rw g e) })
  frame_entry wins selected (erases argument c l) e d = absurd (d refl)

  block_entry : {judged : BlockJudged} → InOutcome card input (seen lent) judged → block_judged card input (seen lent) ≡ judged
      → MapDiffers (stored_by (unstarted card.mode.spi input) judged.storing lent).map → MapCause card BlockIn input (seen lent) group
  unfolding block_refused block_good
  block_entry (unreads n listed) e d = absurd (d refl)
  block_entry (refuses incoming refusal fault s why) e d = absurd (d refl)
  block_entry (stores incoming at w s right) e d = absurd (d refl)
  block_entry (grants s a) e d = absurd (d refl)
  block_entry (forces s a) e d = forced (forces_all card input (seen lent) s a (ap (λ (j : BlockJudged). j.storing) e))

pub map_changes : (card : Card) (call : Call) (input : List ℕ) (lent : Lent) (group : ℕ)
    → EntryChanges card call input lent group → MapCause card call input (seen lent) group
map_changes card (Frame wins selected) input lent group d = frame_entry card input lent group wins selected (frame_change card wins selected input (seen lent)) refl d
map_changes card BlockIn input lent group d = block_entry card input lent group (block_outcome card input (seen lent)) refl d
map_changes card BlockOut input lent group d = absurd (d refl)
map_changes card WorkDone input lent group d = absurd (d refl)
map_changes card PowerOn input lent group d = absurd (d refl)
