-- What was stored is read back.
--   read_back         a block that CMD24 stored: work done, CMD16 of 512, CMD17 at its address and a block out give the same 512 bytes, in MMC
--                     mode and in SPI
--   read_back_many    the same of a block that CMD25 stored, in MMC mode, with CMD12 before work done
-- Assumes nothing.
use mathlib.Core.Path.{◌≡◌, sym, ap, ◌∙◌, subst}
use mathlib.Core.Bool.{Bool, true, false}
use mathlib.Core.List.{List, [], ◌∷◌}
use Prim.Native.Nat.{ℕ, ◌+◌, ◌*◌, ◌/◌, ◌%◌, ◌^◌, ◌≤◌, ◌<◌}
use native.Mathlib.Omega.{arith}
use borrow.Author.Tests.{le-leb, le-ltb}
use lib.ListN.{length, take, drop, length-append, length-drop}
use lib.Seq.{length-take-le, take_at}
use Rattle.base.proofs.Cases.{clash}
use Rattle.card_blocks.proofs.Outcomes.{WritesAt, one, many, only, Storable, InOutcome, unreads, refuses, stores, grants, forces, block_outcome}
use Rattle.card_blocks.specs.BlockIn.{after_stored, block_refused, block_good, block_judged, stored_by}
use Rattle.card_blocks.specs.BlockOut.{part_judged, out_good, out_judged, part_block, block_laid, sent_out}
use Rattle.card_blocks.specs.Framing.{unstarted, with_start}
use Rattle.card_blocks.proofs.Framed.{unstarted_length}
use Rattle.card_blocks.proofs.Laying.{laid_whole}
use Rattle.card_blocks.specs.declared.BlockJudged.{BlockJudged}
use Rattle.card.specs.declared.Call.TheVariants.{WorkDone}
use Rattle.card_blocks.specs.declared.OutJudged.{OutJudged}
use Rattle.card_blocks.specs.declared.Sending.TheVariants.{Part}
use Rattle.card_blocks.specs.declared.Stepped.{Stepped}
use Rattle.card_blocks.specs.declared.Storing.TheVariants.{Sector}
use Rattle.crc.specs.Crc.{crc16}
use Rattle.demands.proofs.Frames.{unlent}
use Rattle.made.specs.Run.{World, given, next, outcome_of, output_after}
use Rattle.card_record.specs.Power.{worked_state, worked}
use Rattle.card_record.specs.Record.{size_of}
use Rattle.card_record.specs.declared.Card.{Card}
use Rattle.states.specs.declared.Incoming.{Incoming}
use Rattle.states.specs.declared.Incoming.TheVariants.{One, Many, LockRequest}
use Rattle.states.specs.declared.Outgoing.TheVariants.{One as OneOut}
use Rattle.states.specs.declared.State.{State}
use Rattle.states.specs.declared.State.TheVariants.{Tran, Data, Rcv, Prg}
use Rattle.store.proofs.OnceLent.{right_parts}
use Rattle.store.proofs.Sectors.{written_length, read_back as sector_back}
use Rattle.store.specs.Lent.{Lent, Seen, seen, lending_of}
use Rattle.store.specs.Memory.{part_of}
use Rattle.wire.specs.Blocks.{block_of}
use Rattle.wire.specs.Frames.{command_frame}
use Rattle.wire.proofs.FrameTheorems.{read_after_write}
use Rattle.stored.specs.ReadBack.{commanded, block_in, block_out, read_again, stored_then_read, stored_stopped_then_read, framed_sector, Awaiting, ReadsBack}
use Rattle.stored.proofs.Framed.{start_length}
use Rattle.stored.proofs.Runs.{Leaves, heard_at, leaves_12, leaves_16, leaves_17}
use Rattle.std.specs.Prelude.{Ok, Some, None}

-- ---- the block in
record Stored (card : Card) (incoming : Incoming) (at : ℕ) (block : List ℕ) (seen : Seen) (judged : BlockJudged) : Type 0 where
  is : judged ≡ block_good card (after_stored incoming (at / 512 * 512 + 512)) (Sector (at / 512))
  storable : Storable card block seen (at / 512)

no_write : {P : Type 0} {incoming : Incoming} {at : ℕ} → WritesAt incoming at → incoming ≡ LockRequest → P
no_write (one at) e = clash cc
no_write (many at) e = clash cc

module _ (card : Card) (block : List ℕ) (seen : Seen) (incoming : Incoming) (at : ℕ) (w : WritesAt incoming at) (state : card.link.state ≡ Rcv incoming) where
  stored_as : {judged : BlockJudged} → InOutcome card block seen judged → judged.stepped.reply.outcome ≡ Ok None → Stored card incoming at block seen judged
  unfolding block_refused block_good
  stored_as (unreads n listed) d = clash cc
  stored_as (refuses other refusal fault s why) d = clash cc
  stored_as (stores other place v s right) d =
      let ei : other ≡ incoming = cc in
      let ea : place ≡ at = only v w ei in
      record { is = rw (ei, ea); storable = rw ea at right }
  stored_as (grants s a) d = no_write w (cc)
  stored_as (forces s a) d = no_write w (cc)

-- ---- the run
block_length : (payload : List ℕ) → length payload ≡ 512 → length (block_of payload) ≡ 514
unfolding block_of
block_length payload e = omega (arith, length-append payload (crc16 payload / 256 ∷ crc16 payload % 256 ∷ []))

module _ (spi : Bool) (groups : ℕ) (lent : Lent) (right : lending_of (seen lent) groups ≡ Ok tt) where
  -- an unlocked card in this mode and state, lent the same all the way
  record Holds (state : State) (w : World) : Type 0 where
    mode_is : w.card.mode.spi ≡ spi
    groups_are : w.card.registers.groups ≡ groups
    unlocked : w.card.lock.locked ≡ false
    state_is : w.card.link.state ≡ state
    lent_is : w.lent ≡ lent

  lent_to : (w : World) {state : State} → Holds state w → lending_of (seen w.lent) w.card.registers.groups ≡ Ok tt
  lent_to w h = rw (h.lent_is, h.groups_are) right

  by_frame : (w : World) {from : State} (there : State) (n index argument : ℕ) → Holds from w → index < 64 → argument < 2 ^ 32
      → Leaves spi there n (heard_at spi w.card index argument)
      → Holds there (commanded spi w index argument) × ((commanded spi w index argument).card.link.length ≡ n)
  unfolding next
  by_frame w there n index argument h hi ha l =
      let u =
      unlent w.card true spi (command_frame index argument) w.lent [] index argument
      (record { right = lent_to w h; command = read_after_write index argument hi ha }) l.unchanged
      in (
        record {
          mode_is = ap (λ (s : Stepped). s.card.mode.spi) u.step ∙ l.mode_is;
          groups_are = ap (λ (s : Stepped). s.card.registers.groups) u.step ∙ h.groups_are;
          unlocked = ap (λ (s : Stepped). s.card.lock.locked) u.step ∙ h.unlocked;
          state_is = ap (λ (s : Stepped). s.card.link.state) u.step ∙ l.state_is;
          lent_is = u.lent_kept ∙ h.lent_is;
        },
        ap (λ (s : Stepped). s.card.link.length) u.step ∙ l.length_is,
      )

  by_work : (w : World) → Holds Prg w → Holds Tran (next w (given WorkDone []))
  unfolding next worked
  by_work w h =
      record {
        mode_is = h.mode_is;
        groups_are = h.groups_are;
        unlocked = h.unlocked;
        state_is = ap worked_state h.state_is;
        lent_is = h.lent_is;
      }

  module _ (at : ℕ) (in_range : at + 512 ≤ size_of groups) (aligned : at % 512 ≡ 0) (small : at < 2 ^ 32) (output : List ℕ)
      (room : framed_sector spi ≤ length output) where
    -- what goes out of a card in data
    out_judged_lem : (card : Card) → card.mode.spi ≡ spi → card.registers.groups ≡ groups → card.link.state ≡ Data (OneOut at)
        → card.link.length ≡ 512 → out_judged card (seen lent) (length output) ≡ out_good card Tran 512 (Part at 512)
    unfolding out_judged part_judged
    out_judged_lem card m g s n =
        simp (g, right, s, n, m, le-leb (framed_sector spi) (length output) room, le-leb (at + 512) (size_of groups) in_range, le-ltb 2048 (at % 2048 + 512) (omega arith))

    abbrev part : List ℕ
    part = part_of lent.memory at 512

    module _ (whole : at + 512 ≤ length lent.memory) where
      part_long : length (block_of part) ≡ 514
      part_long = block_length part (length-take-le 512 (drop at lent.memory) (omega (arith, length-drop at lent.memory)))

      framed_long : length (with_start spi (block_of part)) ≡ framed_sector spi
      framed_long = start_length spi (block_of part) 512 part_long

      part_block_lem : part_block lent.memory at 512 ≡ block_of part
      unfolding part_block
      part_block_lem = simp (le-leb (at + 512) (length lent.memory) whole)

      sent_front : take (framed_sector spi) (block_laid spi (part_block lent.memory at 512) output) ≡ with_start spi (block_of part)
      sent_front =
          ap (λ (b : List ℕ). take (framed_sector spi) (block_laid spi b output)) part_block_lem
          ∙ ap (take (framed_sector spi)) (laid_whole spi (block_of part) output (omega (arith, part_long)) (rw framed_long room))
          ∙ take_at (with_start spi (block_of part)) (drop (length (with_start spi (block_of part))) output) (framed_sector spi) framed_long

    in_memory : at + 512 ≤ length lent.memory
    in_memory = omega (arith, (right_parts (seen lent) groups right).0)

    again : (w : World) → Holds Prg w
        → (outcome_of (read_again spi w at) (block_out output) ≡ Ok (Some (framed_sector spi)))
        × (take (framed_sector spi) (output_after (read_again spi w at) (block_out output)) ≡ with_start spi (block_of part))
    unfolding read_again out_good sent_out
    again w h =
        let w1 : World = next w (given WorkDone []) in
        let h1 : Holds Tran w1 = by_work w h in
        let w2 : World = commanded spi w1 16 512 in
        let h2 = by_frame w1 Tran 512 16 512 h1 (omega arith) (omega arith) (leaves_16 w1.card spi h1.mode_is h1.state_is) in
        let reach : at + 512 ≤ size_of w2.card.registers.groups = rw h2.0.groups_are in_range in
        let w3 : World = commanded spi w2 17 at in
        let h3 =
        by_frame w2 (Data (OneOut at)) 512 17 at h2.0 (omega arith) small
        (leaves_17 w2.card h2.0.unlocked spi h2.0.mode_is at reach aligned h2.0.state_is h2.1)
        in
        let sent : out_judged w3.card (seen w3.lent) (length output) ≡ out_good w3.card Tran 512 (Part at 512) =
        rw h3.0.lent_is (out_judged_lem w3.card h3.0.mode_is h3.0.groups_are h3.0.state_is h3.1)
        in (
          ap (λ (j : OutJudged). j.stepped.reply.outcome) sent ∙ ap (λ (b : Bool). Ok (Some (framed_sector b))) h3.0.mode_is,
          ap (λ (j : OutJudged). take (framed_sector spi) (sent_out w3.card w3.lent j.sending output)) sent
              ∙ ap (λ (b : Bool). take (framed_sector spi) (block_laid b (part_block w3.lent.memory at 512) output)) h3.0.mode_is
              ∙ ap (λ (l : Lent). take (framed_sector spi) (block_laid spi (part_block l.memory at 512) output)) h3.0.lent_is
              ∙ sent_front in_memory,
        )

-- ---- the theorems
module _ (spi : Bool) (w : World) (block : List ℕ) (at : ℕ) (here : w.card.mode.spi ≡ spi) (awaiting : Awaiting w.card at) (output : List ℕ)
    (room : framed_sector spi ≤ length output) where
  -- what is lent, with the block stored
  abbrev after : Lent
  after = stored_by (unstarted spi block) (Sector (at / 512)) w.lent

  module _ (incoming : Incoming) (writes : WritesAt incoming at) (state : w.card.link.state ≡ Rcv incoming) (granted : outcome_of w (block_in block) ≡ Ok None) where
    judged : Stored w.card incoming at block (seen w.lent) (block_judged w.card block (seen w.lent))
    judged = stored_as w.card block (seen w.lent) incoming at writes state (block_outcome w.card block (seen w.lent)) granted

    -- a block that was granted lies in memory
    lies_in : at + 512 ≤ size_of w.card.registers.groups
    lies_in = omega (arith, judged.storable.in_range, awaiting.aligned)

    still_lent : lending_of (seen after) w.card.registers.groups ≡ Ok tt
    still_lent = rw (written_length w.lent.memory (unstarted spi block) (at / 512)) judged.storable.lent

    stored_holds : Holds spi w.card.registers.groups after still_lent (after_stored incoming (at / 512 * 512 + 512)) (next w (block_in block))
    unfolding next block_good
    stored_holds =
        let e = judged.is in
        record {
          mode_is = ap (λ (j : BlockJudged). j.stepped.card.mode.spi) e ∙ here;
          groups_are = ap (λ (j : BlockJudged). j.stepped.card.registers.groups) e;
          unlocked = ap (λ (j : BlockJudged). j.stepped.card.lock.locked) e ∙ awaiting.unlocked;
          state_is = ap (λ (j : BlockJudged). j.stepped.card.link.state) e;
          lent_is = ap (λ (j : BlockJudged). stored_by (unstarted w.card.mode.spi block) j.storing w.lent) e
              ∙ ap (λ (b : Bool). stored_by (unstarted b block) (Sector (at / 512)) w.lent) here;
        }

    -- the part that goes out is the block's 512 bytes
    inner_long : length (unstarted spi block) ≡ 514
    inner_long =
        subst (λ (b : Bool). length (unstarted b block) ≡ 514) here (unstarted_length w.card.mode.spi block 512 judged.storable.long)

    same_bytes : part_of after.memory at 512 ≡ take 512 (unstarted spi block)
    same_bytes =
        let place : at / 512 * 512 ≡ at = omega (arith, awaiting.aligned) in
        let size : length w.lent.memory ≡ w.card.registers.groups * 8192 = (right_parts (seen w.lent) w.card.registers.groups judged.storable.lent).0 in
        ap (λ (k : ℕ). part_of after.memory k 512) (sym place)
        ∙ sector_back w.lent.memory (unstarted spi block) (at / 512) (omega (arith, inner_long)) (omega (arith, lies_in))

    reads : (v : World) → Holds spi w.card.registers.groups after still_lent Prg v → ReadsBack spi block (read_again spi v at) output
    reads v h =
        let r = again spi w.card.registers.groups after still_lent at lies_in awaiting.aligned awaiting.small output room v h in
        record { wrote = r.0; front = r.1 ∙ ap (λ (b : List ℕ). with_start spi (block_of b)) same_bytes }

  pub read_back : w.card.link.state ≡ Rcv (One at) → outcome_of w (block_in block) ≡ Ok None → ReadsBack spi block (stored_then_read spi w block at) output
  read_back state granted = reads (One at) (one at) state granted (next w (block_in block)) (stored_holds (One at) (one at) state granted)

module _ (w : World) (block : List ℕ) (at : ℕ) (here : w.card.mode.spi ≡ false) (awaiting : Awaiting w.card at) (output : List ℕ)
    (room : 514 ≤ length output) where
  pub read_back_many : w.card.link.state ≡ Rcv (Many at) → outcome_of w (block_in block) ≡ Ok None
      → ReadsBack false block (stored_stopped_then_read w block at) output
  read_back_many state granted =
      let behind : ℕ = at / 512 * 512 + 512 in
      let v : World = next w (block_in block) in
      let h = stored_holds false w block at here awaiting output room (Many at) (many at) state granted in
      let stopped =
      by_frame false w.card.registers.groups (after false w block at here awaiting output room)
      (still_lent false w block at here awaiting output room (Many at) (many at) state granted) v Prg
      v.card.link.length 12 0 h (omega arith) (omega arith) (leaves_12 v.card h.unlocked (Many behind) h.mode_is h.state_is)
      in
      reads false w block at here awaiting output room (Many at) (many at) state granted (commanded false v 12 0) stopped.0
