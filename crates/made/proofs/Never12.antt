-- A card that is lent what it left never gives 12.
--   lent_never_12    no call gives it where what is lent is right for the card
--   never_12         so none does in a run of a card that was made
-- Assumes nothing.
use mathlib.Core.Path.{◌≡◌}
use mathlib.Core.Bool.{Bool, not}
use mathlib.Core.List.{List}
use Prim.Native.Nat.{ℕ, ◌+◌, ◌/◌}
use lib.Dec.{eqb, leb, ltb}
use lib.ListN.{length, take}
use Rattle.base.proofs.Cases.{guarded, clash}
use Rattle.base.specs.Refusals.{by}
use Rattle.card.proofs.Outcomes.{told}
use Rattle.card_blocks.specs.BlockIn.{awaited_length, block_refused, block_good, write_judged, lock_judged, request_judged, carried_out, checked_judged, awaited_judged, state_judged, block_judged}
use Rattle.card_blocks.specs.BlockOut.{out_refused, out_good, part_judged, bytes_judged, outgoing_judged, state_sends, out_judged}
use Rattle.card.specs.Frame.{FrameJudged, framed, frame_judged, spares, frame_stepped}
use Rattle.card.specs.Step.{step_of}
use Rattle.card_blocks.specs.Framing.{beside, started, unstarted, crc_right}
use Rattle.card_blocks.specs.declared.BlockJudged.{BlockJudged}
use Rattle.card.specs.declared.Call.{Call}
use Rattle.card.specs.declared.Call.TheVariants.{Frame, BlockIn, BlockOut, WorkDone, PowerOn}
use Rattle.card_blocks.specs.declared.OutJudged.{OutJudged}
use Rattle.card_blocks.specs.declared.Stepped.{Stepped}
use Rattle.crc.specs.Bits.{bits}
use Rattle.spi.specs.Hearing.{crc_passes}
use Rattle.lock.specs.Requests.{request_of}
use Rattle.lock.specs.declared.Answer.{Answer}
use Rattle.lock.specs.declared.Answer.TheVariants.{Granted, Erased, Failed}
use Rattle.lock.specs.declared.Lock.{Lock}
use Rattle.card_record.specs.Record.{size_of, csd_protects, length_read, crosses}
use Rattle.card_record.specs.declared.Card.{Card}
use Rattle.states.specs.declared.Incoming.{Incoming}
use Rattle.states.specs.declared.Incoming.TheVariants.{One as OneIn, Many as ManyIn, LockRequest}
use Rattle.states.specs.declared.Outgoing.{Outgoing}
use Rattle.states.specs.declared.Outgoing.TheVariants.{One as OneOut, Many as ManyOut, Protection, Csd as CsdOut, Cid as CidOut}
use Rattle.states.specs.declared.State.{State}
use Rattle.states.specs.declared.State.TheVariants.{Idle, Ready, Ident, Stby, Tran, Data, Rcv, Prg, Dis, Ina}
use Rattle.store.specs.Lent.{Lent, Seen, seen, lending_of}
use Rattle.store.specs.Map.{protected_in}
use Rattle.wire.specs.Blocks.{payload_of}
use Rattle.wire.specs.Frames.{crc7_of, field, fields_of, framing_of}
use Rattle.made.specs.Run.{World, Input, outcome_of, run_of, made_lent, begun}
use Rattle.made.proofs.Lent.{made_stays_lent}
use Rattle.std.specs.Prelude.{Result, Option, Ok, Err}
use Rattle.base.specs.declared.Refusal.{Refusal}
use Rattle.wire.specs.declared.Fields.{Fields}

abbrev Not12 : Result (Option ℕ) Refusal → Type 0
Not12 outcome = outcome ≡ Err (by 12) → ⊥

module _ (card : Card) where
  -- a frame, a block in and a block out that passed 12 give another number, or none
  abbrev FrameNot : FrameJudged → Type 0
  FrameNot judged = Not12 judged.stepped.reply.outcome

  abbrev InNot : BlockJudged → Type 0
  InNot judged = Not12 judged.stepped.reply.outcome

  abbrev OutNot : OutJudged → Type 0
  OutNot judged = Not12 judged.stepped.reply.outcome

  abbrev Reads : Bool → Bool → Result Fields Refusal → Type 0
  Reads wins selected framing = FrameNot (framed card wins selected framing)

  framed_not : (wins selected : Bool) (frame : List ℕ) → FrameNot (framed card wins selected (framing_of frame))
  unfolding framing_of fields_of
  framed_not wins selected frame =
      guarded (Reads wins selected) (eqb (length frame) 6) (λ t e. clash cc)
      (λ t.
      guarded (Reads wins selected) (eqb (field (bits frame) 0 1) 0) (λ u e. clash cc)
      (λ u.
      guarded (Reads wins selected) (eqb (field (bits frame) 1 1) 1) (λ v e. clash cc)
      (λ v.
      guarded (Reads wins selected) (eqb (field (bits frame) 47 1) 1) (λ w e. clash cc)
      (λ w. guarded FrameNot (crc_passes card.mode (field (bits frame) 2 6) (eqb (field (bits frame) 40 7) (crc7_of (take 40 (bits frame))))) (λ x e. clash cc) (λ x e. clash cc)))))

  write_not : (incoming : Incoming) (sector : ℕ) (map : List ℕ) → InNot (write_judged card incoming sector map)
  unfolding write_judged block_refused block_good
  write_not incoming sector map =
      guarded InNot (ltb sector (size_of card.registers.groups / 512)) (λ t e. clash cc)
      (λ t. guarded InNot (not (protected_in map (csd_protects card.registers.csd) sector)) (λ u e. clash cc) (λ u e. clash cc))

  lock_not : (lock : Lock) (answer : Answer) → InNot (lock_judged card lock answer)
  unfolding block_refused block_good
  lock_not lock Granted e = clash cc
  lock_not lock Erased e = clash cc
  lock_not lock Failed e = clash cc

  carried_not : (incoming : Incoming) (payload map : List ℕ) → InNot (carried_out card incoming payload map)
  unfolding request_judged
  carried_not (OneIn at) payload map = write_not (OneIn at) (at / 512) map
  carried_not (ManyIn at) payload map = write_not (ManyIn at) (at / 512) map
  carried_not LockRequest payload map =
      lock_not (request_of card.lock payload (csd_protects card.registers.csd)).lock (request_of card.lock payload (csd_protects card.registers.csd)).answer

  awaited_not : (incoming : Incoming) (block map : List ℕ) → InNot (awaited_judged card incoming block map)
  unfolding awaited_judged checked_judged block_refused
  awaited_not incoming block map =
      let given : List ℕ = unstarted card.mode.spi block in
      guarded InNot (eqb (length block) (awaited_length card incoming + beside card.mode.spi)) (λ t e. clash cc)
      (λ t.
      guarded InNot (started card.mode.spi block) (λ u e. clash cc)
      (λ u. guarded InNot (crc_right card.mode given) (λ v e. clash cc) (λ v. carried_not incoming (payload_of given) map)))

  in_not : (state : State) (block map : List ℕ) → InNot (state_judged card state block map)
  in_not Idle block map e = clash cc
  in_not Ready block map e = clash cc
  in_not Ident block map e = clash cc
  in_not Stby block map e = clash cc
  in_not Tran block map e = clash cc
  in_not (Data outgoing) block map e = clash cc
  in_not (Rcv incoming) block map e = awaited_not incoming block map e
  in_not Prg block map e = clash cc
  in_not Dis block map e = clash cc
  in_not Ina block map e = clash cc

  part_not : (outgoing : Outgoing) (at n room : ℕ) → OutNot (part_judged card outgoing at n room)
  unfolding part_judged out_refused out_good
  part_not outgoing at n room =
      guarded OutNot (leb (n + beside card.mode.spi) room) (λ t e. clash cc)
      (λ t.
      guarded OutNot (leb (at + n) (size_of card.registers.groups)) (λ u e. clash cc)
      (λ u. guarded OutNot (not (crosses at n)) (λ v e. clash cc) (λ v e. clash cc)))

  outgoing_not : (outgoing : Outgoing) (room : ℕ) → OutNot (outgoing_judged card outgoing room)
  unfolding bytes_judged out_good
  outgoing_not (OneOut at) room = part_not (OneOut at) at (length_read card.link.length) room
  outgoing_not (ManyOut at) room = part_not (ManyOut at) at (length_read card.link.length) room
  outgoing_not (Protection group) room = guarded OutNot (leb (4 + beside card.mode.spi) room) (λ t e. clash cc) (λ t e. clash cc)
  outgoing_not CsdOut room = guarded OutNot (leb (16 + beside card.mode.spi) room) (λ t e. clash cc) (λ t e. clash cc)
  outgoing_not CidOut room = guarded OutNot (leb (16 + beside card.mode.spi) room) (λ t e. clash cc) (λ t e. clash cc)

  out_not : (state : State) (room : ℕ) → OutNot (state_sends card state room)
  out_not Idle room e = clash cc
  out_not Ready room e = clash cc
  out_not Ident room e = clash cc
  out_not Stby room e = clash cc
  out_not Tran room e = clash cc
  out_not (Data outgoing) room e = outgoing_not outgoing room e
  out_not (Rcv incoming) room e = clash cc
  out_not Prg room e = clash cc
  out_not Dis room e = clash cc
  out_not Ina room e = clash cc

  module _ (seen : Seen) (right : lending_of seen card.registers.groups ≡ Ok tt) where
    frame_judged_not : (wins selected : Bool) (frame : List ℕ) → FrameNot (frame_judged card wins selected frame seen)
    unfolding frame_judged
    frame_judged_not wins selected frame = rw right (framed_not wins selected frame)

    in_judged_not : (block : List ℕ) → InNot (block_judged card block seen)
    unfolding block_judged
    in_judged_not block = rw right (in_not card.link.state block seen.map)

    out_judged_not : (room : ℕ) → OutNot (out_judged card seen room)
    unfolding out_judged
    out_judged_not room = rw right (out_not card.link.state room)

    pub lent_never_12 : (call : Call) (input : List ℕ) (room : ℕ) → (step_of card call input seen room).reply.outcome ≡ Err (by 12) → ⊥
    unfolding frame_stepped
    lent_never_12 (Frame wins selected) input room =
        let same = frame_judged_not wins selected input in
        told (λ (s : Stepped). Not12 s.reply.outcome) (frame_judged card wins selected input seen).stepped
        (spares card seen (frame_judged card wins selected input seen).change) same same
    lent_never_12 BlockIn input room = in_judged_not input
    lent_never_12 BlockOut input room = out_judged_not room
    lent_never_12 WorkDone input room = λ e. clash cc
    lent_never_12 PowerOn input room = λ e. clash cc

pub never_12 : (cid csd : List ℕ) (ocr : ℕ) (password : List ℕ) (lent : Lent) (inputs : List Input) (input : Input)
    → (made_lent cid csd ocr password lent).making ≡ Ok tt
    → outcome_of (run_of (begun cid csd ocr password lent) inputs) input ≡ Err (by 12) → ⊥
never_12 cid csd ocr password lent inputs input e =
    let world : World = run_of (begun cid csd ocr password lent) inputs in
    lent_never_12 world.card (seen world.lent) (made_stays_lent cid csd ocr password lent inputs e)
    input.call input.bytes (length input.output)
