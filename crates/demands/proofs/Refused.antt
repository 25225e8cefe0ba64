-- Demand 1, refused by number: a refused call gives one of its numbers, leaves the record that document 01 names for that number, sends
-- nothing but what document 02 names in SPI, and leaves what is lent and the output as they were. For every record, in MMC mode and in SPI.
--   refused_by_number   the theorem
--   named_keeps         the record that document 01 names has registers, lock, mode, address, block length and tags as they were
--   refused_keeps       so a refusal leaves them
--   mmc_unsent          in MMC mode a refusal sends nothing
--   mmc_damaged         and 3 sets bit 23 alone, unless Inactive, whatever the select line
--   damage_shown        in SPI R1 beside 3 has the bit for 23; it is not pending afterwards, and neither is any bit that R1 shows
-- Assumes nothing.
use mathlib.Core.Path.{◌≡◌, refl, sym, ap, ap₂, ◌∙◌, subst}
use mathlib.Core.Bool.{Bool, true, false, ◌&&◌}
use mathlib.Core.List.{List, [], ◌∷◌}
use mathlib.Core.Logic.{inl}
use Prim.Native.Nat.{ℕ}
use native.Mathlib.Omega.{arith}
use lib.Dec.{eqb}
use lib.ListN.{length}
use Rattle.base.proofs.Cases.{cases, picked, clash}
use Rattle.base.specs.Choice.{pick}
use Rattle.base.specs.Refusals.{number_of, refusal_of, by}
use Rattle.base.specs.declared.Refusal.{Refusal}
use Rattle.card_blocks.proofs.Outcomes.{Refuses as Awaited, wrong_length_lem, wrong_crc, past_end, protected, failed, InOutcome, unreads, refuses, stores, grants, forces, OutOutcome, unsends, past, across, sends, block_outcome, out_outcome}
use Rattle.card.proofs.Outcomes.{FrameOutcome, unheard, damaged, commands, frame_outcome, told}
use Rattle.card_blocks.specs.BlockIn.{after_refused, with_fault, block_refused, block_good, stored_by}
use Rattle.card_blocks.specs.BlockOut.{out_refused, out_good, sent_out}
use Rattle.card_blocks.specs.Framing.{unstarted}
use Rattle.card.specs.Frame.{FrameJudged, hearing, commanded, frame_stepped, changed_by, spares, spared_told, frame_told}
use Rattle.card_blocks.specs.Replies.{replied, refused}
use Rattle.card.specs.Step.{step_of}
use Rattle.card_blocks.specs.declared.BlockJudged.{BlockJudged}
use Rattle.card.specs.declared.Call.{Call}
use Rattle.card.specs.declared.Call.TheVariants.{Frame, BlockIn, BlockOut, WorkDone, PowerOn}
use Rattle.card_blocks.specs.declared.OutJudged.{OutJudged}
use Rattle.card_blocks.specs.declared.Sending.{Sending}
use Rattle.card_blocks.specs.declared.Sending.TheVariants as sending
use Rattle.card_blocks.specs.declared.Stepped.{Stepped}
use Rattle.card_blocks.specs.declared.Storing.{Storing}
use Rattle.card_blocks.specs.declared.Storing.TheVariants as storing
use Rattle.command.specs.Command.{met_by, damaged_link}
use Rattle.command.specs.declared.Change.{Change}
use Rattle.command.specs.declared.Change.TheVariants as change
use Rattle.card_record.specs.declared.Sent.{Sent}
use Rattle.card_record.specs.declared.Sent.TheVariants.{Nothing, DataResponse}
use Rattle.moves.proofs.Among.{each}
use Rattle.moves.specs.Indices.{among}
use Rattle.card_record.specs.Record.{with_state, with_errors, with_link}
use Rattle.card_record.specs.declared.Card.{Card}
use Rattle.spi.proofs.Laws.{is_inactive, damage_unchanged}
use Rattle.spi.specs.Answers.{answered_in, faulted}
use Rattle.spi.specs.Hearing.{heard_of, damaged_of}
use Rattle.spi.specs.declared.Heard.{Heard}
use Rattle.spi_answers.proofs.Laws.{r1_says, r1_clears, r1_once}
use Rattle.spi_answers.specs.Answers.{r1_of}
use Rattle.states.specs.declared.Incoming.{Incoming}
use Rattle.states.specs.declared.Incoming.TheVariants.{One, Many, LockRequest}
use Rattle.states.specs.declared.State.{State}
use Rattle.states.specs.declared.State.TheVariants.{Rcv}
use Rattle.status.proofs.ErrorTheorems.{set_shows, named_shown}
use Rattle.status.specs.Bits.{bit_at}
use Rattle.status.specs.ErrorBits.{error_bit}
use Rattle.status.specs.Status.{flag}
use Rattle.status.specs.declared.Errors.{Errors}
use Rattle.store.specs.Lent.{Lent, Seen, seen}
use Rattle.demands.specs.Refused.{numbers, named_frame, named, sent_beside, Refuses, ByNumber, Keeps, inactive, given_up, moved, noted, noted_in, cleared}
use Rattle.std.specs.Prelude.{Option, Result, Ok, Err, Some, None}
use Rattle.status.specs.declared.ErrorBit.{ErrorBit}

-- a refused block gives up what was awaited as document 01 says
lands : (incoming : Incoming) → given_up (Rcv incoming) ≡ after_refused incoming
lands (One at) = refl
lands (Many at) = refl
lands LockRequest = refl

-- ---- 3
module _ (card : Card) (wins selected : Bool) where
  -- a frame that is refused 3, as it leaves the card
  abbrev hurt : Heard
  hurt = damaged_of card.mode selected card.link

  damage_leaves : (hearing card hurt ≡ named (Frame wins selected) 3 card) × (hurt.sent ≡ sent_beside (Frame wins selected) 3 card)
  unfolding damaged_of damaged_link faulted answered_in
  damage_leaves =
      cases card.mode.spi
      (λ (here : card.mode.spi ≡ true).
      cases (is_inactive card.link)
      (λ (t : is_inactive card.link ≡ true).
      cases selected (λ (s : selected ≡ true). (simp (here, t, s), simp (here, t, s))) (λ (s : selected ≡ false). (simp (here, t, s), simp (here, t, s))))
      (λ (t : is_inactive card.link ≡ false).
      cases selected (λ (s : selected ≡ true). (simp (here, t, s), simp (here, t, s))) (λ (s : selected ≡ false). (simp (here, t, s), simp (here, t, s)))))
      (λ (here : card.mode.spi ≡ false).
      cases (is_inactive card.link)
      (λ (t : is_inactive card.link ≡ true). (simp (here, t), simp here)) (λ (t : is_inactive card.link ≡ false). (simp (here, t), simp here)))

  damage_told : (seen : Seen) → frame_told card seen (commanded card (Err (by 3)) hurt)
      ≡ replied (named (Frame wins selected) 3 card) (Err (by 3)) (sent_beside (Frame wins selected) 3 card)
  damage_told seen =
      ap (λ (c : Change). spared_told (replied (hearing card hurt) (Err (by 3)) hurt.sent) (spares card seen c)) (damage_unchanged card.mode selected card.link)
      ∙ ap₂ (λ (c : Card) (s : Sent). replied c (Err (by 3)) s) damage_leaves.0 damage_leaves.1

-- ---- 17
response_named : (spi t : Bool) → pick t (pick spi (DataResponse 0x0B) Nothing) Nothing ≡ pick (spi && t) (DataResponse 0x0B) Nothing
response_named true true = refl
response_named true false = refl
response_named false true = refl
response_named false false = refl

module _ (card : Card) (r : Refusal) where
  -- of a call that is refused: the number, the record, and what is sent
  pub record Left (call : Call) (stepped : Stepped) : Type 0 where
    pub number : among (number_of r) (numbers call) ≡ true
    pub next : stepped.card ≡ named call (number_of r) card
    pub sent : stepped.reply.sent ≡ sent_beside call (number_of r) card

  -- what a call answers that is refused so
  abbrev Told : Refusal → Type 0
  Told refusal = ◌≡◌ {A = Result (Option ℕ) Refusal} (Err refusal) (Err r)

  left : (call : Call) (n : ℕ) → number_of (refusal_of n) ≡ n → among n (numbers call) ≡ true → Told (refusal_of n)
      → Left call (replied (named call n card) (Err (refusal_of n)) (sent_beside call n card))
  left call n right listed e =
      let same : refusal_of n ≡ r = cc in
      let m : number_of r ≡ n = sym (ap number_of same) ∙ right in
      record { number = rw m listed; next = rw m; sent = rw m }

  -- a call that is refused with a number and leaves the record
  abbrev Same : Call → ℕ → Type 0
  Same call n = Told (refusal_of n) → Left call (refused card (refusal_of n))

  -- ---- a block in
  module _ (incoming : Incoming) (on : card.link.state ≡ Rcv incoming) where
    -- the record after a refusal with a number and a fault, in a state, and what is sent
    abbrev leaves : ℕ → Option ErrorBit → State → Sent → Stepped
    leaves n fault state sent =
        replied (with_link card (with_errors (with_state card.link state) (with_fault card.link.errors fault))) (Err (refusal_of n)) sent

    up : (n : ℕ) (fault : Option ErrorBit) → Left BlockIn (leaves n fault (given_up card.link.state) (sent_beside BlockIn n card))
        → Left BlockIn (leaves n fault (after_refused incoming) (pick (card.mode.spi && eqb n 17) (DataResponse 0x0B) Nothing))
    up n fault l =
        subst (λ (s : Sent). Left BlockIn (leaves n fault (after_refused incoming) s)) (response_named card.mode.spi (eqb n 17))
        (subst (λ (s : State). Left BlockIn (leaves n fault s (sent_beside BlockIn n card))) (ap given_up on ∙ lands incoming) l)

    awaited_left : {refusal : Refusal} {fault : Option ErrorBit} → Awaited card incoming refusal fault → Told refusal
        → Left BlockIn (block_refused card incoming refusal fault).stepped
    unfolding block_refused
    awaited_left wrong_length_lem e = up 16 (Some (error_bit 29)) (left BlockIn 16 refl refl e)
    awaited_left wrong_crc e = up 17 None (left BlockIn 17 refl refl e)
    awaited_left (past_end at w outside) e = up 18 (Some (error_bit 31)) (left BlockIn 18 refl refl e)
    awaited_left protected e = up 19 (Some (error_bit 26)) (left BlockIn 19 refl refl e)
    awaited_left failed e = up 20 (Some (error_bit 24)) (left BlockIn 20 refl refl e)

  in_left : (block : List ℕ) (seen : Seen) {j : BlockJudged} → InOutcome card block seen j → j.stepped.reply.outcome ≡ Err r
      → Left BlockIn j.stepped × (j.storing ≡ storing.Nothing)
  unfolding block_refused block_good
  in_left block seen (unreads n listed) e =
      (each (Same BlockIn) (12 ∷ 15 ∷ []) (left BlockIn 12 refl refl, (left BlockIn 15 refl refl, tt)) n listed e, refl)
  in_left block seen (refuses incoming refusal fault on why) e = (awaited_left incoming on why e, refl)
  in_left block seen (stores incoming at w on right) e = clash cc
  in_left block seen (grants on granted) e = clash cc
  in_left block seen (forces on erased) e = clash cc

  -- ---- a block out
  out_left : {j : OutJudged} → OutOutcome card j → j.stepped.reply.outcome ≡ Err r → Left BlockOut j.stepped × (j.sending ≡ sending.Nothing)
  unfolding out_refused out_good
  out_left (unsends n listed) e =
      (each (Same BlockOut) (12 ∷ 15 ∷ 6 ∷ []) (left BlockOut 12 refl refl, (left BlockOut 15 refl refl, (left BlockOut 6 refl refl, tt))) n listed e, refl)
  out_left (past outgoing on) e = (left BlockOut 18 refl refl e, refl)
  out_left (across outgoing on) e = (left BlockOut 21 refl refl e, refl)
  out_left (sends outgoing next n sending on within) e = clash cc

  -- ---- a frame
  module _ (wins selected : Bool) (frame : List ℕ) (seen : Seen) where
    abbrev call : Call
    call = Frame wins selected

    frame_left : {j : FrameJudged} → FrameOutcome card wins selected frame seen j
        → (frame_told card seen j).reply.outcome ≡ Err r → Left call (frame_told card seen j) × (j.change ≡ change.Nothing)
    frame_left (unheard n listed) e =
        (each (Same call) (12 ∷ 1 ∷ 2 ∷ []) (left call 12 refl refl, (left call 1 refl refl, (left call 2 refl refl, tt))) n listed e, refl)
    frame_left (damaged index argument is counts) e =
        let told = damage_told card wins selected seen in (
          subst (Left call) (sym told) (left call 3 refl refl (ap (λ (s : Stepped). s.reply.outcome) (sym told) ∙ e)),
          damage_unchanged card.mode selected card.link,
        )
    frame_left (commands index argument right is passes lent) e =
        let given : Heard = heard_of card.mode selected card.link (met_by card wins) index argument in
        let done : (frame_told card seen (commanded card (Ok None) given)).reply.outcome ≡ Ok None =
        told (λ (s : Stepped). s.reply.outcome ≡ Ok None) (commanded card (Ok None) given).stepped (spares card seen given.change) refl refl
        in
        clash cc

pub refused_by_number : (card : Card) (call : Call) (input : List ℕ) (lent : Lent) (out : List ℕ) (r : Refusal)
    → Refuses card call input lent out r → ByNumber card call input lent out r
unfolding frame_stepped sent_out
refused_by_number card (Frame wins selected) input lent out r e =
    let (l, same) = frame_left card r wins selected input (seen lent) (frame_outcome card wins selected input (seen lent)) e in
    record {
      number = l.number;
      next = l.next;
      sent = l.sent;
      lent_kept = ap (λ (c : Change). changed_by card c lent) same;
      output_kept = refl;
    }
refused_by_number card BlockIn input lent out r e =
    let (l, same) = in_left card r input (seen lent) (block_outcome card input (seen lent)) e in
    record {
      number = l.number;
      next = l.next;
      sent = l.sent;
      lent_kept = ap (λ (s : Storing). stored_by (unstarted card.mode.spi input) s lent) same;
      output_kept = refl;
    }
refused_by_number card BlockOut input lent out r e =
    let (l, same) = out_left card r (out_outcome card (seen lent) (length out)) e in
    record {
      number = l.number;
      next = l.next;
      sent = l.sent;
      lent_kept = refl;
      output_kept = ap (λ (s : Sending). sent_out card lent s out) same;
    }
refused_by_number card WorkDone input lent out r e = clash cc
refused_by_number card PowerOn input lent out r e = clash cc

module _ (card : Card) where
  abbrev Kept : Card → Type 0
  Kept = Keeps card

  same_keeps : Kept card
  same_keeps = record { registers = refl; lock = refl; mode = refl; address = refl; length = refl; tags = refl }

  noted_keeps : (place : ℕ) → Kept (noted place card)
  noted_keeps place = record { registers = refl; lock = refl; mode = refl; address = refl; length = refl; tags = refl }

  cleared_keeps : Kept (cleared (noted 23 card))
  cleared_keeps = record { registers = refl; lock = refl; mode = refl; address = refl; length = refl; tags = refl }

  in_keeps : (n : ℕ) (state : State) → Kept (noted_in n (moved state card))
  in_keeps n state =
      let kept : (place : ℕ) → Kept (noted place (moved state card)) =
      λ place. record { registers = refl; lock = refl; mode = refl; address = refl; length = refl; tags = refl } in
      picked Kept (eqb n 16) (λ t. kept 29)
      (λ t. picked Kept (eqb n 18) (λ u. kept 31)
      (λ u. picked Kept (eqb n 19) (λ v. kept 26)
      (λ v. picked Kept (eqb n 20) (λ w. kept 24)
      (λ w. record { registers = refl; lock = refl; mode = refl; address = refl; length = refl; tags = refl }))))

  pub named_keeps : (call : Call) (n : ℕ) → Kept (named call n card)
  named_keeps (Frame wins selected) n =
      picked Kept (eqb n 3)
      (λ t. picked Kept (inactive card) (λ u. same_keeps)
      (λ u. picked Kept card.mode.spi (λ here. picked Kept selected (λ low. cleared_keeps) (λ high. same_keeps)) (λ here. noted_keeps 23)))
      (λ t. same_keeps)
  named_keeps BlockIn n =
      picked Kept (among n (16 ∷ 17 ∷ 18 ∷ 19 ∷ 20 ∷ [])) (λ t. in_keeps n (given_up card.link.state)) (λ t. same_keeps)
  named_keeps BlockOut n =
      picked Kept (eqb n 18) (λ t. noted_keeps 31) (λ t. picked Kept (eqb n 21) (λ u. noted_keeps 30) (λ u. same_keeps))
  named_keeps WorkDone n = same_keeps
  named_keeps PowerOn n = same_keeps

pub refused_keeps : (card : Card) (call : Call) (input : List ℕ) (lent : Lent) (out : List ℕ) (r : Refusal)
    → Refuses card call input lent out r → Keeps card (step_of card call input (seen lent) (length out)).card
refused_keeps card call input lent out r e =
    subst (Keeps card) (sym (refused_by_number card call input lent out r e).next) (named_keeps card call (number_of r))

-- ---- in MMC mode
mmc_beside : (call : Call) (number : ℕ) (card : Card) → card.mode.spi ≡ false → sent_beside call number card ≡ Nothing
mmc_beside (Frame wins selected) number card mmc = rw mmc (picked (λ (s : Sent). s ≡ Nothing) (eqb number 3) (λ t. refl) (λ t. refl))
mmc_beside BlockIn number card mmc = rw mmc (picked (λ (s : Sent). s ≡ Nothing) (eqb number 17) (λ t. refl) (λ t. refl))
mmc_beside BlockOut number card mmc = refl
mmc_beside WorkDone number card mmc = refl
mmc_beside PowerOn number card mmc = refl

pub mmc_unsent : (card : Card) (call : Call) (input : List ℕ) (lent : Lent) (out : List ℕ) (r : Refusal) → card.mode.spi ≡ false
    → Refuses card call input lent out r → (step_of card call input (seen lent) (length out)).reply.sent ≡ Nothing
mmc_unsent card call input lent out r mmc e = (refused_by_number card call input lent out r e).sent ∙ mmc_beside call (number_of r) card mmc

pub mmc_damaged : (selected : Bool) (number : ℕ) (card : Card) → card.mode.spi ≡ false
    → named_frame selected number card ≡ pick (eqb number 3) (pick (inactive card) card (noted 23 card)) card
mmc_damaged selected number card mmc =
    ap (λ (spi : Bool). pick (eqb number 3) (pick (inactive card) card (pick spi (pick selected (cleared (noted 23 card)) card) (noted 23 card))) card) mmc

-- ---- in SPI
module _ (card : Card) where
  abbrev with_damage : Errors
  with_damage = (noted 23 card).link.errors

  damage_set : bit_at 23 with_damage.bits ≡ 1
  damage_set = sym (named_shown with_damage (error_bit 23)) ∙ set_shows card.link.errors (error_bit 23)

  pub damage_shown : (idle : Bool)
      → (bit_at 3 (r1_of with_damage idle) ≡ 1)
      × (bit_at 23 (cleared (noted 23 card)).link.errors.bits ≡ 0)
      × (r1_of (cleared (noted 23 card)).link.errors idle ≡ flag idle)
  damage_shown idle =
      ((r1_says with_damage idle).1.1.1.0.1 (inl damage_set), r1_clears with_damage 23 (omega arith), r1_once with_damage idle)
