-- What a locked card lets happen.
--   locked_keeps          its memory and its map change only by a granted forced erase
--   unlocks_only          it is unlocked only by power-on with no password stored, a granted forced erase, or an unlock with exactly the stored
--                         password
--   unlocks_by_request    where a password is stored, only by the latter two
--   held_back             a command that is neither of class 0 nor CMD16 or CMD42 moves nothing, changes no mode, block length or lent byte
--   let_through           so a command that moves or changes something is of class 0, CMD16 or CMD42
-- Assumes nothing.
use mathlib.Core.Path.{◌≡◌, refl, sym, ap, ap₂, ◌∙◌}
use mathlib.Core.Bool.{Bool, true, false, not, ◌&&◌}
use mathlib.Core.List.{List}
use mathlib.Core.Logic.{◌⊎◌, inl, inr}
use Prim.Native.Nat.{ℕ, ◌%◌, ◌≤◌}
use native.Mathlib.Omega.{arith}
use borrow.Author.Tests.{leb-false, eqb-true}
use lib.Dec.{eqb}
use lib.ListN.{length, get_or}
use Rattle.wire.specs.declared.Fields.{Fields}
use Rattle.wire.proofs.Told.{fields_told}
use Rattle.base.proofs.Cases.{cases, picked, clash, opposite}
use Rattle.base.specs.Choice.{pick}
use Rattle.base.specs.Refusals.{by}
use Rattle.card_blocks.proofs.Outcomes.{InOutcome, unreads, refuses, stores, grants, forces, block_outcome}
use Rattle.card.proofs.Outcomes.{FrameOutcome, unheard, damaged, commands, frame_outcome, told}
use Rattle.card_blocks.specs.BlockIn.{block_refused, block_good, block_judged}
use Rattle.card.specs.Frame.{FrameJudged, commanded, spares, frame_judged, frame_stepped, changed_by}
use Rattle.card.specs.Step.{step_of}
use Rattle.card_blocks.specs.declared.BlockJudged.{BlockJudged}
use Rattle.card.specs.declared.Call.{Call}
use Rattle.card.specs.declared.Call.TheVariants.{Frame, BlockIn, BlockOut, WorkDone, PowerOn}
use Rattle.card_blocks.specs.declared.Stepped.{Stepped}
use Rattle.command.specs.Command.{met_by, damaged_link}
use Rattle.command.specs.Obey.{passes_lock}
use Rattle.command.specs.declared.Change.{Change}
use Rattle.command.specs.declared.Change.TheVariants.{Nothing, Protect, Erase}
use Rattle.command.specs.declared.Met.{Met}
use Rattle.card_record.specs.declared.Sent.{Sent}
use Rattle.lock.specs.Passwords.{stored, powered_of}
use Rattle.lock.specs.Requests.{presented}
use Rattle.lock.specs.declared.Answer.TheVariants.{Granted}
use Rattle.lock.specs.declared.Lock.{Lock}
use Rattle.lock.specs.declared.Requested.{Requested}
use Rattle.lock.proofs.Carried.{presented_parts}
use Rattle.made.proofs.Kept.{KeepsLock, lock_kept}
use Rattle.made.proofs.Took.{Took, stopped, reset, obeyed, unfaulted, heard_took}
use Rattle.moves.specs.Classes.{class_of}
use Rattle.card_record.specs.Power.{powered_on}
use Rattle.card_record.specs.Record.{csd_protects}
use Rattle.card_record.specs.declared.Card.{Card}
use Rattle.card_record.specs.declared.Link.{Link}
use Rattle.card_record.specs.declared.Mode.{Mode}
use Rattle.moves.specs.declared.Move.{Move}
use Rattle.moves.specs.declared.Move.TheVariants.{Ignored, Silent, Illegal, To}
use Rattle.spi.proofs.Laws.{is_inactive}
use Rattle.spi.specs.Answers.{answered_in, faulted}
use Rattle.spi.specs.Hearing as hearing
use Rattle.spi.specs.Hearing.{mode_after, taken_in, moved_in, spi_heard, as_spi, heard_of, damaged_of}
use Rattle.spi.specs.declared.Heard.{Heard}
use Rattle.spi_moves.specs.Moves.{row_of, move_of}
use Rattle.states.specs.States.{column_of}
use Rattle.store.specs.Lent.{Lent, Seen, seen}
use Rattle.wire.specs.Frames.{framing_of, as_fields}
use Rattle.stored.specs.Changes.{SetBy, ByteChanges, EntryChanges, payload_at, ForcedErase, Cause, written, erased, forced, MapCause, set}
use Rattle.stored.specs.Locked.{LockedCard, UnlockGranted, Unlocking, none_stored, unlocked, Unmoved, forced as by_force}
use Rattle.stored.proofs.Changes.{forces_all, memory_changes, map_changes}
use Rattle.stored.proofs.Commands.{FrameChange, nothing, protects, frees, erases, frame_change}
use Rattle.stored.proofs.Requests.{Asks, fails, unlocks, others, erases as erased_all, asks}
use Rattle.std.specs.Prelude.{Ok, Err, None}

-- ---- memory and map
module _ (card : Card) (wins selected : Bool) (frame : List ℕ) (seen : Seen) where
  changer : {change : Change} → FrameChange card wins selected frame seen change → (change ≡ Nothing → ⊥) → card.lock.locked ≡ false
  changer nothing ne = absurd (ne refl)
  changer (protects argument e l) ne = l
  changer (frees argument e l) ne = l
  changer (erases argument e l) ne = l

  -- a frame that changes something lent came to an unlocked card
  pub changed_unlocked : (change : Change) → (frame_judged card wins selected frame seen).change ≡ change → (change ≡ Nothing → ⊥)
      → card.lock.locked ≡ false
  changed_unlocked change e ne = changer (frame_change card wins selected frame seen) (λ n. ne (sym e ∙ n))

module _ (card : Card) (locked : LockedCard card) (call : Call) (input : List ℕ) where
  memory_cause : (seen : Seen) (sector : ℕ) → Cause card call input seen sector → ForcedErase card call input seen
  memory_cause seen sector (written at w e) = absurd (locked.no_write at w.awaited)
  memory_cause seen sector (erased t) =
      opposite card.lock.locked locked.locked
      (changed_unlocked card t.wins t.selected input seen Erase t.taken (λ e. clash cc))
  memory_cause seen sector (forced f) = f

  set_unlocked : (wins selected : Bool) (seen : Seen) (group : ℕ) (on : Bool) → (frame_judged card wins selected input seen).change ≡ Protect group on
      → card.lock.locked ≡ false
  set_unlocked wins selected seen group on t = changed_unlocked card wins selected input seen (Protect group on) t (λ e. clash cc)

  either_set : (wins selected : Bool) (seen : Seen) (argument group : ℕ)
      → SetBy card call input seen wins selected 28 true argument group ⊎ SetBy card call input seen wins selected 29 false argument group
      → card.lock.locked ≡ false
  either_set wins selected seen argument group (inl t) = set_unlocked wins selected seen group true t.1
  either_set wins selected seen argument group (inr t) = set_unlocked wins selected seen group false t.1

  map_cause : (seen : Seen) (group : ℕ) → MapCause card call input seen group → ForcedErase card call input seen
  map_cause seen group (set s) =
      opposite card.lock.locked locked.locked (either_set s.wins s.selected seen s.argument group s.taken)
  map_cause seen group (forced f) = f

  pub locked_keeps : (lent : Lent) (p : ℕ)
      → (ByteChanges card call input lent p → ForcedErase card call input (seen lent))
      × (EntryChanges card call input lent p → ForcedErase card call input (seen lent))
  locked_keeps lent p = (
    λ d. memory_cause (seen lent) _ (memory_changes card call input lent p d),
    λ d. map_cause (seen lent) p (map_changes card call input lent p d),
  )

-- ---- the flag
module _ (card : Card) (input : List ℕ) (seen : Seen) (locked : card.lock.locked ≡ true) where
  abbrev Why : Call → Type 0
  Why call = Unlocking card call input seen

  request_unlocks : {requested : Requested} → Asks card.lock (payload_at card input) (csd_protects card.registers.csd) requested
      → requested.answer ≡ Granted → (get_or (payload_at card input) 0 0 ≡ 0) × (presented card.lock (payload_at card input) ≡ true)
  request_unlocks fails a = clash cc
  request_unlocks (unlocks b l p) a = (b, p)
  request_unlocks (others next l) a = opposite card.lock.locked locked l
  request_unlocks (erased_all b l p) a = clash cc

  block_unlocks : {judged : BlockJudged} → InOutcome card input seen judged → block_judged card input seen ≡ judged
      → judged.stepped.card.lock.locked ≡ false → Why BlockIn
  unfolding block_refused block_good
  block_unlocks (unreads n listed) is e = opposite card.lock.locked locked e
  block_unlocks (refuses incoming refusal fault s why) is e = opposite card.lock.locked locked e
  block_unlocks (stores incoming at w s right) is e = opposite card.lock.locked locked e
  block_unlocks (grants s a) is e =
      let u = request_unlocks (asks card.lock (payload_at card input) (csd_protects card.registers.csd)) a in
      let x = presented_parts card.lock (payload_at card input) u.1 in
      unlocked (record {
        called = refl;
        awaited = s;
        unlock = u.0;
        some = x.0;
        password = x.1;
        granted = λ room. ap (λ (j : BlockJudged). j.stepped.reply.outcome) is;
      })
  block_unlocks (forces s a) is e = by_force (forces_all card input seen s a (ap (λ (j : BlockJudged). j.storing) is))

none : (lock : Lock) → (powered_of lock).locked ≡ false → length (stored lock) ≡ 0
unfolding powered_of
none lock e = omega (arith, leb-false 1 (length (stored lock)) e)

-- a call that keeps the lock leaves a locked card locked
kept_locked : {P : Type 0} (card : Card) (call : Call) → KeepsLock card call → (input : List ℕ) (seen : Seen) (room : ℕ)
    → card.lock.locked ≡ true → (step_of card call input seen room).card.lock.locked ≡ false → P
kept_locked card call keeps input seen room l e =
    opposite card.lock.locked l (sym (ap (λ (x : Lock). x.locked) (lock_kept card call keeps input seen room)) ∙ e)

pub unlocks_only : (card : Card) (call : Call) (input : List ℕ) (seen : Seen) (room : ℕ) → card.lock.locked ≡ true
    → (step_of card call input seen room).card.lock.locked ≡ false → Unlocking card call input seen
unfolding powered_on
unlocks_only card (Frame wins selected) input seen room l e = kept_locked card (Frame wins selected) tt input seen room l e
unlocks_only card BlockIn input seen room l e = block_unlocks card input seen l (block_outcome card input seen) refl e
unlocks_only card BlockOut input seen room l e = kept_locked card BlockOut tt input seen room l e
unlocks_only card WorkDone input seen room l e = kept_locked card WorkDone tt input seen room l e
unlocks_only card PowerOn input seen room l e = none_stored refl (none card.lock e)

-- a card with a password, as every locked card that was made has one
pub unlocks_by_request : (card : Card) (call : Call) (input : List ℕ) (seen : Seen) (room : ℕ) → card.lock.locked ≡ true
    → 1 ≤ length (stored card.lock) → (step_of card call input seen room).card.lock.locked ≡ false
    → ForcedErase card call input seen ⊎ UnlockGranted card call input seen
unlocks_by_request card call input seen room l some e = by_reason (unlocks_only card call input seen room l e)
  where
    by_reason : Unlocking card call input seen → ForcedErase card call input seen ⊎ UnlockGranted card call input seen
    by_reason (none_stored c n) = absurd (omega arith)
    by_reason (by_force f) = inl f
    by_reason (unlocked u) = inr u

-- ---- commands
-- a command that does not go on at a locked card is neither CMD0 nor CMD59, and so changes no mode
module _ (index : ℕ) (stops : passes_lock true index ≡ false) where
  not_passed : (k : ℕ) → passes_lock true k ≡ true → eqb index k ≡ false
  not_passed k e =
      cases (eqb index k)
      (λ (t : eqb index k ≡ true). opposite (passes_lock true index) (ap (passes_lock true) (eqb-true index k t) ∙ e) stops)
      (λ (t : eqb index k ≡ false). t)

  after_same : (mode : Mode) (argument : ℕ) → mode_after mode index argument ≡ mode
  unfolding class_of
  after_same mode argument =
      ap₂ (λ (z c : Bool). pick z (record { spi = true; checks = false }) (pick c (record { spi = mode.spi; checks = eqb (argument % 2) 1 }) mode))
      (not_passed 0 refl) (not_passed 59 refl)

  module _ (mode : Mode) (link : Link) (met : Met) (argument : ℕ) where
    abbrev Keeps : Heard → Type 0
    Keeps heard = heard.mode ≡ mode

    moved_mode : (move : Move) → Keeps (moved_in mode link met index argument move)
    unfolding faulted answered_in taken_in
    moved_mode Ignored = refl
    moved_mode Silent = refl
    moved_mode Illegal = refl
    moved_mode (To column) = after_same mode argument

    heard_mode : (selected : Bool) → Keeps (heard_of mode selected link met index argument)
    unfolding heard_of spi_heard
    heard_mode selected =
        picked Keeps (as_spi mode selected index) (λ t. moved_mode (move_of (row_of index) (column_of link.state)))
        (λ t. picked Keeps mode.spi (λ u. refl) (λ u. refl))

module _ (card : Card) (wins selected : Bool) (frame : List ℕ) (seen : Seen) (index argument : ℕ) where
  -- nothing but error bits and tags changes
  pub record Held (judged : FrameJudged) : Type 0 where
    pub state : judged.stepped.card.link.state ≡ card.link.state
    pub address : judged.stepped.card.link.address ≡ card.link.address
    pub length_kept : judged.stepped.card.link.length ≡ card.link.length
    pub mode : judged.stepped.card.mode ≡ card.mode
    pub change : judged.change ≡ Nothing

  module _ (locked : card.lock.locked ≡ true) (stops : passes_lock true index ≡ false) where
    took_held : (mode : Mode) (sent : Sent) {next : Link} {change : Change} → mode ≡ card.mode
        → Took card.link (met_by card wins) index argument next change
        → Held (commanded card (Ok None) (record { mode = mode; link = next; sent = sent; change = change }))
    unfolding class_of
    took_held mode sent m (stopped tags errors) = record { state = refl; address = refl; length_kept = refl; mode = m; change = refl }
    took_held mode sent m (reset errors z) = opposite true refl (rw z at stops)
    took_held mode sent m (obeyed next l right) =
        let p = (unfaulted card.link (met_by card wins) index argument right).0 in opposite (passes_lock true index) (rw locked at p) stops

    -- bit 23 is an error bit
    abbrev Damaged : Heard → Type 0
    Damaged heard = Held (commanded card (Err (by 3)) heard)

    damage_held : Damaged (damaged_of card.mode selected card.link)
    unfolding damaged_of faulted answered_in damaged_link
    damage_held =
        picked Damaged card.mode.spi
        (λ here.
        picked Damaged (selected && not (is_inactive card.link))
        (λ low. record { state = refl; address = refl; length_kept = refl; mode = refl; change = refl })
        (λ low. record { state = refl; address = refl; length_kept = refl; mode = refl; change = refl }))
        (λ here.
        picked (λ (l : Link). Damaged (hearing.unheard card.mode l)) (is_inactive card.link)
        (λ t. record { state = refl; address = refl; length_kept = refl; mode = refl; change = refl })
        (λ t. record { state = refl; address = refl; length_kept = refl; mode = refl; change = refl }))

    framed_held : (right : Bool) {judged : FrameJudged} → FrameOutcome card wins selected frame seen judged
        → framing_of frame ≡ Ok (as_fields index argument right) → Held judged
    framed_held right (unheard n listed) e = record { state = refl; address = refl; length_kept = refl; mode = refl; change = refl }
    framed_held right (damaged i a c wrong) e = damage_held
    framed_held right (commands i a r c passes l) e =
        let told = fields_told (sym c ∙ e) in
        rw (ap (λ (f : Fields). f.index) told, ap (λ (f : Fields). f.argument) told)
        (took_held _ _ (heard_mode index stops card.mode card.link (met_by card wins) argument selected)
        (heard_took card.link (met_by card wins) index argument card.mode selected))

-- a frame of an index and an argument, whether its CRC7 is right or not
module _ (card : Card) (wins selected : Bool) (frame : List ℕ) (lent : Lent) (room index argument : ℕ) (right : Bool) (locked : card.lock.locked ≡ true)
    (is : framing_of frame ≡ Ok (as_fields index argument right)) where
  pub held_back : passes_lock true index ≡ false → Unmoved card wins selected frame lent room
  unfolding frame_stepped
  held_back stops =
      let judged : FrameJudged = frame_judged card wins selected frame (seen lent) in
      let spared : Bool = spares card (seen lent) judged.change in
      let held = framed_held card wins selected frame (seen lent) index argument locked stops right (frame_outcome card wins selected frame (seen lent)) is in
      record {
        state = told (λ (s : Stepped). s.card.link.state ≡ card.link.state) judged.stepped spared held.state held.state;
        address = told (λ (s : Stepped). s.card.link.address ≡ card.link.address) judged.stepped spared held.address held.address;
        length_kept = told (λ (s : Stepped). s.card.link.length ≡ card.link.length) judged.stepped spared held.length_kept held.length_kept;
        mode_kept = told (λ (s : Stepped). s.card.mode ≡ card.mode) judged.stepped spared held.mode held.mode;
        lent_kept = ap (λ (c : Change). changed_by card c lent) held.change;
      }

  pub let_through : (Unmoved card wins selected frame lent room → ⊥) → passes_lock true index ≡ true
  let_through moved = cases (passes_lock true index) (λ t. t) (λ t. absurd (moved (held_back t)))
