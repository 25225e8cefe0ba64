-- What a call at a card keeps of its record, so that C need not be told it again: no call changes the CID and the CSD, and only a block in
-- changes the password; and a call that is refused with a number that changes nothing keeps all of it.
--   in_kept, in_stays       a block in
--   out_kept, out_stays     a block out
--   powered_parts, powered_password   power-on
--   worked_told             work done: the numbers that it leaves stand for the next record
-- Assumes nothing.
use mathlib.Core.Path.{◌≡◌, refl, sym, subst}
use mathlib.Core.Bool.{true, false}
use mathlib.Core.List.{List, [], ◌∷◌}
use Prim.Native.Nat.{ℕ}
use borrow.Author.Tests.{eqb-true}
use lib.Dec.{eqb}
use lib.ListN.{get_or, set}
use Rattle.firmware.specs.Numbers.{number_told}
use Rattle.base.proofs.Cases.{cases, picked, never, opposite}
use Rattle.card_blocks.proofs.Outcomes.{wrong_length_lem, wrong_crc, past_end, protected, failed, InOutcome, unreads, refuses, stores, grants, forces, OutOutcome, unsends, past, across, sends, block_outcome, out_outcome}
use Rattle.card_blocks.specs.BlockIn.{block_refused, block_good, block_judged}
use Rattle.card_blocks.specs.BlockOut.{out_refused, out_good, out_judged}
use Rattle.card_blocks.specs.declared.BlockJudged.{BlockJudged}
use Rattle.card_blocks.specs.declared.OutJudged.{OutJudged}
use Rattle.card_blocks.specs.declared.Stepped.{Stepped}
use Rattle.card_record.specs.Power.{powered_on, worked_state, worked}
use Rattle.card_record.specs.Record.{with_link, with_lock, with_mode}
use Rattle.card_record.specs.declared.Card.{Card}
use Rattle.crossing.specs.Record.{state_of, link_of, mode_of, lock_of, registers_of, card_of}
use Rattle.lock.specs.Passwords.{powered_of}
use Rattle.states.specs.declared.State.{State}
use Rattle.store.specs.Lent.{Seen}
use Rattle.firmware.specs.Answers.{leaves_record, worked_number}

module _ (card : Card) where
  -- a step that answers a number that changes nothing has left the record
  abbrev pub Stays : Stepped → Type 0
  Stays stepped = leaves_record (number_told stepped.reply.outcome) ≡ true → stepped.card ≡ card

  -- ---- a block in: the registers are as they were
  abbrev pub InKept : Card → Type 0
  InKept next = next ≡ with_mode (with_link (with_lock card next.lock) next.link) next.mode

  module _ (block : List ℕ) (of : Seen) where
    in_parts : {judged : BlockJudged} → InOutcome card block of judged → InKept judged.stepped.card
    unfolding block_refused block_good
    in_parts (unreads n listed) = refl
    in_parts (refuses incoming refusal fault on why) = refl
    in_parts (stores incoming at w on storable) = refl
    in_parts (grants on asked) = refl
    in_parts (forces on asked) = refl

    pub in_kept : InKept (block_judged card block of).stepped.card
    in_kept = in_parts (block_outcome card block of)

    in_left : {judged : BlockJudged} → InOutcome card block of judged → Stays judged.stepped
    unfolding block_refused block_good
    in_left (unreads n listed) = λ e. refl
    in_left (refuses incoming refusal fault on wrong_length_lem) = λ e. never e
    in_left (refuses incoming refusal fault on wrong_crc) = λ e. never e
    in_left (refuses incoming refusal fault on (past_end at w ends)) = λ e. never e
    in_left (refuses incoming refusal fault on protected) = λ e. never e
    in_left (refuses incoming refusal fault on failed) = λ e. never e
    in_left (stores incoming at w on storable) = λ e. never e
    in_left (grants on asked) = λ e. never e
    in_left (forces on asked) = λ e. never e

    pub in_stays : Stays (block_judged card block of).stepped
    in_stays = in_left (block_outcome card block of)

  -- ---- a block out: the registers and the lock are as they were
  abbrev pub OutKept : Card → Type 0
  OutKept next = next ≡ with_mode (with_link card next.link) next.mode

  module _ (of : Seen) (room : ℕ) where
    out_parts : {judged : OutJudged} → OutOutcome card judged → OutKept judged.stepped.card
    unfolding out_refused out_good
    out_parts (unsends n listed) = refl
    out_parts (past outgoing on) = refl
    out_parts (across outgoing on) = refl
    out_parts (sends outgoing next n sending on within) = refl

    pub out_kept : OutKept (out_judged card of room).stepped.card
    out_kept = out_parts (out_outcome card of room)

    out_left : {judged : OutJudged} → OutOutcome card judged → Stays judged.stepped
    unfolding out_refused out_good
    out_left (unsends n listed) = λ e. refl
    out_left (past outgoing on) = λ e. never e
    out_left (across outgoing on) = λ e. never e
    out_left (sends outgoing next n sending on within) = λ e. never e

    pub out_stays : Stays (out_judged card of room).stepped
    out_stays = out_left (out_outcome card of room)

-- ---- power-on: the registers and the password are as they were
pub powered_parts : (card : Card)
    → with_mode (with_link (with_lock card (powered_on card).lock) (powered_on card).link) (powered_on card).mode ≡ powered_on card
unfolding powered_on
powered_parts card = refl

pub powered_password : (numbers cid csd password : List ℕ) → (powered_on (card_of numbers cid csd password)).lock.password ≡ password
unfolding powered_on powered_of card_of lock_of
powered_password numbers cid csd password = refl

-- ---- work done alters the state's number alone
abbrev Rests : State → Type 0
Rests state = state ≡ worked_state state

rests : (number at : ℕ) → eqb number 11 ≡ false → eqb number 12 ≡ false → Rests (state_of number at)
unfolding state_of
rests number at not_prg not_dis =
    picked Rests (eqb number 0) (λ t. refl)
    (λ t.
    picked Rests (eqb number 1) (λ t. refl)
    (λ t.
    picked Rests (eqb number 2) (λ t. refl)
    (λ t.
    picked Rests (eqb number 3) (λ t. refl)
    (λ t.
    picked Rests (eqb number 4) (λ t. refl)
    (λ t.
    picked Rests (eqb number 5) (λ t. refl)
    (λ t.
    picked Rests (eqb number 6) (λ t. refl)
    (λ t.
    picked Rests (eqb number 7) (λ t. refl)
    (λ t.
    picked Rests (eqb number 8) (λ t. refl)
    (λ t.
    picked Rests (eqb number 9) (λ t. refl)
    (λ t.
    picked Rests (eqb number 10) (λ t. refl)
    (λ t.
    picked Rests (eqb number 11) (λ t. opposite (eqb number 11) t not_prg)
    (λ t.
    picked Rests (eqb number 12) (λ t. opposite (eqb number 12) t not_dis)
    (λ t. picked Rests (eqb number 14) (λ t. refl) (λ t. picked Rests (eqb number 15) (λ t. refl) (λ t. refl)))))))))))))))

at_prg : (at : ℕ) → state_of 4 at ≡ worked_state (state_of 11 at)
unfolding state_of
at_prg at = refl

at_dis : (at : ℕ) → state_of 3 at ≡ worked_state (state_of 12 at)
unfolding state_of
at_dis at = refl

worked_state_lem : (number at : ℕ) → state_of (worked_number number) at ≡ worked_state (state_of number at)
worked_state_lem number at =
    cases (eqb number 11)
    (λ t. subst (λ (n : ℕ). state_of (worked_number n) at ≡ worked_state (state_of n at)) (sym (eqb-true number 11 t)) (at_prg at))
    (λ t.
    cases (eqb number 12)
    (λ u. subst (λ (n : ℕ). state_of (worked_number n) at ≡ worked_state (state_of n at)) (sym (eqb-true number 12 u)) (at_dis at))
    (λ u. simp (t, u) (rests number at t u)))

pub worked_told : (numbers cid csd password : List ℕ)
    → card_of (set numbers 0 (worked_number (get_or numbers 0 0))) cid csd password ≡ worked (card_of numbers cid csd password)
unfolding worked card_of link_of mode_of lock_of registers_of state_of
worked_told [] cid csd password = refl
worked_told (number ∷ rest) cid csd password = simp (worked_state_lem number (get_or rest 0 0))
