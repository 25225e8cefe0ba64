-- What can become of a block in and a block out at a card: every kind in one list each, with what is known there. What is to be shown of
-- every call is then shown by cases on the list.
--   InOutcome, block_outcome      a block in: not looked at; refused; stored; a lock request granted; a forced erase granted
--   OutOutcome, out_outcome       a block out: not sent; refused with an error bit; sent, a part of memory, the protection bits or a register
--   WritesAt, only                awaited work that is a write from an address on: it is one address
-- Assumes nothing.
use mathlib.Core.Path.{◌≡◌, refl, sym, ap}
use mathlib.Core.Bool.{true, false, not}
use mathlib.Core.List.{List, [], ◌∷◌}
use Prim.Native.Nat.{ℕ, ◌+◌, ◌*◌, ◌/◌, ◌≤◌, ◌<◌}
use native.Mathlib.Omega.{arith}
use borrow.Author.Tests.{leb-true, ltb-true, ltb-false, eqb-true, not-true}
use lib.Dec.{eqb, leb, ltb}
use lib.ListN.{length}
use Rattle.base.proofs.Cases.{guarded, clash}
use Rattle.base.specs.Refusals.{refusal_of, by}
use Rattle.base.specs.declared.Refusal.{Refusal}
use Rattle.lock.specs.Requests.{request_of}
use Rattle.lock.specs.declared.Answer.{Answer}
use Rattle.lock.specs.declared.Answer.TheVariants.{Granted, Erased, Failed}
use Rattle.lock.specs.declared.Requested.{Requested}
use Rattle.moves.specs.Indices.{among}
use Rattle.card_record.specs.Record.{size_of, csd_protects, length_read, crosses, with_lock}
use Rattle.card_record.specs.declared.Card.{Card}
use Rattle.states.specs.declared.Incoming.{Incoming}
use Rattle.states.specs.declared.Incoming.TheVariants.{One, Many, LockRequest}
use Rattle.states.specs.declared.Outgoing.{Outgoing}
use Rattle.states.specs.declared.Outgoing.TheVariants.{One as OneOut, Many as ManyOut, Protection, Csd as CsdOut, Cid as CidOut}
use Rattle.states.specs.declared.State.{State}
use Rattle.states.specs.declared.State.TheVariants.{Idle, Ready, Ident, Stby, Tran, Data, Rcv, Prg, Dis, Ina}
use Rattle.status.specs.ErrorBits.{error_bit}
use Rattle.store.proofs.OnceLent.{once_lent_lem}
use Rattle.store.specs.Lent.{Seen, lending_of}
use Rattle.store.specs.Map.{protected_in}
use Rattle.wire.specs.Blocks.{payload_of}
use Rattle.card_blocks.specs.BlockIn.{awaited_length, after_stored, block_refused, block_good, write_judged, lock_judged, request_judged, carried_out, checked_judged, awaited_judged, unread, state_judged, block_judged}
use Rattle.card_blocks.specs.BlockOut.{unsent, out_refused, out_good, after_sent, part_judged, bytes_judged, outgoing_judged, state_sends, out_judged}
use Rattle.card_blocks.specs.Framing.{beside, started, unstarted, crc_right}
use Rattle.card_blocks.specs.declared.BlockJudged.{BlockJudged}
use Rattle.card_blocks.specs.declared.OutJudged.{OutJudged}
use Rattle.card_blocks.specs.declared.Sending.{Sending}
use Rattle.card_blocks.specs.declared.Sending.TheVariants.{Part, Protection as Bits, Csd, Cid}
use Rattle.card_blocks.specs.declared.Storing.TheVariants.{Nothing, Sector, All}
use Rattle.std.specs.Prelude.{Option, Ok, Some, None}
use Rattle.status.specs.declared.ErrorBit.{ErrorBit}

-- awaited work that is a write from an address on
pub data WritesAt : Incoming → ℕ → Type 0 where
  one : (at : ℕ) → WritesAt (One at) at
  many : (at : ℕ) → WritesAt (Many at) at

pub only : {i j : Incoming} {a b : ℕ} → WritesAt i a → WritesAt j b → i ≡ j → a ≡ b
only (one a) (one b) e = cc
only (one a) (many b) e = clash cc
only (many a) (one b) e = clash cc
only (many a) (many b) e = cc

-- the sectors of a card's memory
abbrev pub sectors : Card → ℕ
sectors card = size_of card.registers.groups / 512

-- the answer to the lock request that a block carries, in SPI behind its start byte
abbrev pub asked_of : Card → List ℕ → Requested
asked_of card block = request_of card.lock (payload_of (unstarted card.mode.spi block)) (csd_protects card.registers.csd)

-- ---- the lists
-- an awaited block is refused: 16, 17, 18, 19, 20
pub data Refuses (card : Card) (incoming : Incoming) : Refusal → Option ErrorBit → Type 0 where
  wrong_length_lem : Refuses card incoming (by 16) (Some (error_bit 29))
  wrong_crc : Refuses card incoming (by 17) None
  past_end : (at : ℕ) → WritesAt incoming at → sectors card ≤ at / 512 → Refuses card incoming (by 18) (Some (error_bit 31))
  protected : Refuses card incoming (by 19) (Some (error_bit 26))
  failed : Refuses card incoming (by 20) (Some (error_bit 24))

-- a block is stored: 12, 16, 18 and 19 did not stop it
pub record Storable (card : Card) (block : List ℕ) (seen : Seen) (sector : ℕ) : Type 0 where
  pub lent : lending_of seen card.registers.groups ≡ Ok tt
  pub long : length block ≡ 512 + beside card.mode.spi
  pub in_range : sector < sectors card
  pub free : protected_in seen.map (csd_protects card.registers.csd) sector ≡ false

-- a block in: 12, 15; an awaited block refused; a sector stored; a lock request granted, a forced erase or another
pub data InOutcome (card : Card) (block : List ℕ) (seen : Seen) : BlockJudged → Type 0 where
  unreads : (n : ℕ) → among n (12 ∷ 15 ∷ []) ≡ true → InOutcome card block seen (unread card (refusal_of n))
  refuses : (incoming : Incoming) (refusal : Refusal) (fault : Option ErrorBit) → card.link.state ≡ Rcv incoming → Refuses card incoming refusal fault
      → InOutcome card block seen (block_refused card incoming refusal fault)
  stores : (incoming : Incoming) (at : ℕ) → WritesAt incoming at → card.link.state ≡ Rcv incoming → Storable card block seen (at / 512)
      → InOutcome card block seen (block_good card (after_stored incoming (at / 512 * 512 + 512)) (Sector (at / 512)))
  grants : card.link.state ≡ Rcv LockRequest → (asked_of card block).answer ≡ Granted
      → InOutcome card block seen (block_good (with_lock card (asked_of card block).lock) Prg Nothing)
  forces : card.link.state ≡ Rcv LockRequest → (asked_of card block).answer ≡ Erased
      → InOutcome card block seen (block_good (with_lock card (asked_of card block).lock) Prg All)

-- a block out: 12, 15, 6; 18 with bit 31 and 21 with bit 30; a block sent, with the address behind it in the memory
pub data OutOutcome (card : Card) : OutJudged → Type 0 where
  unsends : (n : ℕ) → among n (12 ∷ 15 ∷ 6 ∷ []) ≡ true → OutOutcome card (unsent card (refusal_of n))
  past : (outgoing : Outgoing) → card.link.state ≡ Data outgoing → OutOutcome card (out_refused card (by 18) (error_bit 31))
  across : (outgoing : Outgoing) → card.link.state ≡ Data outgoing → OutOutcome card (out_refused card (by 21) (error_bit 30))
  sends : (outgoing : Outgoing) (next n : ℕ) (sending : Sending) → card.link.state ≡ Data outgoing → next ≤ size_of card.registers.groups
      → OutOutcome card (out_good card (after_sent outgoing next) n sending)

-- ---- a block in
module _ (card : Card) (block : List ℕ) (seen : Seen) where
  abbrev In : BlockJudged → Type 0
  In = InOutcome card block seen

  request_outcome : card.link.state ≡ Rcv LockRequest → (answer : Answer) → (asked_of card block).answer ≡ answer
      → In (lock_judged card (asked_of card block).lock answer)
  request_outcome on Granted e = grants on e
  request_outcome on Erased e = forces on e
  request_outcome on Failed e = refuses LockRequest (by 20) (Some (error_bit 24)) on failed

  module _ (lent : lending_of seen card.registers.groups ≡ Ok tt) where
    write_outcome : (incoming : Incoming) (at : ℕ) → WritesAt incoming at → card.link.state ≡ Rcv incoming → length block ≡ 512 + beside card.mode.spi
        → In (write_judged card incoming (at / 512) seen.map)
    unfolding write_judged
    write_outcome incoming at w on long =
        guarded In (ltb (at / 512) (sectors card))
        (λ t. refuses incoming (by 18) (Some (error_bit 31)) on (past_end at w (ltb-false (at / 512) (sectors card) t)))
        (λ t.
        guarded In (not (protected_in seen.map (csd_protects card.registers.csd) (at / 512)))
        (λ u. refuses incoming (by 19) (Some (error_bit 26)) on protected)
        (λ u. stores incoming at w on (record { lent = lent; long = long; in_range = ltb-true (at / 512) (sectors card) t; free = not-true _ u })))

    carried_outcome : (incoming : Incoming) → card.link.state ≡ Rcv incoming → length block ≡ awaited_length card incoming + beside card.mode.spi
        → In (carried_out card incoming (payload_of (unstarted card.mode.spi block)) seen.map)
    unfolding request_judged
    carried_outcome (One at) on long = write_outcome (One at) at (one at) on long
    carried_outcome (Many at) on long = write_outcome (Many at) at (many at) on long
    carried_outcome LockRequest on long = request_outcome on (asked_of card block).answer refl

    awaited_outcome : (incoming : Incoming) → card.link.state ≡ Rcv incoming → In (awaited_judged card incoming block seen.map)
    unfolding awaited_judged checked_judged
    awaited_outcome incoming on =
        guarded In (eqb (length block) (awaited_length card incoming + beside card.mode.spi))
        (λ t. refuses incoming (by 16) (Some (error_bit 29)) on wrong_length_lem)
        (λ t.
        guarded In (started card.mode.spi block) (λ u. refuses incoming (by 16) (Some (error_bit 29)) on wrong_length_lem)
        (λ u.
        guarded In (crc_right card.mode (unstarted card.mode.spi block)) (λ v. refuses incoming (by 17) None on wrong_crc)
        (λ v. carried_outcome incoming on (eqb-true (length block) (awaited_length card incoming + beside card.mode.spi) t))))

    in_state_lem : (state : State) → card.link.state ≡ state → In (state_judged card state block seen.map)
    in_state_lem Idle on = unreads 15 refl
    in_state_lem Ready on = unreads 15 refl
    in_state_lem Ident on = unreads 15 refl
    in_state_lem Stby on = unreads 15 refl
    in_state_lem Tran on = unreads 15 refl
    in_state_lem (Data outgoing) on = unreads 15 refl
    in_state_lem (Rcv incoming) on = awaited_outcome incoming on
    in_state_lem Prg on = unreads 15 refl
    in_state_lem Dis on = unreads 15 refl
    in_state_lem Ina on = unreads 15 refl

  pub block_outcome : InOutcome card block seen (block_judged card block seen)
  unfolding block_judged
  block_outcome = once_lent_lem seen card.registers.groups In (unread card) (unreads 12 refl) (λ t. in_state_lem t card.link.state refl)

-- ---- a block out
module _ (card : Card) where
  abbrev Out : OutJudged → Type 0
  Out = OutOutcome card

  part_outcome : (outgoing : Outgoing) (at n room : ℕ) → card.link.state ≡ Data outgoing → Out (part_judged card outgoing at n room)
  unfolding part_judged
  part_outcome outgoing at n room on =
      guarded Out (leb (n + beside card.mode.spi) room) (λ t. unsends 6 refl)
      (λ t.
      guarded Out (leb (at + n) (size_of card.registers.groups)) (λ u. past outgoing on)
      (λ u.
      guarded Out (not (crosses at n)) (λ v. across outgoing on)
      (λ v. sends outgoing (at + n) n (Part at n) on (leb-true (at + n) (size_of card.registers.groups) u))))

  bytes_outcome : (outgoing : Outgoing) (n : ℕ) (sending : Sending) (room : ℕ) → card.link.state ≡ Data outgoing → after_sent outgoing 0 ≡ Tran
      → Out (bytes_judged card n sending room)
  unfolding bytes_judged
  bytes_outcome outgoing n sending room on e =
      guarded Out (leb (n + beside card.mode.spi) room) (λ t. unsends 6 refl)
      (λ t. rw (sym (ap (λ (state : State). out_good card state n sending) e)) (sends outgoing 0 n sending on (omega arith)))

  outgoing_outcome : (outgoing : Outgoing) (room : ℕ) → card.link.state ≡ Data outgoing → Out (outgoing_judged card outgoing room)
  outgoing_outcome (OneOut at) room on = part_outcome (OneOut at) at (length_read card.link.length) room on
  outgoing_outcome (ManyOut at) room on = part_outcome (ManyOut at) at (length_read card.link.length) room on
  outgoing_outcome (Protection group) room on = bytes_outcome (Protection group) 4 (Bits group) room on refl
  outgoing_outcome CsdOut room on = bytes_outcome CsdOut 16 Csd room on refl
  outgoing_outcome CidOut room on = bytes_outcome CidOut 16 Cid room on refl

  out_state : (state : State) (room : ℕ) → card.link.state ≡ state → Out (state_sends card state room)
  out_state Idle room on = unsends 15 refl
  out_state Ready room on = unsends 15 refl
  out_state Ident room on = unsends 15 refl
  out_state Stby room on = unsends 15 refl
  out_state Tran room on = unsends 15 refl
  out_state (Data outgoing) room on = outgoing_outcome outgoing room on
  out_state (Rcv incoming) room on = unsends 15 refl
  out_state Prg room on = unsends 15 refl
  out_state Dis room on = unsends 15 refl
  out_state Ina room on = unsends 15 refl

  pub out_outcome : (seen : Seen) (room : ℕ) → OutOutcome card (out_judged card seen room)
  unfolding out_judged
  out_outcome seen room = once_lent_lem seen card.registers.groups Out (unsent card) (unsends 12 refl) (λ t. out_state card.link.state room refl)
