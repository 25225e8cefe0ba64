-- A block in and a block out keep a card made, by cases on what can become of them (crates/card_blocks/proofs/Outcomes.antt).
--   block_in_made, block_out_made
-- Assumes nothing.
use mathlib.Core.Path.{◌≡◌, refl, subst}
use mathlib.Core.Bool.{Bool, true}
use mathlib.Core.List.{List}
use Prim.Native.Nat.{ℕ, ◌+◌, ◌*◌, ◌/◌, ◌≤◌, ◌<◌}
use native.Mathlib.Omega.{arith}
use Rattle.base.proofs.Cases.{clash}
use Rattle.base.specs.declared.Refusal.{Refusal}
use Rattle.card_blocks.proofs.Outcomes.{Refuses, wrong_length_lem, wrong_crc, past_end, protected, failed, asked_of, InOutcome, unreads, refuses, stores, grants, forces, OutOutcome, unsends, past, across, sends, block_outcome, out_outcome}
use Rattle.card_blocks.specs.BlockIn.{after_refused, after_stored, with_fault, block_refused, block_good, block_judged}
use Rattle.card_blocks.specs.BlockOut.{out_refused, out_good, after_sent, out_judged}
use Rattle.card_blocks.specs.Framing.{unstarted}
use Rattle.card_blocks.specs.declared.BlockJudged.{BlockJudged}
use Rattle.card_blocks.specs.declared.OutJudged.{OutJudged}
use Rattle.lock.specs.declared.Lock.{Lock}
use Rattle.card_record.specs.Record.{size_of, csd_protects, with_state, with_errors, with_link, with_lock}
use Rattle.card_record.specs.declared.Card.{Card}
use Rattle.card_record.specs.declared.Link.{Link}
use Rattle.moves.specs.Moves.{in_state}
use Rattle.spi_moves.specs.Moves.{five}
use Rattle.states.specs.States.{column_of}
use Rattle.states.specs.declared.Incoming.{Incoming}
use Rattle.states.specs.declared.Incoming.TheVariants.{One, Many, LockRequest}
use Rattle.states.specs.declared.Outgoing.{Outgoing}
use Rattle.states.specs.declared.Outgoing.TheVariants.{One as OneOut, Many as ManyOut, Protection, Csd, Cid}
use Rattle.states.specs.declared.State.{State}
use Rattle.states.specs.declared.State.TheVariants.{Data, Rcv, Prg}
use Rattle.status.specs.ErrorBits.{error_bit}
use Rattle.status.specs.Status.{with_bit}
use Rattle.status.specs.declared.ErrorBit.{ErrorBit}
use Rattle.status.specs.declared.Errors.{Errors}
use Rattle.store.specs.Lent.{Seen}
use Rattle.tags.specs.Tagging.{any_of}
use Rattle.wire.specs.Blocks.{payload_of}
use Rattle.made.proofs.Locks.{request_made}
use Rattle.made.proofs.Pending.{set_either}
use Rattle.made.specs.Made.{Sends, Awaits, Waits, Pending, MadeLink, Made}
use Rattle.std.specs.Prelude.{Option}

-- a link without tags goes to another state, with another lock flag and other error bits
relinked : (spi : Bool) (groups : ℕ) (locked next : Bool) (link : Link) (state : State) (errors : Errors) → MadeLink spi groups locked link
    → (any_of link.tags ≡ true → ⊥) → Waits groups link.length next state → Pending spi errors
    → MadeLink spi groups next (with_errors (with_state link state) errors)
relinked spi groups locked next link state errors made untagged waits pending =
    record {
      address = made.address;
      block = made.block;
      tags = made.tags;
      tagged = λ e. absurd (untagged e);
      work = waits;
      errors = pending;
    }

module _ (groups length : ℕ) (locked : Bool) where
  -- what a refused block leaves to be awaited
  after_refused_lem : (incoming : Incoming) → Awaits groups length locked incoming → Waits groups length locked (after_refused incoming)
  after_refused_lem (One at) h = tt
  after_refused_lem (Many at) h = h
  after_refused_lem LockRequest h = tt

  -- what one that is stored leaves, at a sector of the memory
  after_stored_lem : (incoming : Incoming) (sector : ℕ) → Awaits groups length locked incoming → sector < size_of groups / 512
      → Waits groups length locked (after_stored incoming (sector * 512 + 512))
  after_stored_lem (One at) sector h within = tt
  after_stored_lem (Many at) sector h within = (h.0, (omega arith, (omega arith, h.1.1.1)))
  after_stored_lem LockRequest sector h within = tt

  -- and what one that is sent leaves, with the address behind it
  after_sent_lem : (outgoing : Outgoing) (next : ℕ) → Sends groups length locked outgoing → next ≤ size_of groups
      → Waits groups length locked (after_sent outgoing next)
  after_sent_lem (OneOut at) next h within = tt
  after_sent_lem (ManyOut at) next h within = (h.0, within)
  after_sent_lem (Protection group) next h within = tt
  after_sent_lem Csd next h within = tt
  after_sent_lem Cid next h within = tt

-- each is a state that a card in SPI is in
abbrev InFive : State → Type 0
InFive state = in_state (column_of state) five ≡ true

refused_five : (incoming : Incoming) → InFive (after_refused incoming)
refused_five (One at) = refl
refused_five (Many at) = refl
refused_five LockRequest = refl

stored_five : (incoming : Incoming) (next : ℕ) → InFive (after_stored incoming next)
stored_five (One at) next = refl
stored_five (Many at) next = refl
stored_five LockRequest next = refl

sent_five : (outgoing : Outgoing) (next : ℕ) → InFive (after_sent outgoing next)
sent_five (OneOut at) next = refl
sent_five (ManyOut at) next = refl
sent_five (Protection group) next = refl
sent_five Csd next = refl
sent_five Cid next = refl

refused_pending : (spi : Bool) (card : Card) (incoming : Incoming) {refusal : Refusal} {fault : Option ErrorBit} (errors : Errors)
    → Pending spi errors → Refuses card incoming refusal fault → Pending spi (with_fault errors fault)
refused_pending spi card incoming errors h wrong_length_lem = set_either spi errors (error_bit 29) refl refl h
refused_pending spi card incoming errors h wrong_crc = h
refused_pending spi card incoming errors h (past_end at w outside) = set_either spi errors (error_bit 31) refl refl h
refused_pending spi card incoming errors h protected = set_either spi errors (error_bit 26) refl refl h
refused_pending spi card incoming errors h failed = set_either spi errors (error_bit 24) refl refl h

module _ (card : Card) (made : Made card) where
  abbrev here : State → Type 0
  here state = Waits card.registers.groups card.link.length card.lock.locked state

  -- there are tags in tran alone
  rcv_untagged : (incoming : Incoming) → card.link.state ≡ Rcv incoming → any_of card.link.tags ≡ true → ⊥
  rcv_untagged incoming on t = let tran = (made.link.tagged t).0 in clash cc

  data_untagged : (outgoing : Outgoing) → card.link.state ≡ Data outgoing → any_of card.link.tags ≡ true → ⊥
  data_untagged outgoing on t = let tran = (made.link.tagged t).0 in clash cc

  -- the card with another link, and with another password record
  with_link_lem : (state : State) (errors : Errors) → (any_of card.link.tags ≡ true → ⊥) → here state → Pending card.mode.spi errors
      → (card.mode.spi ≡ true → InFive state) → Made (with_link card (with_errors (with_state card.link state) errors))
  with_link_lem state errors untagged waits pending reached =
      record {
        registers = made.registers;
        lock = made.lock;
        link = relinked card.mode.spi card.registers.groups card.lock.locked card.lock.locked card.link state errors made.link untagged waits pending;
        mode = record { checks = made.mode.checks; reached = reached };
      }

  with_lock_lem : (block : List ℕ) → card.link.state ≡ Rcv LockRequest → Made (with_link (with_lock card (asked_of card block).lock) (with_state card.link Prg))
  with_lock_lem block on =
      let lock : Lock = (asked_of card block).lock in
      record {
        registers = made.registers;
        lock = request_made card.lock made.lock (payload_of (unstarted card.mode.spi block)) (csd_protects card.registers.csd);
        link = relinked card.mode.spi card.registers.groups card.lock.locked lock.locked card.link Prg card.link.errors made.link (rcv_untagged LockRequest on) tt made.link.errors;
        mode = record { checks = made.mode.checks; reached = λ s. refl };
      }

  -- ---- a block in
  module _ (block : List ℕ) (seen : Seen) where
    in_kept : {judged : BlockJudged} → InOutcome card block seen judged → Made judged.stepped.card
    unfolding block_refused block_good
    in_kept (unreads n listed) = made
    in_kept (refuses incoming refusal fault on refused) =
        with_link_lem (after_refused incoming) (with_fault card.link.errors fault) (rcv_untagged incoming on)
        (after_refused_lem card.registers.groups card.link.length card.lock.locked incoming (subst here on made.link.work))
        (refused_pending card.mode.spi card incoming card.link.errors made.link.errors refused)
        (λ s. refused_five incoming)
    in_kept (stores incoming at w on right) =
        with_link_lem (after_stored incoming (at / 512 * 512 + 512)) card.link.errors (rcv_untagged incoming on)
        (after_stored_lem card.registers.groups card.link.length card.lock.locked incoming (at / 512) (subst here on made.link.work) right.in_range)
        made.link.errors
        (λ s. stored_five incoming (at / 512 * 512 + 512))
    in_kept (grants on granted) = with_lock_lem block on
    in_kept (forces on erased) = with_lock_lem block on

    pub block_in_made : Made (block_judged card block seen).stepped.card
    block_in_made = in_kept (block_outcome card block seen)

  -- ---- a block out
  unsent_kept : (bit : ErrorBit) (outgoing : Outgoing) → card.link.state ≡ Data outgoing → Pending card.mode.spi (with_bit card.link.errors bit)
      → Made (with_link card (with_errors card.link (with_bit card.link.errors bit)))
  unsent_kept bit outgoing on pending = with_link_lem card.link.state (with_bit card.link.errors bit) (data_untagged outgoing on) made.link.work pending made.mode.reached

  out_kept : {judged : OutJudged} → OutOutcome card judged → Made judged.stepped.card
  unfolding out_refused out_good
  out_kept (unsends n listed) = made
  out_kept (past outgoing on) = unsent_kept (error_bit 31) outgoing on (set_either card.mode.spi card.link.errors (error_bit 31) refl refl made.link.errors)
  out_kept (across outgoing on) = unsent_kept (error_bit 30) outgoing on (set_either card.mode.spi card.link.errors (error_bit 30) refl refl made.link.errors)
  out_kept (sends outgoing next n sending on within) =
      with_link_lem (after_sent outgoing next) card.link.errors (data_untagged outgoing on)
      (after_sent_lem card.registers.groups card.link.length card.lock.locked outgoing next (subst here on made.link.work) within)
      made.link.errors
      (λ s. sent_five outgoing next)

  pub block_out_made : (seen : Seen) (room : ℕ) → Made (out_judged card seen room).stepped.card
  block_out_made seen room = out_kept (out_outcome card seen room)
