-- The theorems of this crate for made cards: what they suppose of a card holds of every card that was made.
--   work                     what a made card in rcv awaits
--   made_locked              a made card that is locked awaits no write
--   made_awaiting            one that awaits a write is unlocked, and awaits it at an aligned address of 32 bits
--   made_read_back, made_read_back_many    a block that a made card stored for CMD24, in either mode, or for CMD25, in MMC mode, is read back
--   made_locked_keeps        what is lent to a made locked card changes only by a granted forced erase
--   made_unlocks_only        it is unlocked only by a granted forced erase or by an unlock with exactly the stored password: it has one, so
--                            never by power-on
-- Assumes nothing.
use mathlib.Core.Path.{◌≡◌, subst}
use mathlib.Core.Bool.{Bool, true, false}
use mathlib.Core.List.{List}
use mathlib.Core.Logic.{◌⊎◌, inl, inr}
use Prim.Native.Nat.{ℕ, ◌≤◌}
use native.Mathlib.Omega.{arith}
use lib.ListN.{length}
use Rattle.base.proofs.Cases.{opposite}
use Rattle.card.specs.Step.{step_of}
use Rattle.card.specs.declared.Call.{Call}
use Rattle.lock.proofs.Stored.{stored_length}
use Rattle.made.specs.Made.{Waits, Awaits, Made}
use Rattle.made.specs.Run.{World, outcome_of}
use Rattle.card_record.specs.Record.{size_of}
use Rattle.card_record.specs.declared.Card.{Card}
use Rattle.states.specs.declared.Incoming.{Incoming}
use Rattle.states.specs.declared.Incoming.TheVariants.{One, Many}
use Rattle.states.specs.declared.State.TheVariants.{Rcv}
use Rattle.store.proofs.Sectors.{allowed_size}
use Rattle.store.specs.Lent.{Lent, Seen, seen}
use Rattle.stored.specs.Changes.{AwaitsWrite, ByteChanges, EntryChanges, ForcedErase}
use Rattle.stored.specs.Locked.{LockedCard, UnlockGranted}
use Rattle.stored.specs.ReadBack.{block_in, stored_then_read, stored_stopped_then_read, framed_sector, Awaiting, ReadsBack}
use Rattle.stored.proofs.Locked.{locked_keeps, unlocks_by_request}
use Rattle.stored.proofs.ReadBack.{read_back, read_back_many}
use Rattle.std.specs.Prelude.{Ok, None}

module _ (card : Card) (made : Made card) where
  -- what a made card in rcv awaits
  pub work : (incoming : Incoming) → card.link.state ≡ Rcv incoming → Awaits card.registers.groups card.link.length card.lock.locked incoming
  work incoming on = subst (Waits card.registers.groups card.link.length card.lock.locked) on made.link.work

  -- "8,192 to 33,554,432 bytes"
  size_small : size_of card.registers.groups ≤ 33554432
  size_small = (allowed_size (size_of card.registers.groups) made.registers.size).1

  pub made_awaiting : (at : ℕ) → AwaitsWrite card at → Awaiting card at
  made_awaiting at (inl on) =
      let one = work (One at) on in record { unlocked = one.0; aligned = one.1.1.0; small = omega (arith, one.1.0, size_small) }
  made_awaiting at (inr on) =
      let many = work (Many at) on in record { unlocked = many.0; aligned = many.1.1.0; small = omega (arith, many.1.0, size_small) }

  module _ (locked : card.lock.locked ≡ true) where
    pub made_locked : LockedCard card
    made_locked = record { locked = locked; no_write = λ at awaits. opposite card.lock.locked locked (made_awaiting at awaits).unlocked }

    module _ (call : Call) (input : List ℕ) where
      pub made_locked_keeps : (lent : Lent) (p : ℕ)
          → (ByteChanges card call input lent p → ForcedErase card call input (seen lent))
          × (EntryChanges card call input lent p → ForcedErase card call input (seen lent))
      made_locked_keeps = locked_keeps card made_locked call input

      pub made_unlocks_only : (seen : Seen) (room : ℕ) → (step_of card call input seen room).card.lock.locked ≡ false
          → ForcedErase card call input seen ⊎ UnlockGranted card call input seen
      made_unlocks_only seen room =
          unlocks_by_request card call input seen room locked (omega (arith, made.lock.locked locked, stored_length card.lock made.lock.bytes))

module _ (w : World) (block : List ℕ) (at : ℕ) (made : Made w.card) (output : List ℕ) (granted : outcome_of w (block_in block) ≡ Ok None) where
  pub made_read_back : (spi : Bool) → w.card.mode.spi ≡ spi → framed_sector spi ≤ length output → w.card.link.state ≡ Rcv (One at)
      → ReadsBack spi block (stored_then_read spi w block at) output
  made_read_back spi here room on = read_back spi w block at here (made_awaiting w.card made at (inl on)) output room on granted

  pub made_read_back_many : w.card.mode.spi ≡ false → 514 ≤ length output → w.card.link.state ≡ Rcv (Many at)
      → ReadsBack false block (stored_stopped_then_read w block at) output
  made_read_back_many here room on = read_back_many w block at here (made_awaiting w.card made at (inr on)) output room on granted
