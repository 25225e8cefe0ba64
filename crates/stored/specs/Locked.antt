-- Document 01, "How a card takes a frame" and "Reading, writing, erasing, locking", and document 02, request 4, "Check 5 reads from now on: class 0,
-- CMD16 and CMD42": what a locked card lets happen, in MMC mode and in SPI.
-- Assumes nothing.
use Rattle.std.specs.Prelude.{◌≡◌, Bool, true, List, ℕ, ◌≤◌, length, get_or, Ok, None}
use Rattle.card.specs.Step.{step_of, lent_after}
use Rattle.card.specs.declared.Call.{Call}
use Rattle.card.specs.declared.Call.TheVariants.{Frame, BlockIn, PowerOn}
use Rattle.lock.specs.Passwords.{stored}
use Rattle.lock.specs.Requests.{password_in}
use Rattle.card_record.specs.declared.Card.{Card}
use Rattle.states.specs.declared.Incoming.TheVariants.{LockRequest}
use Rattle.states.specs.declared.State.TheVariants.{Rcv}
use Rattle.store.specs.Lent.{Lent, Seen, seen}
use Rattle.stored.specs.Changes.{AwaitsWrite, payload_at, ForcedErase}

-- a locked card that awaits no write: "class 0, CMD16 and CMD42" go on there, none of which makes it await one
pub record LockedCard (card : Card) : Type 0 where
  pub locked : card.lock.locked ≡ true
  pub no_write : (at : ℕ) → AwaitsWrite card at → ⊥

-- "Clear, lock and unlock need the stored non-empty password": a block in that was granted as an unlock, byte 0 being 0, with exactly that password
pub record UnlockGranted (card : Card) (call : Call) (input : List ℕ) (seen : Seen) : Type 0 where
  pub called : call ≡ BlockIn
  pub awaited : card.link.state ≡ Rcv LockRequest
  pub unlock : get_or (payload_at card input) 0 0 ≡ 0
  pub some : 1 ≤ length (stored card.lock)
  pub password : password_in (payload_at card input) ≡ stored card.lock
  pub granted : (room : ℕ) → (step_of card call input seen room).reply.outcome ≡ Ok None

-- why a locked card may be unlocked afterwards: "Power-on: .. locked exactly if a password is stored"; "A locked card grants only 0 and 8"
pub data Unlocking (card : Card) (call : Call) (input : List ℕ) (seen : Seen) : Type 0 where
  none_stored : call ≡ PowerOn → length (stored card.lock) ≡ 0 → Unlocking card call input seen
  forced : ForcedErase card call input seen → Unlocking card call input seen
  unlocked : UnlockGranted card call input seen → Unlocking card call input seen

-- "others answer R1 with bit 24, no move", others than class 0, CMD16 and CMD42: a frame leaves state, address, block length and mode as they were,
-- and every byte that is lent
pub record Unmoved (card : Card) (wins selected : Bool) (frame : List ℕ) (lent : Lent) (room : ℕ) : Type 0 where
  pub state : (step_of card (Frame wins selected) frame (seen lent) room).card.link.state ≡ card.link.state
  pub address : (step_of card (Frame wins selected) frame (seen lent) room).card.link.address ≡ card.link.address
  pub length_kept : (step_of card (Frame wins selected) frame (seen lent) room).card.link.length ≡ card.link.length
  pub mode_kept : (step_of card (Frame wins selected) frame (seen lent) room).card.mode ≡ card.mode
  pub lent_kept : lent_after card (Frame wins selected) frame lent ≡ lent
