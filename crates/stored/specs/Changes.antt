-- Document 01, "Reading, writing, erasing, locking": why a byte of the lent memory, or an entry of the lent map, may change in one step. Document
-- 02, request 1: "Reads, writes, erase, protection and lock are shared and proved once for both modes".
-- Assumes nothing.
use Rattle.std.specs.Prelude.{◌≡◌, Bool, true, false, List, ◌⊎◌, ℕ, ◌/◌, get_or, Ok, None}
use Rattle.base.specs.Sizes.{sector_size, protection_group_size}
use Rattle.card_blocks.specs.BlockIn.{block_judged}
use Rattle.card_blocks.specs.Framing.{unstarted}
use Rattle.card.specs.Frame.{frame_judged}
use Rattle.card.specs.Step.{step_of, lent_after}
use Rattle.card.specs.declared.Call.{Call}
use Rattle.card.specs.declared.Call.TheVariants.{Frame, BlockIn}
use Rattle.card_blocks.specs.declared.Storing.TheVariants.{All}
use Rattle.command.specs.declared.Change.TheVariants.{Protect, Erase}
use Rattle.card_record.specs.Record.{csd_protects}
use Rattle.card_record.specs.declared.Card.{Card}
use Rattle.made.specs.Heard.{HeardAs}
use Rattle.states.specs.declared.Incoming.TheVariants.{One, Many, LockRequest}
use Rattle.states.specs.declared.State.TheVariants.{Rcv}
use Rattle.store.specs.Lent.{Lent, Seen}
use Rattle.store.specs.Map.{protected_in}
use Rattle.tags.specs.Tags.{tagged_of}
use Rattle.wire.specs.Blocks.{payload_of}

-- "the rcv state says whether it awaits one block, many .., and from which address"
abbrev pub AwaitsWrite : Card → ℕ → Type 0
AwaitsWrite card at = (card.link.state ≡ Rcv (One at)) ⊎ (card.link.state ≡ Rcv (Many at))

-- a protected byte: "CSD bit 13 (permanent) or 12 (temporary) protects the whole card", and "The map has one byte per protection group"
abbrev pub ProtectedByte : Card → Lent → ℕ → Type 0
ProtectedByte card lent p = protected_in lent.map (csd_protects card.registers.csd) (p / sector_size) ≡ true

-- a byte of the memory, and an entry of the map, that a call changes
abbrev pub ByteChanges : Card → Call → List ℕ → Lent → ℕ → Type 0
ByteChanges card call input lent p = get_or (lent_after card call input lent).memory p 0 ≡ get_or lent.memory p 0 → ⊥

abbrev pub EntryChanges : Card → Call → List ℕ → Lent → ℕ → Type 0
EntryChanges card call input lent group = get_or (lent_after card call input lent).map group 0 ≡ get_or lent.map group 0 → ⊥

-- the payload of a block in: in SPI it stands behind the start byte
abbrev pub payload_at : Card → List ℕ → List ℕ
payload_at card block = payload_of (unstarted card.mode.spi block)

-- one call at a card: its record, the call, the input, and what it sees of what is lent
module _ (card : Card) (call : Call) (input : List ℕ) (seen : Seen) where
  -- "A good block is stored": the card awaited a write from this address on, and the block in was carried out
  pub record GrantedWrite (at : ℕ) : Type 0 where
    pub called : call ≡ BlockIn
    pub awaited : AwaitsWrite card at
    pub granted : (room : ℕ) → (step_of card call input seen room).reply.outcome ≡ Ok None

  -- "CMD38 .. fills every tagged sector outside protection": CMD38, taken without an error, and the sector is one that it fills
  pub record ErasedByTag (sector : ℕ) : Type 0 where
    pub wins : Bool
    pub selected : Bool
    pub called : call ≡ Frame wins selected
    pub argument : ℕ
    pub command : HeardAs card selected input 38 argument
    pub taken : (frame_judged card wins selected input seen).change ≡ Erase
    pub tagged : tagged_of card.link.tags sector ≡ true
    pub unprotected : protected_in seen.map (csd_protects card.registers.csd) sector ≡ false

  -- "Forced erase .. fills memory, clears the map": a lock request was awaited, its byte 0 was 8, and the block in was granted as one
  pub record ForcedErase : Type 0 where
    pub called : call ≡ BlockIn
    pub awaited : card.link.state ≡ Rcv LockRequest
    pub forced : get_or (payload_at card input) 0 0 ≡ 8
    pub granted : (block_judged card input seen).storing ≡ All

  -- why a byte of a sector may change
  pub data Cause (sector : ℕ) : Type 0 where
    written : (at : ℕ) → GrantedWrite at → sector ≡ at / sector_size → Cause sector
    erased : ErasedByTag sector → Cause sector
    forced : ForcedErase → Cause sector

  -- a command, taken without an error, that sets a group or clears it
  abbrev pub SetBy : Bool → Bool → ℕ → Bool → ℕ → ℕ → Type 0
  SetBy wins selected index on argument group =
      HeardAs card selected input index argument × ((frame_judged card wins selected input seen).change ≡ Protect group on)

  -- "CMD28, 29: set, clear the addressed group": CMD28 sets and CMD29 clears, at an address in the group
  pub record ProtectionSet (group : ℕ) : Type 0 where
    pub wins : Bool
    pub selected : Bool
    pub called : call ≡ Frame wins selected
    pub argument : ℕ
    pub addressed : group ≡ argument / protection_group_size
    pub taken : SetBy wins selected 28 true argument group ⊎ SetBy wins selected 29 false argument group

  -- why a group's entry of the map may change
  pub data MapCause (group : ℕ) : Type 0 where
    set : ProtectionSet group → MapCause group
    forced : ForcedErase → MapCause group
