-- Document 02, request 2: "Power-on and CMD0 now leave 2,048 where 01 says 512. Every caller that wrote straight after a reset must now send CMD16
-- first: CMD24 and 25 answer bit 29 until then."
-- Assumes nothing.
use Rattle.std.specs.Prelude.{◌≡◌, Bool, true, false, List, [], ◌∷◌, ℕ, Ok}
use Rattle.base.specs.Sizes.{sector_size}
use Rattle.card.specs.declared.Call.TheVariants.{Frame, PowerOn}
use Rattle.card_record.specs.declared.Card.{Card}
use Rattle.command.specs.Command.{met_by, command_of}
use Rattle.demands.specs.Faulted.{Faulted}
use Rattle.demands.specs.InSpi.{FaultedInSpi}
use Rattle.demands.specs.Silenced.{Reads}
use Rattle.made.specs.BlockLength.{Sets}
use Rattle.made.specs.Made.{Made}
use Rattle.made.specs.Run.{World, Input, given, next, made_lent, begun}
use Rattle.moves.specs.Indices.{among}
use Rattle.states.specs.declared.State.TheVariants.{Tran, Ina}
use Rattle.status.specs.ErrorBits.{error_bit}
use Rattle.store.specs.Lent.{Lent}
use Rattle.stored.specs.Changes.{AwaitsWrite}

-- a card straight after a reset: one that was made, one that was powered on, and one that took CMD0, "legal .. in every state but Inactive"; in SPI
-- "a frame with the line high is ignored"
pub data AfterReset : World → Type 0 where
  made : (cid csd : List ℕ) (ocr : ℕ) (password : List ℕ) (lent : Lent) → (made_lent cid csd ocr password lent).making ≡ Ok tt
      → AfterReset (begun cid csd ocr password lent)
  powered : (world : World) (bytes : List ℕ) → Made world.card → AfterReset (next world (given PowerOn bytes))
  idled : (world : World) (wins selected : Bool) (frame : List ℕ) (argument : ℕ) → Made world.card → Reads world.card frame world.lent 0 argument
      → (world.card.link.state ≡ Ina → ⊥) → (world.card.mode.spi ≡ true → selected ≡ true)
      → AfterReset (next world (given (Frame wins selected) frame))

-- calls at a card, one after the other, none of which is a CMD16 of 512 that it takes
abbrev pub Unset : World → List Input → Type 0
Unset world [] = Unit {0}
Unset world (input ∷ inputs) = (Sets world.card input sector_size → ⊥) × Unset (next world input) inputs

-- a card that no block can be written to: its block length is not 512, it awaits no write, and in tran, unlocked, CMD24 and CMD25 "answer bit 29",
-- whatever they address, and stay: so MMC mode takes them (`command_of`), and SPI takes CMD24 so. (CMD25 is illegal in SPI)
pub record Unwritable (card : Card) : Type 0 where
  pub unset : card.link.length ≡ sector_size → ⊥
  pub no_write : (at : ℕ) → AwaitsWrite card at → ⊥
  pub answers : (wins : Bool) (index argument : ℕ) → among index (24 ∷ 25 ∷ []) ≡ true → card.link.state ≡ Tran → card.lock.locked ≡ false
      → Faulted card.link (met_by card wins) index argument (error_bit 29) (command_of card.link (met_by card wins) index argument)
  pub answers_in_spi : (wins : Bool) (argument : ℕ) → card.mode.spi ≡ true → card.link.state ≡ Tran → card.lock.locked ≡ false
      → FaultedInSpi card wins 24 argument (error_bit 29)
