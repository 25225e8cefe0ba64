-- What sets a card's block length. Document 01: "CMD16: length 1 to 2,048". Document 02, request 2: "Power-on and CMD0 now leave 2,048 where 01
-- says 512". Request 4: a locked card takes CMD16 too.
-- Assumes nothing.
use Rattle.std.specs.Prelude.{◌≡◌, Bool, ℕ, ◌≤◌}
use Rattle.card.specs.declared.Call.TheVariants.{Frame, PowerOn}
use Rattle.card_record.specs.Power.{default_length}
use Rattle.card_record.specs.declared.Card.{Card}
use Rattle.states.specs.declared.State.TheVariants.{Tran}
use Rattle.wire.specs.Blocks.{longest_block}
use Rattle.made.specs.Heard.{HeardAs}
use Rattle.made.specs.Run.{Input}

-- a call that brings a card this command: a frame that the card hears as one
pub record Brings (card : Card) (input : Input) (index argument : ℕ) : Type 0 where
  pub wins : Bool
  pub selected : Bool
  pub called : input.call ≡ Frame wins selected
  pub heard : HeardAs card selected input.bytes index argument

-- CMD16 of n that is taken without an error: in tran ("16 ..: tran stays"), locked or not (check 5), "length 1 to 2,048"
pub record Sets (card : Card) (input : Input) (n : ℕ) : Type 0 where
  pub brought : Brings card input 16 n
  pub tran : card.link.state ≡ Tran
  pub range : (1 ≤ n) × (n ≤ longest_block)

-- the block length that a call leaves at a card: the one that it had; that of a reset, after power-on or CMD0; or what CMD16 sets
pub data LengthLeft (card : Card) (input : Input) : ℕ → Type 0 where
  kept : LengthLeft card input card.link.length
  powered : input.call ≡ PowerOn → LengthLeft card input default_length
  idled : (argument : ℕ) → Brings card input 0 argument → LengthLeft card input default_length
  set : (n : ℕ) → Sets card input n → LengthLeft card input n
