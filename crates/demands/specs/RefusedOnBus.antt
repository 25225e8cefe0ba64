-- Document 01, "Refusal numbers", on a bus: which numbers a frame for all cards gives, and a card that is added, and what alone changes
-- with each. "Nothing changes in the record .. except: 3 sets bit 23 of the card, and on a bus of every card, unless Inactive". Document 02,
-- request 1: "a frame with the line high is ignored (on a bus it is high)".
-- Assumes nothing.
use Rattle.std.specs.Prelude.{◌≡◌, true, false, List, [], ◌∷◌, map, ℕ, eqb, replicate, Err}
use Rattle.base.specs.Choice.{pick}
use Rattle.base.specs.Refusals.{number_of}
use Rattle.base.specs.declared.Refusal.{Refusal}
use Rattle.bus.specs.Bus.{cards_of, with_cards, added_to, bus_frame}
use Rattle.bus.specs.declared.Bus.{Bus}
use Rattle.moves.specs.Indices.{among}
use Rattle.card_record.specs.declared.Card.{Card}
use Rattle.demands.specs.Refused.{damaged}

-- "Frame: 1, 2, 3; .. at a bus 13, 1, 2, 3, 14"; 13: "bus of 0 cards asked, or a 31st added"
abbrev pub frame_numbers : List ℕ
frame_numbers = 13 ∷ 1 ∷ 2 ∷ 3 ∷ 14 ∷ []

abbrev pub add_numbers : List ℕ
add_numbers = 13 ∷ []

-- the bus that document 01 names after a frame that is refused with a number. 3: every card on it is as a card that refuses 3 with its line
-- high (bit 23, unless Inactive or in SPI), and a place that is not taken as it was; any other: the bus as it was
abbrev pub named_bus : ℕ → Bus → Bus
named_bus number bus = pick (eqb number 3) (with_cards bus (map (damaged false) (cards_of bus))) bus

module _ (bus : Bus) (frame : List ℕ) where
  -- the frame is refused
  abbrev pub RefusesFrame : Refusal → Type 0
  RefusesFrame refusal = (bus_frame bus frame).shown ≡ Err refusal

  -- "Refusals give a number and no value": one of the call's numbers, the bus that is named for it, and nothing on the line
  pub record FrameByNumber (refusal : Refusal) : Type 0 where
    pub number : among (number_of refusal) frame_numbers ≡ true
    pub next : (bus_frame bus frame).bus ≡ named_bus (number_of refusal) bus
    pub unshown : (bus_frame bus frame).line ≡ replicate 17 0

module _ (bus : Bus) (card : Card) where
  -- the card is not added
  abbrev pub RefusesCard : Refusal → Type 0
  RefusesCard refusal = (added_to bus card).adding ≡ Err refusal

  -- the call's one number, and the bus as it was
  pub record AddByNumber (refusal : Refusal) : Type 0 where
    pub number : among (number_of refusal) add_numbers ≡ true
    pub next : (added_to bus card).bus ≡ bus
