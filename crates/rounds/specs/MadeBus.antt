-- A bus of made cards.
-- Assumes nothing.
use mathlib.Core.List.{Memᴰ}
use Rattle.bus.specs.Bus.{cards_of}
use Rattle.bus.specs.declared.Bus.{Bus}
use Rattle.made.specs.Made.{Made}
use Rattle.card_record.specs.declared.Card.{Card}

-- every card on it is made (made, specs/Made.antt)
abbrev pub MadeBus : Bus → Type 0
MadeBus bus = (card : Card) → Memᴰ card (cards_of bus) → Made card
