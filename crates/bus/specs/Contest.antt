-- The contest of CMD2 as code finds it: the smallest CID of the Ready cards. That its holders are those that are heard to the last bit is
-- proved (`holders` in proofs/Winners).
-- Assumes nothing.
use Rattle.std.specs.Prelude.{◌≡◌, Bool, false, List, [], ◌∷◌, ℕ, ◌<◌, eqb, length, get_or}
use Rattle.base.specs.Choice.{unless}
use Rattle.crc.specs.Bits.{Below}
use Rattle.shared_line.specs.Lowest.{Low, no_low, lower_of, is_low}
use Rattle.card_record.specs.declared.Card.{Card}
use Rattle.bus.specs.Bus.{is_ready, count_of, cards_of}
use Rattle.bus.specs.declared.Bus.{Bus}

abbrev pub cid_of : Card → List ℕ
cid_of card = card.registers.cid

-- what was found, or a card's CID where it sends it and nothing smaller was found
unfoldable pub better_of : Low → Card → Low
better_of low card = unless (is_ready card) low (lower_of low (cid_of card))

unfoldable pub low_from : Low → List Card → Low
low_from low [] = low
low_from low (card ∷ cards) = low_from (better_of low card) cards

-- for CMD2 alone
unfoldable pub low_for : Bus → ℕ → Low
low_for bus index = unless (eqb index 2) no_low (low_from no_low (cards_of bus))

-- whether a card sends its CID and it is the one that was found
unfoldable pub holds_low : Low → Card → Bool
holds_low low card = unless (is_ready card) false (is_low low (cid_of card))

-- what the type of a card says of its CID: 16 bytes
abbrev pub Held : Card → Type 0
Held card = (length (cid_of card) ≡ 16) × Below 256 (cid_of card)

-- and of each card on a bus, where CMD2 looked at them
abbrev pub HeldAll : Bus → ℕ → Type 0
HeldAll bus index = index ≡ 2 → (i : ℕ) (d : Card) → i < count_of bus → Held (get_or bus.cards i d)
