-- The consequences of demand 3, in the mission's words: a clone is a missing round, and an address that two cards share. As there, a card in Ready
-- is one in MMC mode: of two cards of one CID, of which one is in SPI, the rounds tell nothing.
-- Assumes nothing.
use Rattle.std.specs.Prelude.{Bool, true, false, List, ◌↔◌, ◌≡◌, ℕ, zero, suc, ◌≤◌, ◌<◌, length, Result, Option, Ok, Err, Some, None}
use Rattle.base.specs.Choice.{pick}
use Rattle.bus.specs.Bus.{count_of, cards_of, is_ready}
use Rattle.bus.specs.declared.Bus.{Bus}
use Rattle.rounds.specs.Demand3.{Step, Round, rounds_of, address_at, answer, card_at, ready_identifiers, identifiers}
use Rattle.base.specs.declared.Refusal.{Refusal}

-- whether the line showed an answer
abbrev pub is_answer : Result (Option ℕ) Refusal → Bool
is_answer (Ok (Some n)) = true
is_answer (Ok None) = false
is_answer (Err refusal) = false

-- how many of n things, counted from 0, pass a test
unfoldable pub count_if : (ℕ → Bool) → ℕ → ℕ
count_if test zero = 0
count_if test (suc n) = pick (test n) (suc (count_if test n)) (count_if test n)

-- the number of rounds whose CMD2 gets an answer
abbrev pub answered_rounds : Step → Bus → List Round → ℕ
answered_rounds step bus rounds = count_if (λ k. is_answer (answer step bus rounds k).shown) (length rounds)

-- the number of cards in Ready
abbrev pub ready_cards : Bus → ℕ
ready_cards bus = length (ready_identifiers (cards_of bus))

-- two cards in Ready are clones: "identifier included", the CID of both is the same
abbrev pub Clones : Bus → ℕ → ℕ → Type 0
Clones bus i j =
    (is_ready (card_at bus i) ≡ true)
    × ((is_ready (card_at bus j) ≡ true) × ((card_at bus i).registers.cid ≡ (card_at bus j).registers.cid))

-- there are two such cards, in places of their own
abbrev pub AnyClones : Bus → Type 0
AnyClones bus = (i : ℕ) × ((j : ℕ) × ((i < j) × ((j < count_of bus) × Clones bus i j)))

-- no two rounds have the same address
abbrev pub Differ : List Round → Type 0
Differ rounds = (i j : ℕ) → i < length rounds → j < length rounds → address_at rounds i ≡ address_at rounds j → i ≡ j

-- What the rounds of a bus tell of its clones.
pub record ClonesSeen (step : Step) (bus : Bus) (rounds : List Round) : Type 0 where
  -- with at least as many rounds as there are distinct identifiers among the cards in Ready, as many rounds get an answer as there are
  -- distinct identifiers; with fewer, every round that is sent
  pub enough : length (identifiers bus) ≤ length rounds → answered_rounds step bus rounds ≡ length (identifiers bus)
  pub few : length rounds ≤ length (identifiers bus) → answered_rounds step bus rounds ≡ length rounds
  -- a round that gets no answer tells that there were enough
  pub silence : (k : ℕ) → k < length rounds → is_answer (answer step bus rounds k).shown ≡ false → length (identifiers bus) ≤ length rounds
  -- given enough rounds, fewer get an answer than there are cards in Ready exactly if two of those are clones
  pub missing : length (identifiers bus) ≤ length rounds → (answered_rounds step bus rounds < ready_cards bus) ↔ AnyClones bus
  -- given enough rounds and addresses that differ, two cards that began in Ready then hold the same address exactly if they are clones
  pub shared : length (identifiers bus) ≤ length rounds → Differ rounds
      → (i j : ℕ) → i < count_of bus → j < count_of bus → is_ready (card_at bus i) ≡ true → is_ready (card_at bus j) ≡ true
      → ((card_at (rounds_of step bus rounds) i).link.address ≡ (card_at (rounds_of step bus rounds) j).link.address) ↔ Clones bus i j
