-- Demand 3: what rounds of CMD2 and CMD3 do on a bus of 1 to 30 cards, whatever their records are, if none begins in Identification. It "speaks of
-- MMC mode only" (document 02, request 1): wherever a card is said to be in Ready or in Identification, it is so in MMC mode. Of a card in SPI it
-- says one thing, that no round changes it.
--
-- How to read it. A definition is a name, its type, and after `=` what it stands for: `round_of step bus round` is the bus after that round.
-- `get_or list k d` is the entry at place k of a list, counted from 0 (d would stand in for one that is not there), `take k list` are its
-- first k entries, `length list` is their number. `≡` is "is", `×` is "and", `A → B` is "if A, then B", `↔` is "exactly if", `→ ⊥` is
-- "is not so", and `(x : ℕ) × ..` is "there is a number x, and ..". A `record` has the fields that are listed in it, each of which must be
-- so where it says something; `x.name` is the field `name` of x. `[]` is the empty list, `x ∷ xs` is x and then the list xs. `Unit` asks
-- for nothing. A test is `true` or `false`, and `not` and `&&` are "not" and "and" of tests. Rounds are counted from 0 here: round k is the (k + 1)-th.
--
-- `Demand3 step` is said of any bus that answers frames, `step`, so that wrong ones can be refuted (proofs/WrongBuses.antt). That it holds
-- of ours, `bus_frame`, which the promise of the call `bus::frame` names, is `demand3` in proofs/Demand3.antt.
-- Assumes nothing.
use Rattle.std.specs.Prelude.{Bool, true, false, not, ◌&&◌, ◌↔◌, ◌≡◌, ℕ, suc, ◌/◌, ◌≤◌, ◌<◌, eqb, length, take, drop, get_or, Ok, Some, None}
use mathlib.Core.List.{List, [], ◌∷◌, Memᴰ}
use Rattle.base.specs.Choice.{pick}
use Rattle.bus.specs.Bus.{count_of, cards_of, is_ready}
use Rattle.bus.specs.declared.Bus.{Bus}
use Rattle.bus.specs.declared.Framed.{Framed}
use Rattle.crc.specs.Bits.{bits_of, bits, spelt, octets}
use Rattle.card_record.specs.Making.{refused_make}
use Rattle.card_record.specs.Record.{with_link}
use Rattle.card_record.specs.declared.Card.{Card}
use Rattle.card_record.specs.declared.Link.{Link}
use Rattle.states.specs.States.{column_of, column_number}
use Rattle.states.specs.declared.State.TheVariants.{Stby}
use Rattle.status.specs.Status.{no_errors}
use Rattle.tags.specs.Tagging.{no_tags}
use Rattle.wire.specs.Frames.{frame_of, as_command}
use Rattle.rounds.specs.Distinct.{distinct, rank, Ascending}

-- ---- rounds
-- a bus that answers frames: from a bus and a frame, the bus afterwards and what the line shows
abbrev pub Step : Type 0
Step = Bus → List ℕ → Framed

-- a round: the bytes of a CMD2, then those of a CMD3, and the address that CMD3 is to give
pub record Round : Type 0 where
  pub cmd2 : List ℕ
  pub cmd3 : List ℕ
  pub address : ℕ

-- bytes that are read as CMD2, undamaged, by the promise of the call `wire::read_frame`. Its argument may be any: no card reads it
abbrev pub IsCmd2 : List ℕ → Type 0
IsCmd2 frame = (argument : ℕ) × (frame_of frame ≡ Ok (as_command 2 argument))

-- bytes that are read as CMD3 with an address, "argument bits 31..16". Bits 15..0 may be any: no card reads them
abbrev pub IsCmd3 : ℕ → List ℕ → Type 0
IsCmd3 address frame = (argument : ℕ) × ((frame_of frame ≡ Ok (as_command 3 argument)) × (argument / 65536 ≡ address))

-- an undamaged round: "an undamaged CMD2", and "an undamaged CMD3" with the round's address, which is not 0. Those that our frame writer
-- writes are such (`written_undamaged` in proofs/Undamaged.antt)
pub record Undamaged (round : Round) : Type 0 where
  pub cmd2 : IsCmd2 round.cmd2
  pub cmd3 : IsCmd3 round.address round.cmd3
  pub address : 1 ≤ round.address

-- each round of a list is. That their addresses differ is not asked
abbrev pub AllUndamaged : List Round → Type 0
AllUndamaged [] = Unit {0}
AllUndamaged (round ∷ rounds) = Undamaged round × AllUndamaged rounds

-- the bus after a round, and after the rounds of a list
abbrev pub round_of : Step → Bus → Round → Bus
round_of step bus round = (step (step bus round.cmd2).bus round.cmd3).bus

unfoldable pub rounds_of : Step → Bus → List Round → Bus
rounds_of step bus [] = bus
rounds_of step bus (round ∷ rounds) = rounds_of step (round_of step bus round) rounds

-- round k of a list, and its address
abbrev pub round_at : List Round → ℕ → Round
round_at rounds k = get_or rounds k (record { cmd2 = []; cmd3 = []; address = 0 })

abbrev pub address_at : List Round → ℕ → ℕ
address_at rounds k = (round_at rounds k).address

-- the bus as round k finds it, after k rounds; and so the bus that round k leaves is `before step bus rounds (suc k)`
abbrev pub before : Step → Bus → List Round → ℕ → Bus
before step bus rounds k = rounds_of step bus (take k rounds)

-- what CMD2 of round k is answered
abbrev pub answer : Step → Bus → List Round → ℕ → Framed
answer step bus rounds k = step (before step bus rounds k) (round_at rounds k).cmd2

-- ---- cards and their identifiers
-- the card in a place, counted from 0
abbrev pub card_at : Bus → ℕ → Card
card_at bus place = get_or (cards_of bus) place refused_make

-- an identifier is a CID as a number, its first bit the highest; and back, the 16 bytes of a number
abbrev pub identifier : Card → ℕ
identifier card = spelt (bits card.registers.cid)

unfoldable pub cid_of : ℕ → List ℕ
cid_of number = octets 16 (bits_of 128 number)

-- the identifiers of the cards in Ready, in the order of their places. `is_ready`, which the bus itself asks in CMD2, is Ready in MMC mode:
-- the card is not in SPI, and in Ready
unfoldable pub ready_identifiers : List Card → List ℕ
ready_identifiers [] = []
ready_identifiers (card ∷ cards) = pick (is_ready card) (identifier card ∷ ready_identifiers cards) (ready_identifiers cards)

-- the distinct ones among them, smallest first
abbrev pub identifiers : Bus → List ℕ
identifiers bus = distinct (ready_identifiers (cards_of bus))

-- that one, counted from 0
abbrev pub nth : Bus → ℕ → ℕ
nth bus k = get_or (identifiers bus) k 0

-- a link with the address that it was reached with, in Stand-by. Its block length is as it was; no error bit is pending, since the R1 of CMD3
-- showed and cleared them, and there are no tags, which CMD2 drops where an odd record held any
abbrev pub stood : ℕ → Link → Link
stood address link = record { state = Stby; address = address; length = link.length; errors = no_errors; tags = no_tags }

-- a card that was reached: its registers, its lock and its mode are as they were
abbrev pub reached : ℕ → Card → Card
reached address card = with_link card (stood address card.link)

-- the card in a place is in Ready, in MMC mode, and holds that identifier
abbrev pub Holds : Bus → ℕ → ℕ → Type 0
Holds bus place number = (is_ready (card_at bus place) ≡ true) × (identifier (card_at bus place) ≡ number)

-- ---- where the demand begins
-- What the type of a bus says: 30 places, and in each a CID of 16 bytes. Every bus has it, and no caller can break it: the call
-- `rounds::well_formed` promises it of any bus
abbrev pub CidBytes : List ℕ → Type 0
CidBytes cid = (length cid ≡ 16) × ((i : ℕ) → get_or cid i 0 < 256)

abbrev pub WellFormed : Bus → Type 0
WellFormed bus = (length bus.cards ≡ 30) × ((place : ℕ) → place < 30 → CidBytes (get_or bus.cards place refused_make).registers.cid)

-- a card is in Identification in MMC mode: it is not in SPI, and in Identification
abbrev pub is_ident : Card → Bool
is_ident card = not card.mode.spi && eqb (column_number (column_of card.link.state)) 2

-- no card is so. Nothing is asked of cards in SPI
abbrev pub NoneIdentified : Bus → Type 0
NoneIdentified bus = (place : ℕ) → place < count_of bus → is_ident (card_at bus place) ≡ false

-- ---- the demand, of a bus as it begins and the rounds that are sent
pub record Rounds (step : Step) (bus : Bus) (rounds : List Round) : Type 0 where
  -- the identifiers are those of the cards that begin in Ready, each once, in ascending order
  pub ascending : Ascending (identifiers bus)
  pub each : (number : ℕ) → Memᴰ number (identifiers bus) ↔ ((place : ℕ) × ((place < count_of bus) × Holds bus place number))
  -- each is the number of 16 bytes, which are the CID of every card that holds it
  pub cid : (place : ℕ) → place < count_of bus → cid_of (identifier (card_at bus place)) ≡ (card_at bus place).registers.cid
  -- while any are left, round k shows the k-th: the answer of CMD2 is R2 of 17 bytes, 3F and then that CID
  pub shows : (k : ℕ) → k < length rounds → k < length (identifiers bus)
      → ((answer step bus rounds k).shown ≡ Ok (Some 17)) × ((answer step bus rounds k).line ≡ 0x3F ∷ cid_of (nth bus k))
  -- and the cards that began in Ready and hold it go to Stand-by with that round's address, all else being as it began
  pub reaches : (k : ℕ) → k < length rounds → k < length (identifiers bus)
      → (place : ℕ) → place < count_of bus → Holds bus place (nth bus k)
      → card_at (before step bus rounds (suc k)) place ≡ reached (address_at rounds k) (card_at bus place)
  -- and no other card changes, in any field
  pub others : (k : ℕ) → k < length rounds → k < length (identifiers bus)
      → (place : ℕ) → place < count_of bus → (Holds bus place (nth bus k) → ⊥)
      → card_at (before step bus rounds (suc k)) place ≡ card_at (before step bus rounds k) place
  -- a card that began in Ready with j distinct smaller identifiers is as it began up to round j, and reached in round j
  pub turn : (place : ℕ) → place < count_of bus → is_ready (card_at bus place) ≡ true
      → (j : ℕ) → rank (identifiers bus) (identifier (card_at bus place)) ≡ j → j < length rounds
      → (card_at (before step bus rounds j) place ≡ card_at bus place)
      × (card_at (before step bus rounds (suc j)) place ≡ reached (address_at rounds j) (card_at bus place))
  -- after the last, CMD2 gets no answer, and a round changes nothing on the bus
  pub last : (k : ℕ) → k < length rounds → length (identifiers bus) ≤ k
      → ((answer step bus rounds k).shown ≡ Ok None) × (before step bus rounds (suc k) ≡ before step bus rounds k)
  -- a card that began in SPI is as it began after any number of rounds, in every field. Nor does it answer: the identifiers that CMD2 shows
  -- are those of cards in MMC mode, and at our bus it sends nothing at any frame (`spi_stays` in bus, proofs/InSpi.antt)
  pub spi : (place k : ℕ) → (card_at bus place).mode.spi ≡ true → card_at (before step bus rounds k) place ≡ card_at bus place
  -- no round adds a card, takes one away, or changes a place that is not taken
  pub places : (k : ℕ) → ((before step bus rounds k).count ≡ bus.count)
      × (drop (count_of bus) (before step bus rounds k).cards ≡ drop (count_of bus) bus.cards)

-- of every bus of 1 to 30 cards, any records, in either mode, none in Identification in MMC mode, and any list of undamaged rounds
abbrev pub Demand3 : Step → Type 0
Demand3 step =
    (bus : Bus) (rounds : List Round) → WellFormed bus → 1 ≤ count_of bus → NoneIdentified bus → AllUndamaged rounds → Rounds step bus rounds
