-- Buses that do not meet demand 3, each refuted on a bus of two cards in Ready, with the CIDs 0 and 1; in the last two, CID 1 is in SPI.
--   idle_refuted      one that does nothing: round 1 has no answer
--   frozen_refuted    one that changes no card, whatever it shows: round 1 reaches no card
--   hasty_refuted     one that addresses every card in round 1 and then plays along: round 2 has no answer
--   hasty_late        the same, whatever it shows: round 2 does not reach its card
--   strict_refuted    one that does nothing at a frame whose argument ends in a byte other than 0: a CMD2 of argument 1 has no answer
--   strict_late       nor does a CMD3 whose bits 15..0 are 1 reach any card
--   waking_refuted    one whose frames take a card out of SPI, whatever it shows: after round 1 that card is in MMC mode
--   moving_refuted    one whose frames give a card in SPI an address, whatever it shows: after round 1 that card is in Stand-by
-- Document 01, "What each call owes": "A bus that does nothing fails round 1 of demand 3. A bus that addresses every card in round 1 and then
-- plays along fails round 2."
-- Assumes nothing.
use mathlib.Core.Path.{◌≡◌, refl, sym, ap, ◌∙◌}
use mathlib.Core.Bool.{Bool, true, false}
use mathlib.Core.List.{List, [], ◌∷◌, ◌++◌, map}
use Prim.Native.Nat.{ℕ, zero, suc, ◌≤◌, ◌<◌}
use native.Mathlib.Omega.{arith}
use lib.Dec.{eqb}
use lib.ListN.{length, get_or, replicate}
use Rattle.base.proofs.Cases.{never}
use Rattle.base.specs.Choice.{pick}
use Rattle.bus.specs.Bus.{cards_of, with_cards, command_on, command_at, card_after, frame_from, any_ready, longest_of, cid_line, and_line, line_of, padded, command_for, bus_frame}
use Rattle.bus.specs.declared.Bus.{Bus}
use Rattle.card_record.specs.Sending.{sent_bytes}
use Rattle.command.specs.Answers.{response_of, answered}
use Rattle.command.specs.Arguments.{argument_fault}
use Rattle.command.specs.Command.{met_by, taken_of, command_of}
use Rattle.command.specs.Obey.{tagging_of, judged_of, reset_told, awaited_by, obeyed, change_of, after_checks, acted_of}
use Rattle.crc.specs.Bits.{bits, Below}
use Rattle.crc.specs.Crc.{divide, remainder}
use Rattle.shared_line.specs.Line.{line, contested, wins, together}
use Rattle.lock.specs.Passwords.{holding, no_password}
use Rattle.moves.specs.Classes.{class_of}
use Rattle.moves.specs.Moves.{move_of}
use Rattle.moves.specs.Rows.{transfer_row, row_of}
use Rattle.card_record.specs.Making.{refused_make}
use Rattle.card_record.specs.Power.{mmc_mode}
use Rattle.card_record.specs.Record.{with_link, with_mode}
use Rattle.card_record.specs.declared.Card.{Card}
use Rattle.states.specs.States.{column_of, column_number}
use Rattle.states.specs.declared.State.TheVariants.{Ready}
use Rattle.status.specs.Status.{no_errors, word_of}
use Rattle.tags.specs.Tagging.{no_tags}
use Rattle.wire.specs.Frames.{crc7_of, sealed, command_frame, fields_of, framing_of}
use Rattle.wire.specs.Responses.{r1_frame, r2_frame}
use Rattle.rounds.proofs.Undamaged.{written, Fitting, written_undamaged}
use Rattle.rounds.specs.Demand3.{Step, Round, AllUndamaged, rounds_of, answer, before, card_at, ready_identifiers, identifiers, reached, CidBytes, WellFormed, NoneIdentified, Rounds, Demand3}
use Rattle.rounds.specs.Distinct.{insert, distinct}
use Rattle.std.specs.Prelude.{Result, Option, Ok, Some, None}
use Rattle.base.specs.declared.Refusal.{Refusal}

-- ---- the sample
-- a card in Ready whose CID is 15 zeros and a last byte
abbrev ready : ℕ → Card
ready last =
    record {
      registers = record { cid = replicate 15 0 ++ (last ∷ []); csd = replicate 16 0; ocr = 0x00FF8000; groups = 1 };
      lock = no_password;
      link = record { state = Ready; address = 1; length = 512; errors = no_errors; tags = no_tags };
      mode = mmc_mode;
    }

abbrev two : Bus
two = record { cards = ready 1 ∷ ready 0 ∷ replicate 28 refused_make; count = 2 }

-- each CID is 16 bytes
abbrev Each : List Card → Type 0
Each [] = Unit {0}
Each (c ∷ cards) = CidBytes c.registers.cid × Each cards

bytes : (l : List ℕ) → Below 256 l → (i : ℕ) → get_or l i 0 < 256
bytes [] b i = omega arith
bytes (x ∷ l) b zero = b.0
bytes (x ∷ l) b (suc i) = bytes l b.1 i

each_alike : (n : ℕ) (card : Card) → CidBytes card.registers.cid → Each (replicate n card)
each_alike zero card h = tt
each_alike (suc n) card h = (h, each_alike n card h)

at_place : (cards : List Card) → Each cards → (place : ℕ) → place < length cards → CidBytes (get_or cards place refused_make).registers.cid
at_place [] e place h = absurd (omega arith)
at_place (c ∷ cards) e zero h = e.0
at_place (c ∷ cards) e (suc place) h = at_place cards e.1 place (omega arith)

zeros : (n : ℕ) → Below 256 (replicate n 0)
zeros zero = tt
zeros (suc n) = (omega arith, zeros n)

two_formed : WellFormed two
unfolding refused_make
two_formed =
    let a : CidBytes (ready 1).registers.cid = (refl, bytes (ready 1).registers.cid (search arith)) in
    let b : CidBytes (ready 0).registers.cid = (refl, bytes (ready 0).registers.cid (zeros 16)) in
    let c : CidBytes refused_make.registers.cid = (refl, bytes (replicate 16 0) (zeros 16)) in
    (refl, at_place two.cards (a, (b, each_alike 28 refused_make c)))

two_unidentified : NoneIdentified two
two_unidentified zero h = refl
two_unidentified (suc zero) h = refl
two_unidentified (suc (suc place)) h = absurd (omega arith)

-- two rounds of addresses 1 and 2, with an argument of CMD2 and low bits of CMD3, both 0 or 1
abbrev rounds : ℕ → ℕ → List Round
rounds argument low = written argument 1 low ∷ written argument 2 low ∷ []

undamaged : (argument low : ℕ) → argument < 2 → low < 2 → AllUndamaged (rounds argument low)
undamaged argument low a l =
    let fitting : (address : ℕ) → 1 ≤ address → address < 65536 → Fitting argument address low =
    λ address some bits. record { argument_bits = omega arith; address_some = some; address_bits = bits; low_bits = omega arith }
    in (
      written_undamaged argument 1 low (fitting 1 (omega arith) (omega arith)),
      (written_undamaged argument 2 low (fitting 2 (omega arith) (omega arith)), tt),
    )

rounds_of_lem : (step : Step) → Demand3 step → (argument low : ℕ) → argument < 2 → low < 2 → Rounds step two (rounds argument low)
rounds_of_lem step d argument low a l = d two (rounds argument low) two_formed (omega arith) two_unidentified (undamaged argument low a l)

-- with zeros
zero_rounds : (step : Step) → Demand3 step → Rounds step two (rounds 0 0)
zero_rounds step d = rounds_of_lem step d 0 0 (omega arith) (omega arith)

-- there are two distinct identifiers
two_distinct : length (identifiers two) ≡ 2
unfolding ready_identifiers distinct insert bits
two_distinct = refl

-- ---- a bus that does nothing
abbrev idle : Step
idle bus frame = record { bus = bus; shown = Ok None; line = replicate 17 0 }

pub idle_refuted : Demand3 idle → ⊥
idle_refuted d =
    let n = two_distinct in
    let e = ((zero_rounds idle d).shows 0 (omega arith) (omega arith)).0 in
    let z : ◌≡◌ {A = ℕ} 0 1 = cc in
    omega arith

-- ---- one that changes no card, whatever it shows: `says` may be ours, or know what is right
abbrev frozen : Step → Step
frozen says bus frame = record { bus = bus; shown = (says bus frame).shown; line = (says bus frame).line }

-- the second card holds the smallest identifier, and is still in Ready after round 1
pub frozen_refuted : (says : Step) → Demand3 (frozen says) → ⊥
unfolding ready_identifiers distinct insert bits rounds_of
frozen_refuted says d =
    let e : card_at two 1 ≡ reached 1 (card_at two 1) = (zero_rounds (frozen says) d).reaches 0 (omega arith) (omega arith) 1 (omega arith) (refl, refl) in
    let state = ap (λ (c : Card). column_number (column_of c.link.state)) e in
    omega arith

-- ---- one that addresses every card in round 1 and then plays along, whatever it shows
-- CMD2 takes every card in Ready to Identification, as if each had won
abbrev all_win : Card → Card
all_win card = with_link card (command_of card.link (met_by card true) 2 0).link

-- a CMD2 by its first byte, 0, 1 and the index
abbrev is_cmd2 : List ℕ → Bool
is_cmd2 frame = eqb (get_or frame 0 0) 0x42

unfoldable pub hasty : Step → Step
hasty says bus frame =
    record {
      bus = pick (is_cmd2 frame) (with_cards bus (map all_win (cards_of bus))) (bus_frame bus frame).bus;
      shown = (says bus frame).shown;
      line = (says bus frame).line;
    }

-- where it shows what ours would for its cards, round 1 has the right answer, and round 2 has none
abbrev shown_by : ℕ → Result (Option ℕ) Refusal
shown_by k = (answer (hasty bus_frame) two (rounds 0 0) k).shown

hasty_shows : (shown_by 0 ≡ Ok (Some 17)) × (shown_by 1 ≡ Ok None)
unfolding hasty rounds_of refused_make holding command_frame sealed crc7_of remainder divide bits bus_frame framing_of fields_of command_for with_cards line_of cid_line and_line frame_from any_ready longest_of sent_bytes r1_frame r2_frame card_after command_at command_on command_of taken_of acted_of after_checks judged_of tagging_of argument_fault reset_told obeyed awaited_by change_of response_of answered word_of class_of move_of row_of transfer_row line contested wins together padded
hasty_shows = (refl, refl)

pub hasty_refuted : Demand3 (hasty bus_frame) → ⊥
hasty_refuted d =
    let n = two_distinct in
    let e : shown_by 1 ≡ Ok (Some 17) = ((zero_rounds (hasty bus_frame) d).shows 1 (omega arith) (omega arith)).0 in
    let f = hasty_shows.1 in
    let z : ◌≡◌ {A = ℕ} 0 1 = cc in
    omega arith

-- and whatever it shows, the card that should be reached in round 2 has the address of round 1
hasty_address : (says : Step) → (card_at (before (hasty says) two (rounds 0 0) 2) 0).link.address ≡ 1
unfolding hasty rounds_of refused_make holding command_frame sealed crc7_of remainder divide bits bus_frame framing_of fields_of command_for with_cards card_after command_at command_on command_of taken_of acted_of after_checks judged_of tagging_of argument_fault obeyed awaited_by response_of answered class_of move_of row_of
hasty_address says = refl

pub hasty_late : (says : Step) → Demand3 (hasty says) → ⊥
unfolding ready_identifiers distinct insert bits
hasty_late says d =
    let e = (zero_rounds (hasty says) d).reaches 1 (omega arith) (omega arith) 0 (omega arith) (refl, refl) in
    let address : (card_at (before (hasty says) two (rounds 0 0) 2) 0).link.address ≡ 2 = ap (λ (c : Card). c.link.address) e in
    omega (arith, hasty_address says)

-- ---- one that does nothing at a frame whose argument ends in a byte other than 0, and else is ours
unfoldable pub strict : Step
strict bus frame = pick (eqb (get_or frame 4 0) 0) (bus_frame bus frame) (idle bus frame)

strict_shows : (answer strict two (rounds 1 0) 0).shown ≡ Ok None
unfolding strict rounds_of command_frame sealed crc7_of remainder divide
strict_shows = refl

pub strict_refuted : Demand3 strict → ⊥
strict_refuted d =
    let n = two_distinct in
    let e = ((rounds_of_lem strict d 1 0 (omega arith) (omega arith)).shows 0 (omega arith) (omega arith)).0 in
    let f = strict_shows in
    let z : ◌≡◌ {A = ℕ} 0 1 = cc in
    omega arith

-- the second card has won round 1, and is still in Identification after CMD3
strict_state : column_number (column_of (card_at (before strict two (rounds 0 1) 1) 1).link.state) ≡ 2
unfolding strict rounds_of refused_make holding command_frame sealed crc7_of remainder divide bits bus_frame framing_of fields_of command_for with_cards card_after command_at command_on command_of taken_of acted_of after_checks judged_of tagging_of argument_fault obeyed awaited_by response_of answered class_of move_of row_of line contested wins
strict_state = refl

pub strict_late : Demand3 strict → ⊥
unfolding ready_identifiers distinct insert bits
strict_late d =
    let e = (rounds_of_lem strict d 0 1 (omega arith) (omega arith)).reaches 0 (omega arith) (omega arith) 1 (omega arith) (refl, refl) in
    let state = ap (λ (c : Card). column_number (column_of c.link.state)) e in
    omega (arith, strict_state)

-- ---- one that is ours, but for what each frame does to a card in SPI
unfoldable pub disturbing : (Card → Card) → Step → Step
disturbing touch says bus frame =
    record {
      bus = with_cards bus (map (λ (card : Card). pick card.mode.spi (touch card) card) (cards_of (bus_frame bus frame).bus));
      shown = (says bus frame).shown;
      line = (says bus frame).line;
    }

-- the sample, with its first card in SPI
abbrev mixed : Bus
mixed = record { cards = with_mode (ready 1) (record { spi = true; checks = false }) ∷ ready 0 ∷ replicate 28 refused_make; count = 2 }

mixed_formed : WellFormed mixed
mixed_formed = (two_formed.0, each_place)
  where
    each_place : (place : ℕ) → place < 30 → CidBytes (get_or mixed.cards place refused_make).registers.cid
    each_place zero h = two_formed.1 0 h
    each_place (suc place) h = two_formed.1 (suc place) h

mixed_unidentified : NoneIdentified mixed
mixed_unidentified zero h = refl
mixed_unidentified (suc zero) h = refl
mixed_unidentified (suc (suc place)) h = absurd (omega arith)

mixed_rounds : (step : Step) → Demand3 step → Rounds step mixed (rounds 0 0)
mixed_rounds step d = d mixed (rounds 0 0) mixed_formed (omega arith) mixed_unidentified (undamaged 0 0 (omega arith) (omega arith))

-- a card taken out of SPI
abbrev awake : Card → Card
awake card = with_mode card mmc_mode

woken : (says : Step) → (card_at (before (disturbing awake says) mixed (rounds 0 0) 1) 0).mode.spi ≡ false
unfolding disturbing rounds_of refused_make holding command_frame sealed crc7_of remainder divide bits bus_frame framing_of fields_of command_for with_cards card_after command_at command_on command_of taken_of acted_of after_checks judged_of tagging_of argument_fault obeyed awaited_by response_of answered class_of move_of row_of line contested wins
woken says = refl

pub waking_refuted : (says : Step) → Demand3 (disturbing awake says) → ⊥
waking_refuted says d =
    let e = (mixed_rounds (disturbing awake says) d).spi 0 1 refl in
    never (sym (woken says) ∙ ap (λ (c : Card). c.mode.spi) e)

-- a card in SPI given an address, as if it had won
moved : (says : Step) → column_number (column_of (card_at (before (disturbing (reached 1) says) mixed (rounds 0 0) 1) 0).link.state) ≡ 3
unfolding disturbing rounds_of refused_make holding command_frame sealed crc7_of remainder divide bits bus_frame framing_of fields_of command_for with_cards card_after command_at command_on command_of taken_of acted_of after_checks judged_of tagging_of argument_fault obeyed awaited_by response_of answered class_of move_of row_of line contested wins
moved says = refl

pub moving_refuted : (says : Step) → Demand3 (disturbing (reached 1) says) → ⊥
moving_refuted says d =
    let e = (mixed_rounds (disturbing (reached 1) says) d).spi 0 1 refl in
    let state = ap (λ (c : Card). column_number (column_of c.link.state)) e in
    omega (arith, moved says)
