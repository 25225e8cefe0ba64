-- A unit that shares its line and a card on our bus are one, in either mode: told whether its CID is heard to the last bit (`wins_line`) and that
-- its select line is high, as every card's is on a bus, the unit's own call leaves the card and sends the bytes that the bus has of it, and
-- changes nothing that the unit is lent.
--   unit_commanded    a command for the bus: what the bus has of the card, in SPI nothing
--   unit_is_card      any frame that the bus does not refuse 14: the card that the bus then has in its place
-- Assumes nothing.
use mathlib.Core.Path.{◌≡◌, refl, sym, ap, ◌∙◌}
use mathlib.Core.Bool.{Bool, true, false, not, ◌&&◌, ◌||◌}
use mathlib.Core.List.{List, [], ◌∷◌, map}
use Prim.Native.Nat.{ℕ, ◌≤◌, ◌<◌}
use borrow.Author.Tests.{le-leb}
use lib.Dec.{eqb}
use lib.ListN.{length, get_or}
use Rattle.base.proofs.Cases.{guarded, cases}
use Rattle.base.specs.Choice.{pick, unless}
use Rattle.base.specs.Refusals.{by}
use Rattle.bus.proofs.InSpi.{spi_stays}
use Rattle.bus.specs.Bus.{count_of, cards_of, with_cards, wins_line, command_on, command_at, card_after, bus_indices, refused_on, damaged_card, command_for, framed_on, bus_frame}
use Rattle.bus.specs.declared.Bus.{Bus}
use Rattle.bus.specs.declared.Framed.{Framed as Answered}
use Rattle.card.specs.Frame.{FrameJudged, commanded, framed, frame_told, frame_stepped}
use Rattle.card.specs.Step.{step_of}
use Rattle.card.specs.declared.Call.TheVariants.{Frame}
use Rattle.card_blocks.specs.declared.Stepped.{Stepped}
use Rattle.command.specs.Answers.{silent}
use Rattle.command.specs.Command.{met_by, damaged_link, command_of}
use Rattle.command.specs.Obey.{change_of}
use Rattle.command.specs.declared.Change.TheVariants.{Nothing}
use Rattle.command.specs.declared.Commanded.{Commanded}
use Rattle.demands.proofs.Frames.{judged_as, unlent_as, stepped_stays}
use Rattle.demands.specs.Silenced.{Reads, Unlent}
use Rattle.made.proofs.Took.{heard_nothing}
use Rattle.moves.proofs.Among.{each}
use Rattle.moves.specs.Indices.{among}
use Rattle.card_record.specs.Making.{refused_make}
use Rattle.card_record.specs.Record.{with_link}
use Rattle.card_record.specs.declared.Card.{Card}
use Rattle.spi.proofs.Laws.{spi_high}
use Rattle.spi.specs.Hearing.{unheard, heard_in_mmc, heard_of, damaged_of}
use Rattle.spi.specs.declared.Heard.{Heard}
use Rattle.store.specs.Lent.{Lent, seen, lending_of}
use Rattle.wire.specs.Frames.{framing_of, checked, frame_of, as_fields}
use Rattle.rounds.proofs.Demand3.{get_d_map}
use Rattle.rounds.proofs.MadeBus.{changed}
use Rattle.rounds.specs.Demand3.{card_at}
use Rattle.std.specs.Prelude.{Result, Ok, Err, None}
use Rattle.base.specs.declared.Refusal.{Refusal}
use Rattle.wire.specs.declared.Fields.{Fields}

-- ---- a command for the bus
-- it sets and clears no group, and erases nothing
listed_none : (index argument : ℕ) → among index bus_indices ≡ true → change_of index argument ≡ Nothing
unfolding change_of
listed_none index argument =
    each (λ (k : ℕ). change_of k argument ≡ Nothing) bus_indices
    (refl, (refl, (refl, (refl, (refl, (refl, (refl, (refl, (refl, (refl, tt)))))))))) index

-- a command as the card takes it with its line high: in MMC mode as ever, and in SPI not at all
module _ (card : Card) (wins : Bool) (index argument : ℕ) where
  by_mode : (spi : Bool) (given : Commanded)
      → pick spi (unheard card.mode card.link) (heard_in_mmc card.mode given) ≡ heard_in_mmc card.mode (pick spi (silent card.link) given)
  by_mode true given = refl
  by_mode false given = refl

  heard_on : heard_of card.mode false card.link (met_by card wins) index argument ≡ heard_in_mmc card.mode (command_on card wins index argument)
  unfolding heard_of command_on
  heard_on = by_mode card.mode.spi (command_of card.link (met_by card wins) index argument)

pub unit_commanded : (cards : List Card) (card : Card) (frame : List ℕ) (lent : Lent) (out : List ℕ) (index argument : ℕ)
    → Reads card frame lent index argument → among index bus_indices ≡ true
    → Unlent card (wins_line cards card) false frame lent out (heard_in_mmc card.mode (command_at cards index argument card))
unfolding command_at
unit_commanded cards card frame lent out index argument reads listed =
    let wins : Bool = wins_line cards card in
    let same : (heard_of card.mode false card.link (met_by card wins) index argument).change ≡ Nothing =
    heard_nothing card.link (met_by card wins) index argument (listed_none index argument listed) card.mode false
    in
    unlent_as card wins false frame lent out index argument reads (heard_in_mmc card.mode (command_on card wins index argument))
    (heard_on card wins index argument) (ap (λ (h : Heard). h.change) (sym (heard_on card wins index argument)) ∙ same)

-- ---- any frame
-- what a frame leaves of one of these cards
abbrev after_framing : List Card → Result Fields Refusal → Card → Card
after_framing cards (Err refusal) card = card
after_framing cards (Ok fields) card = unless fields.crc_right (damaged_card card) (card_after cards fields.index fields.argument card)

unchanged : (cards : List Card) → map (λ (card : Card). card) cards ≡ cards
unchanged [] = refl
unchanged (card ∷ cards) = ap (λ (l : List Card). card ∷ l) (unchanged cards)

module _ (bus : Bus) (frame : List ℕ) (some : 1 ≤ count_of bus) (heard : (bus_frame bus frame).shown ≡ Err (by 14) → ⊥) where
  reached : bus_frame bus frame ≡ framed_on bus (framing_of frame)
  unfolding bus_frame
  reached = ap (λ (t : Bool). unless t (refused_on bus (by 13)) (framed_on bus (framing_of frame))) (le-leb 1 (count_of bus) some)

  listed : (index argument : ℕ) → framing_of frame ≡ Ok (as_fields index argument true) → among index bus_indices ≡ true
  unfolding command_for
  listed index argument e =
      cases (among index bus_indices) (λ t. t)
      (λ t.
      let refused : (framed_on bus (Ok (as_fields index argument true))).shown ≡ Err (by 14) = rw t in
      absurd (heard (ap (λ (a : Answered). a.shown) reached ∙ ap (λ (f : Result Fields Refusal). (framed_on bus f).shown) e ∙ refused)))

  -- each card changed
  each_after : (f : Card → Card) → cards_of (with_cards bus (map f (cards_of bus))) ≡ map f (cards_of bus)
  unfolding with_cards
  each_after f = changed f (count_of bus) bus.cards

  abbrev After : Result Fields Refusal → Type 0
  After framing = cards_of (framed_on bus framing).bus ≡ map (after_framing (cards_of bus) framing) (cards_of bus)

  fields_after : (index argument : ℕ) (right : Bool) → framing_of frame ≡ Ok (as_fields index argument right) → After (Ok (as_fields index argument right))
  unfolding command_for
  fields_after index argument true e = rw (listed index argument e) (each_after (card_after (cards_of bus) index argument))
  fields_after index argument false e = each_after damaged_card

  framed_after : (framing : Result Fields Refusal) → framing_of frame ≡ framing → After framing
  framed_after (Err refusal) e = sym (unchanged (cards_of bus))
  framed_after (Ok fields) e = fields_after fields.index fields.argument fields.crc_right e

  module _ (cards : List Card) (card : Card) (lent : Lent) (out : List ℕ) (right : lending_of (seen lent) card.registers.groups ≡ Ok tt) where
    abbrev wins : Bool
    wins = wins_line cards card

    stepped_as : (framing : Result Fields Refusal) → framing_of frame ≡ framing
        → (frame_stepped card wins false frame (seen lent)).card
        ≡ (frame_told card (seen lent) (framed card wins false framing)).card
    unfolding frame_stepped
    stepped_as framing e =
        ap (λ (j : FrameJudged). (frame_told card (seen lent) j).card) (judged_as card wins false frame (seen lent) right framing e)

    -- a damaged frame sets bit 23 in both
    damaged_mmc : card.mode.spi ≡ false → (index argument : ℕ)
        → (frame_told card (seen lent) (framed card wins false (Ok (as_fields index argument false)))).card ≡ damaged_card card
    unfolding damaged_of
    damaged_mmc here index argument =
        ap (λ (h : Bool). (frame_told card (seen lent)
        (unless (false || (h && (not card.mode.checks && not (eqb index 0))))
        (commanded card (Err (by 3))
        (pick h (unheard card.mode card.link) (unheard card.mode (damaged_link card.link))))
        (commanded card (Ok None) (heard_of card.mode false card.link (met_by card wins) index argument)))).card) here
        ∙ ap (λ (h : Bool). pick h card (with_link card (damaged_link card.link))) (sym here)

    abbrev Unit_after : Result Fields Refusal → Type 0
    Unit_after framing = (frame_stepped card wins false frame (seen lent)).card ≡ after_framing cards framing card

    fields_in_mmc : card.mode.spi ≡ false → (index argument : ℕ) (crc : Bool) → framing_of frame ≡ Ok (as_fields index argument crc)
        → Unit_after (Ok (as_fields index argument crc))
    unfolding frame_of card_after
    fields_in_mmc here index argument true e =
        ap (λ (s : Stepped). s.card)
        (unit_commanded cards card frame lent out index argument (record { right = right; command = ap checked e }) (listed index argument e)).step
    fields_in_mmc here index argument false e = stepped_as (Ok (as_fields index argument false)) e ∙ damaged_mmc here index argument

    unit_in_mmc : card.mode.spi ≡ false → (framing : Result Fields Refusal) → framing_of frame ≡ framing → Unit_after framing
    unit_in_mmc here (Err refusal) e = stepped_as (Err refusal) e
    unit_in_mmc here (Ok fields) e = fields_in_mmc here fields.index fields.argument fields.crc_right e

    -- in SPI neither hears any frame
    kept_in_spi : card.mode.spi ≡ true → (framing : Result Fields Refusal) → after_framing cards framing card ≡ card
    kept_in_spi here (Err refusal) = refl
    kept_in_spi here (Ok fields) =
        guarded (λ (after : Card). after ≡ card) fields.crc_right (λ t. (spi_stays card here cards fields.index fields.argument).1)
        (λ t. (spi_stays card here cards fields.index fields.argument).0)

    unit_in_spi : card.mode.spi ≡ true → (frame_stepped card wins false frame (seen lent)).card ≡ card
    unfolding damaged_of
    unit_in_spi here =
        (stepped_stays card wins false (λ index argument. spi_high card.mode card.link (met_by card wins) index argument here)
        (ap (λ (h : Bool). pick h (unheard card.mode card.link) (unheard card.mode (damaged_link card.link))) here) frame (seen lent)).0

    unit_after : (framing : Result Fields Refusal) → framing_of frame ≡ framing
        → (frame_stepped card wins false frame (seen lent)).card ≡ after_framing cards framing card
    unit_after framing e =
        cases card.mode.spi
        (λ (here : card.mode.spi ≡ true). unit_in_spi here ∙ sym (kept_in_spi here framing))
        (λ (here : card.mode.spi ≡ false). unit_in_mmc here framing e)

  pub unit_is_card : (place : ℕ) (lent : Lent) (out : List ℕ) → place < length (cards_of bus)
      → lending_of (seen lent) (card_at bus place).registers.groups ≡ Ok tt
      → (step_of (card_at bus place) (Frame (wins_line (cards_of bus) (card_at bus place)) false) frame (seen lent) (length out)).card
      ≡ card_at (bus_frame bus frame).bus place
  unit_is_card place lent out there right =
      unit_after (cards_of bus) (card_at bus place) lent out right (framing_of frame) refl
      ∙ sym
      (ap (λ (a : Answered). card_at a.bus place) reached
      ∙ ap (λ (cards : List Card). get_or cards place refused_make) (framed_after (framing_of frame) refl)
      ∙ get_d_map (after_framing (cards_of bus) (framing_of frame)) (cards_of bus) place refused_make there)
