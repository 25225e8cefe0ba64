-- A card in SPI on a bus, where every card's select line is high: "There a frame with the line high is ignored (on a bus it is high)".
--   spi_unheard   no command reaches it, whatever the verdict of CMD2
--   spi_stays     after a command and after a wrong CRC7 it is equal, it sends nothing, and it is never Ready
--   spi_kept      in its place of a bus it is equal after every frame
--   spi_loses     it never wins the line in CMD2
--   mmc_heard     a card in MMC mode is reached by commands as ever
-- Assumes nothing.
use mathlib.Core.Path.{◌≡◌, refl, ap}
use mathlib.Core.Bool.{Bool, true, false}
use mathlib.Core.List.{List, [], ◌∷◌, ◌++◌, map}
use Prim.Native.Nat.{ℕ, zero, suc}
use lib.Dec.{leb}
use lib.ListN.{length, take, drop, get_or}
use Rattle.base.proofs.Cases.{guarded}
use Rattle.base.specs.Refusals.{by}
use Rattle.card_record.specs.Sending.{sent_bytes}
use Rattle.card_record.specs.Record.{with_link}
use Rattle.card_record.specs.declared.Card.{Card}
use Rattle.command.specs.Answers.{silent}
use Rattle.command.specs.Command.{met_by, command_of}
use Rattle.command.specs.declared.Commanded.{Commanded}
use Rattle.moves.specs.Indices.{among}
use Rattle.shared_line.specs.Line.{Sender, line, heard, wins}
use Rattle.wire.specs.Frames.{framing_of}
use Rattle.bus.specs.Bus.{count_of, cards_of, with_cards, is_ready, cid_sender, cid_bits, wins_line, command_on, command_at, card_after, frame_from, bus_indices, refused_on, damaged_card, command_for, framed_on, bus_frame}
use Rattle.bus.specs.declared.Bus.{Bus}
use Rattle.bus.specs.declared.Framed.{Framed as Answered}
use Rattle.std.specs.Prelude.{Result, Ok, Err}
use Rattle.base.specs.declared.Refusal.{Refusal}
use Rattle.wire.specs.declared.Fields.{Fields}

-- ---- at one card
module _ (card : Card) where
  pub mmc_heard : (wins : Bool) (index argument : ℕ) → card.mode.spi ≡ false
      → command_on card wins index argument ≡ command_of card.link (met_by card wins) index argument
  unfolding command_on
  mmc_heard wins index argument mmc = rw mmc

  module _ (spi : card.mode.spi ≡ true) where
    pub spi_unheard : (wins : Bool) (index argument : ℕ) → command_on card wins index argument ≡ silent card.link
    unfolding command_on
    spi_unheard wins index argument = rw spi

    never_ready : is_ready card ≡ false
    never_ready = rw spi

    damage_unheard : damaged_card card ≡ card
    damage_unheard = rw spi

    module _ (cards : List Card) (index argument : ℕ) where
      command_unheard : card_after cards index argument card ≡ card
      unfolding card_after command_at
      command_unheard = ap (λ (g : Commanded). with_link card g.link) (spi_unheard (wins_line cards card) index argument)

      sends_nothing : frame_from cards index argument card ≡ []
      unfolding frame_from command_at sent_bytes
      sends_nothing = ap (λ (g : Commanded). sent_bytes card.registers g.sent) (spi_unheard (wins_line cards card) index argument)

      pub spi_stays : (card_after cards index argument card ≡ card)
          × (damaged_card card ≡ card)
          × (frame_from cards index argument card ≡ [])
          × (is_ready card ≡ false)
      spi_stays = (command_unheard, damage_unheard, sends_nothing, never_ready)

-- ---- on the line: who does not send is not heard to the last bit
silent_loses : (n : ℕ) (ss : List Sender) (s : Sender) → s.on ≡ false → wins n ss s ≡ false
unfolding wins
silent_loses zero ss s off = off
silent_loses (suc n) ss s off =
    let still : (heard (line ss) s).on ≡ false = rw off in silent_loses n (map (heard (line ss)) ss) (heard (line ss) s) still

pub spi_loses : (cards : List Card) (card : Card) → card.mode.spi ≡ true → wins_line cards card ≡ false
spi_loses cards card spi = silent_loses cid_bits (map cid_sender cards) (cid_sender card) (never_ready card spi)

-- ---- in its place
-- of a list whose first elements are changed, one that a change leaves alone is as it was
changed_kept : (f : Card → Card) (n i : ℕ) (l : List Card) (d : Card) → f (get_or l i d) ≡ get_or l i d
    → get_or (map f (take n l) ++ drop (length (map f (take n l))) l) i d ≡ get_or l i d
changed_kept f zero i l d same = refl
changed_kept f (suc n) i [] d same = refl
changed_kept f (suc n) zero (a ∷ l) d same = same
changed_kept f (suc n) (suc i) (a ∷ l) d same = changed_kept f n i l d same

module _ (bus : Bus) (place : ℕ) (none : Card) (spi : (get_or bus.cards place none).mode.spi ≡ true) where
  abbrev Kept : Answered → Type 0
  Kept answered = get_or answered.bus.cards place none ≡ get_or bus.cards place none

  framed_kept : (framing : Result Fields Refusal) → Kept (framed_on bus framing)
  unfolding command_for with_cards
  framed_kept (Err refusal) = refl
  framed_kept (Ok fields) =
      let card : Card = get_or bus.cards place none in
      guarded Kept fields.crc_right
      (λ t. changed_kept damaged_card (count_of bus) place bus.cards none (damage_unheard card spi))
      (λ t. guarded Kept (among fields.index bus_indices) (λ u. refl)
      (λ u. changed_kept (card_after (cards_of bus) fields.index fields.argument) (count_of bus) place bus.cards none
      (command_unheard card spi (cards_of bus) fields.index fields.argument)))

  pub spi_kept : (frame : List ℕ) → Kept (bus_frame bus frame)
  unfolding bus_frame
  spi_kept frame =
      guarded Kept (leb 1 (count_of bus)) {refusal = refused_on bus (by 13)} {rest = framed_on bus (framing_of frame)}
      (λ t. refl)
      (λ t. framed_kept (framing_of frame))
