-- A card in Inactive leaves it by power-on alone, in MMC mode and in SPI.
--   inactive_ends      under every other call it is equal in every field afterwards
--   inactive_silent    a frame is not answered, whatever the select line, also where it is refused 3
--   inactive_unheard   a command is not heard
-- Assumes nothing.
use mathlib.Core.Path.{◌≡◌, refl, sym, ap, ◌∙◌, subst}
use mathlib.Core.Bool.{Bool, true, false}
use mathlib.Core.List.{List}
use Prim.Native.Nat.{ℕ}
use lib.Dec.{eqb}
use Rattle.base.proofs.Cases.{picked}
use Rattle.card_blocks.specs.BlockIn.{unread, state_judged, block_judged}
use Rattle.card_blocks.specs.BlockOut.{unsent, state_sends, out_judged}
use Rattle.card.specs.Frame.{frame_stepped}
use Rattle.card.specs.Step.{step_of}
use Rattle.card_blocks.specs.declared.BlockJudged.{BlockJudged}
use Rattle.card.specs.declared.Call.{Call}
use Rattle.card.specs.declared.Call.TheVariants.{Frame, BlockIn, BlockOut, WorkDone, PowerOn}
use Rattle.card_blocks.specs.declared.OutJudged.{OutJudged}
use Rattle.card_blocks.specs.declared.Stepped.{Stepped}
use Rattle.command.specs.Command.{met_by, damaged_link}
use Rattle.command.specs.declared.Met.{Met}
use Rattle.card_record.specs.Power.{worked}
use Rattle.card_record.specs.declared.Card.{Card}
use Rattle.card_record.specs.declared.Sent.TheVariants.{Nothing as Unsent}
use Rattle.spi.proofs.Laws.{is_inactive}
use Rattle.spi.specs.Hearing.{unheard, heard_in_mmc, moved_in, spi_heard, as_spi, heard_of, damaged_of}
use Rattle.spi.specs.declared.Heard.{Heard}
use Rattle.spi_moves.proofs.Laws.{inactive}
use Rattle.spi_moves.specs.Moves.{row_of, move_of}
use Rattle.states.specs.States.{column_of, column_number}
use Rattle.states.specs.declared.State.{State}
use Rattle.states.specs.declared.State.TheVariants.{Ina}
use Rattle.store.proofs.OnceLent.{once_lent_lem}
use Rattle.store.specs.Lent.{Seen}
use Rattle.demands.proofs.Silenced.{check_1}
use Rattle.demands.proofs.Frames.{stepped_stays}

module _ (card : Card) (ina : card.link.state ≡ Ina) where
  -- "Inactive: silent, unchanged", in MMC mode and in SPI
  pub inactive_unheard : (wins selected : Bool) (index argument : ℕ)
      → heard_of card.mode selected card.link (met_by card wins) index argument ≡ unheard card.mode card.link
  unfolding heard_of spi_heard
  inactive_unheard wins selected index argument =
      let met : Met = met_by card wins in
      let low : spi_heard card.mode card.link met index argument ≡ unheard card.mode card.link =
      ap (λ (s : State). moved_in card.mode card.link met index argument (move_of (row_of index) (column_of s))) ina
      ∙ ap (moved_in card.mode card.link met index argument) (inactive (row_of index))
      in
      picked (λ (h : Heard). h ≡ unheard card.mode card.link) (as_spi card.mode selected index) (λ t. low)
      (λ t. picked (λ (h : Heard). h ≡ unheard card.mode card.link) card.mode.spi (λ here. refl)
      (λ here. ap (heard_in_mmc card.mode) (check_1 card.link met index argument ina)))

  test : is_inactive card.link ≡ true
  test = ap (λ (s : State). eqb (column_number (column_of s)) 9) ina

  -- 3 too: "3 sets bit 23 of the card .. unless Inactive"
  damage_unheard : (selected : Bool) → damaged_of card.mode selected card.link ≡ unheard card.mode card.link
  unfolding damaged_of damaged_link
  damage_unheard true = rw test (picked (λ (h : Heard). h ≡ unheard card.mode card.link) card.mode.spi (λ here. refl) (λ here. refl))
  damage_unheard false = rw test (picked (λ (h : Heard). h ≡ unheard card.mode card.link) card.mode.spi (λ here. refl) (λ here. refl))

  abbrev Same : Stepped → Type 0
  Same stepped = (stepped.card ≡ card) × (stepped.reply.sent ≡ Unsent)

  frame_stays : (wins selected : Bool) (input : List ℕ) (seen : Seen) → Same (frame_stepped card wins selected input seen)
  frame_stays wins selected = stepped_stays card wins selected (inactive_unheard wins selected) (damage_unheard selected)

  pub inactive_silent : (wins selected : Bool) (input : List ℕ) (seen : Seen) (room : ℕ) → (step_of card (Frame wins selected) input seen room).reply.sent ≡ Unsent
  inactive_silent wins selected input seen room = (frame_stays wins selected input seen).1

  pub inactive_ends : (call : Call) → (call ≡ PowerOn → ⊥) → (input : List ℕ) (seen : Seen) (room : ℕ)
      → (step_of card call input seen room).card ≡ card
  unfolding block_judged out_judged worked
  inactive_ends (Frame wins selected) other input seen room = (frame_stays wins selected input seen).0
  inactive_ends BlockIn other input seen room =
      once_lent_lem seen card.registers.groups (λ (j : BlockJudged). j.stepped.card ≡ card) (unread card) refl
      (λ t. subst (λ (s : State). (state_judged card s input seen.map).stepped.card ≡ card) (sym ina) refl)
  inactive_ends BlockOut other input seen room =
      once_lent_lem seen card.registers.groups (λ (j : OutJudged). j.stepped.card ≡ card) (unsent card) refl
      (λ t. subst (λ (s : State). (state_sends card s room).stepped.card ≡ card) (sym ina) refl)
  inactive_ends WorkDone other input seen room = rw ina
  inactive_ends PowerOn other input seen room = absurd (other refl)
