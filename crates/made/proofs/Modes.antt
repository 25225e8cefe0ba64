-- How a card comes into SPI and out of it, over any list of calls, whatever the record is: "A card enters SPI when CMD0 comes with its select
-- line low and leaves by power-on only".
--   stays_in_spi    no call but power-on takes a card out of SPI
--   powers_out      power-on does
--   enters_by       a call that brings a card into SPI is a frame with the line low, read as CMD0 with a right CRC7, at a card that is not Inactive
--   run_in_spi      so a card in SPI is in SPI after any list of calls without a power-on
--   run_in_mmc      and one in MMC mode is in MMC mode after any without a frame with the line low
-- Assumes nothing.
use mathlib.Core.Path.{◌≡◌, refl, sym, ap, ◌∙◌}
use mathlib.Core.Bool.{Bool, true, false, not, ◌&&◌}
use mathlib.Core.List.{List, [], ◌∷◌}
use Prim.Native.Nat.{ℕ}
use borrow.Author.Tests.{eqb-true, not-true}
use lib.Dec.{eqb}
use lib.ListN.{length}
use Rattle.base.proofs.Cases.{cases, first, last, never, opposite}
use Rattle.card.proofs.Outcomes.{FrameOutcome, unheard, damaged, commands, frame_outcome, told}
use Rattle.card.specs.Frame.{FrameJudged, frame_judged, spares, frame_stepped}
use Rattle.card.specs.Step.{step_of}
use Rattle.card.specs.declared.Call.{Call}
use Rattle.card.specs.declared.Call.TheVariants.{Frame, BlockIn, BlockOut, WorkDone, PowerOn}
use Rattle.card_blocks.proofs.Outcomes.{InOutcome, unreads, refuses, stores, grants, forces, OutOutcome, unsends, past, across, sends, block_outcome, out_outcome}
use Rattle.card_blocks.specs.BlockIn.{block_refused, block_good}
use Rattle.card_blocks.specs.BlockOut.{out_refused, out_good}
use Rattle.card_blocks.specs.declared.BlockJudged.{BlockJudged}
use Rattle.card_blocks.specs.declared.OutJudged.{OutJudged}
use Rattle.card_blocks.specs.declared.Stepped.{Stepped}
use Rattle.card_record.specs.Power.{powered_on, worked}
use Rattle.card_record.specs.declared.Card.{Card}
use Rattle.card_record.specs.declared.Mode.{Mode}
use Rattle.command.specs.Command.{met_by}
use Rattle.spi.proofs.Laws.{stays_in_spi as heard_stays, is_inactive, enters as heard_enters, damage_keeps_mode}
use Rattle.spi.specs.Hearing.{crc_passes}
use Rattle.store.specs.Lent.{Seen, seen}
use Rattle.wire.specs.Frames.{framing_of, as_fields}
use Rattle.made.specs.Run.{World, Input, next, run_of}
use Rattle.std.specs.Prelude.{Ok}

-- a frame that brings a card into SPI
pub record Enters (card : Card) (selected : Bool) (frame : List ℕ) : Type 0 where
  pub low : selected ≡ true
  pub argument : ℕ
  pub zero : framing_of frame ≡ Ok (as_fields 0 argument true)
  pub awake : is_inactive card.link ≡ false

abbrev pub IsPowerOn : Call → Type 0
IsPowerOn (Frame wins selected) = ⊥
IsPowerOn BlockIn = ⊥
IsPowerOn BlockOut = ⊥
IsPowerOn WorkDone = ⊥
IsPowerOn PowerOn = Unit {0}

module _ (card : Card) where
  -- ---- blocks and work done
  in_mode : (block : List ℕ) (seen : Seen) {judged : BlockJudged} → InOutcome card block seen judged → judged.stepped.card.mode ≡ card.mode
  unfolding block_refused block_good
  in_mode block seen (unreads n listed) = refl
  in_mode block seen (refuses incoming refusal fault on why) = refl
  in_mode block seen (stores incoming at w on right) = refl
  in_mode block seen (grants on granted) = refl
  in_mode block seen (forces on erased) = refl

  out_mode : {judged : OutJudged} → OutOutcome card judged → judged.stepped.card.mode ≡ card.mode
  unfolding out_refused out_good
  out_mode (unsends n listed) = refl
  out_mode (past outgoing on) = refl
  out_mode (across outgoing on) = refl
  out_mode (sends outgoing next n sending on within) = refl

  -- ---- frames
  module _ (wins selected : Bool) (frame : List ℕ) (seen : Seen) where
    abbrev after : FrameJudged → Bool
    after judged = judged.stepped.card.mode.spi

    judged_stays : {judged : FrameJudged} → FrameOutcome card wins selected frame seen judged → card.mode.spi ≡ true → after judged ≡ true
    judged_stays (unheard n listed) here = here
    judged_stays (damaged index argument is fails) here = ap (λ (m : Mode). m.spi) (damage_keeps_mode card.mode selected card.link) ∙ here
    judged_stays (commands index argument right is passes lent) here =
        heard_stays card.mode card.link (met_by card wins) index argument selected here

    -- with CRC7 not counting in SPI alone, a frame that is taken in MMC mode has it right
    right_in_mmc : card.mode.spi ≡ false → (index : ℕ) (right : Bool) → crc_passes card.mode index right ≡ true → right ≡ true
    right_in_mmc here index true e = refl
    right_in_mmc here index false e = never (sym (ap (λ (s : Bool). s && (not card.mode.checks && not (eqb index 0))) here) ∙ e)

    judged_enters : {judged : FrameJudged} → FrameOutcome card wins selected frame seen judged → card.mode.spi ≡ false → after judged ≡ true
        → Enters card selected frame
    judged_enters (unheard n listed) here e = opposite card.mode.spi e here
    judged_enters (damaged index argument is fails) here e =
        opposite card.mode.spi (sym (ap (λ (m : Mode). m.spi) (damage_keeps_mode card.mode selected card.link)) ∙ e) here
    judged_enters (commands index argument right is passes lent) here e =
        let all = sym (heard_enters card.mode card.link (met_by card wins) index argument here selected) ∙ e in
        let rest = last selected (eqb index 0 && not (is_inactive card.link)) all in
        let zero : index ≡ 0 = eqb-true index 0 (first (eqb index 0) (not (is_inactive card.link)) rest) in
        record {
          low = first selected (eqb index 0 && not (is_inactive card.link)) all;
          argument = argument;
          zero = is ∙ ap (λ (r : Bool). Ok (as_fields index argument r)) (right_in_mmc here index right passes) ∙ ap (λ (i : ℕ). Ok (as_fields i argument true)) zero;
          awake = not-true (is_inactive card.link) (last (eqb index 0) (not (is_inactive card.link)) rest);
        }

    abbrev stepped : Stepped
    stepped = (frame_judged card wins selected frame seen).stepped

    -- telling of a spared sector changes no mode
    spared_mode : (frame_stepped card wins selected frame seen).card.mode.spi ≡ stepped.card.mode.spi
    unfolding frame_stepped
    spared_mode =
        told (λ (s : Stepped). s.card.mode.spi ≡ stepped.card.mode.spi) stepped (spares card seen (frame_judged card wins selected frame seen).change) refl refl

  -- ---- every call
  pub stays_in_spi : (call : Call) (input : List ℕ) (seen : Seen) (room : ℕ) → (IsPowerOn call → ⊥) → card.mode.spi ≡ true
      → (step_of card call input seen room).card.mode.spi ≡ true
  unfolding worked
  stays_in_spi (Frame wins selected) input seen room other here =
      spared_mode wins selected input seen ∙ judged_stays wins selected input seen (frame_outcome card wins selected input seen) here
  stays_in_spi BlockIn input seen room other here = ap (λ (m : Mode). m.spi) (in_mode input seen (block_outcome card input seen)) ∙ here
  stays_in_spi BlockOut input seen room other here = ap (λ (m : Mode). m.spi) (out_mode (out_outcome card seen room)) ∙ here
  stays_in_spi WorkDone input seen room other here = here
  stays_in_spi PowerOn input seen room other here = absurd (other tt)

  pub powers_out : (input : List ℕ) (seen : Seen) (room : ℕ) → (step_of card PowerOn input seen room).card.mode.spi ≡ false
  unfolding powered_on
  powers_out input seen room = refl

  -- what a call must be to bring a card into SPI
  abbrev pub Brings : Call → List ℕ → Type 0
  Brings (Frame wins selected) input = Enters card selected input
  Brings BlockIn input = ⊥
  Brings BlockOut input = ⊥
  Brings WorkDone input = ⊥
  Brings PowerOn input = ⊥

  pub enters_by : (call : Call) (input : List ℕ) (seen : Seen) (room : ℕ) → card.mode.spi ≡ false
      → (step_of card call input seen room).card.mode.spi ≡ true → Brings call input
  unfolding worked powered_on
  enters_by (Frame wins selected) input seen room here e =
      judged_enters wins selected input seen (frame_outcome card wins selected input seen) here (sym (spared_mode wins selected input seen) ∙ e)
  enters_by BlockIn input seen room here e =
      opposite card.mode.spi (sym (ap (λ (m : Mode). m.spi) (in_mode input seen (block_outcome card input seen))) ∙ e) here
  enters_by BlockOut input seen room here e =
      opposite card.mode.spi (sym (ap (λ (m : Mode). m.spi) (out_mode (out_outcome card seen room))) ∙ e) here
  enters_by WorkDone input seen room here e = opposite card.mode.spi e here
  enters_by PowerOn input seen room here e = never e

-- ---- runs
abbrev pub NonePowerOn : List Input → Type 0
NonePowerOn [] = Unit {0}
NonePowerOn (input ∷ inputs) = (IsPowerOn input.call → ⊥) × NonePowerOn inputs

pub run_in_spi : (world : World) (inputs : List Input) → NonePowerOn inputs → world.card.mode.spi ≡ true → (run_of world inputs).card.mode.spi ≡ true
unfolding run_of next
run_in_spi world [] none here = here
run_in_spi world (input ∷ inputs) none here =
    run_in_spi (next world input) inputs none.1
    (stays_in_spi world.card input.call input.bytes (seen world.lent) (length input.output) none.0 here)

-- a call that is no frame with the line low
abbrev pub High : Call → Type 0
High (Frame wins selected) = selected ≡ false
High BlockIn = Unit {0}
High BlockOut = Unit {0}
High WorkDone = Unit {0}
High PowerOn = Unit {0}

abbrev pub AllHigh : List Input → Type 0
AllHigh [] = Unit {0}
AllHigh (input ∷ inputs) = High input.call × AllHigh inputs

unbrought : (card : Card) (call : Call) (input : List ℕ) → High call → Brings card call input → ⊥
unbrought card (Frame wins selected) input high brings = opposite selected brings.low high
unbrought card BlockIn input high brings = brings
unbrought card BlockOut input high brings = brings
unbrought card WorkDone input high brings = brings
unbrought card PowerOn input high brings = brings

pub run_in_mmc : (world : World) (inputs : List Input) → AllHigh inputs → world.card.mode.spi ≡ false → (run_of world inputs).card.mode.spi ≡ false
unfolding run_of next
run_in_mmc world [] high here = here
run_in_mmc world (input ∷ inputs) high here =
    run_in_mmc (next world input) inputs high.1
    (cases (next world input).card.mode.spi
    (λ (t : (next world input).card.mode.spi ≡ true).
    absurd (unbrought world.card input.call input.bytes high.0
    (enters_by world.card input.call input.bytes (seen world.lent) (length input.output) here t)))
    (λ (t : (next world input).card.mode.spi ≡ false). t))
