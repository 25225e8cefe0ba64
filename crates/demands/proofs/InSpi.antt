-- Document 02, request 1, frames at a card. For every record, and every frame.
--   past_two         a frame that 12, 1 and 2 let on is refused 3 or is carried out, with the line low or high
--   three_exactly    it is refused 3 exactly if its CRC7 is wrong and counts: in MMC mode always, in SPI if checking is on or it is CMD0
--   crc_unread       where it is not, it is judged as its command, whether its CRC7 is right or wrong
--   line_unnumbered  12, 1, 2 and 3 are given alike with the line low and with it high, in both modes
--   line_unread_frame   at a card in MMC mode the line is read for an undamaged CMD0 alone: any other frame does the same with it low and high
--   high_ignored     at a card in SPI a frame with the line high changes nothing and sends nothing, also where it is refused
-- Assumes nothing.
use mathlib.Core.Path.{◌≡◌, refl, sym, ap, ◌∙◌}
use mathlib.Core.Bool.{Bool, true, false, not, ◌&&◌, ◌||◌}
use mathlib.Core.List.{List}
use Prim.Native.Nat.{ℕ}
use lib.Dec.{eqb}
use lib.ListN.{length}
use Rattle.base.proofs.Cases.{cases, clash}
use Rattle.base.specs.Choice.{pick, unless}
use Rattle.base.specs.Refusals.{by}
use Rattle.card.proofs.Outcomes.{told}
use Rattle.card.specs.Frame.{FrameJudged, frame_refused, commanded, framed, frame_judged, frame_told, frame_stepped, spares, changed_by}
use Rattle.card.specs.Step.{step_of}
use Rattle.card.specs.declared.Call.TheVariants.{Frame}
use Rattle.card_blocks.specs.declared.Stepped.{Stepped}
use Rattle.card_record.specs.declared.Card.{Card}
use Rattle.card_record.specs.declared.Mode.{Mode}
use Rattle.command.specs.Command.{met_by, damaged_link}
use Rattle.command.specs.declared.Change.{Change}
use Rattle.spi.proofs.Laws.{is_inactive, line_unread, spi_high}
use Rattle.spi.specs.Answers.{faulted}
use Rattle.spi.specs.Hearing.{unheard, heard_of, crc_passes, damaged_of}
use Rattle.spi.specs.declared.Heard.{Heard}
use Rattle.status.specs.ErrorBits.{error_bit}
use Rattle.store.specs.Lent.{Lent, Seen, seen, lending_of, once_lent}
use Rattle.wire.specs.Frames.{framing_of, as_fields}
use Rattle.demands.specs.InSpi.{LetOn, refuses3, is_reset, LineUnread, Ignored}
use Rattle.demands.specs.Refused.{Refuses}
use Rattle.demands.proofs.Frames.{judged_as, judged_stays, stepped_stays}
use Rattle.std.specs.Prelude.{Result, Option, Ok, Err, None}
use Rattle.base.specs.declared.Refusal.{Refusal}
use Rattle.wire.specs.declared.Fields.{Fields}

-- ---- 3
-- a CRC7 counts where it would not pass
by_four : (right spi checks zero : Bool) → (right || (spi && (not checks && not zero))) ≡ not (not right && (not spi || (checks || zero)))
by_four true spi checks zero = refl
by_four false false checks zero = refl
by_four false true true zero = refl
by_four false true false true = refl
by_four false true false false = refl

passes_not : (mode : Mode) (index : ℕ) (right : Bool) → crc_passes mode index right ≡ not (refuses3 mode index right)
passes_not mode index right = by_four right mode.spi mode.checks (eqb index 0)

-- what became of a frame, where this is how it was judged
abbrev outcome_of : FrameJudged → Result (Option ℕ) Refusal
outcome_of judged = judged.stepped.reply.outcome

three_or_done : (t : Bool) (card : Card) (damaged given : Heard)
    → outcome_of (unless (not t) (commanded card (Err (by 3)) damaged) (commanded card (Ok None) given)) ≡ pick t (Err (by 3)) (Ok None)
three_or_done true card damaged given = refl
three_or_done false card damaged given = refl

-- telling of a spared sector leaves what became of the frame
outcome_told : (card : Card) (wins selected : Bool) (frame : List ℕ) (seen : Seen)
    → (frame_stepped card wins selected frame seen).reply.outcome ≡ outcome_of (frame_judged card wins selected frame seen)
unfolding frame_stepped
outcome_told card wins selected frame seen =
    let judged : FrameJudged = frame_judged card wins selected frame seen in
    told (λ (s : Stepped). s.reply.outcome ≡ outcome_of judged) judged.stepped (spares card seen judged.change) refl refl

module _ (card : Card) (wins selected : Bool) (frame : List ℕ) (lent : Lent) (out : List ℕ) (index argument : ℕ) (right : Bool)
    (on : LetOn card frame lent index argument right) where
  abbrev three : Bool
  three = refuses3 card.mode index right

  pub past_two : (step_of card (Frame wins selected) frame (seen lent) (length out)).reply.outcome ≡ pick three (Err (by 3)) (Ok None)
  past_two =
      let damaged : Heard = damaged_of card.mode selected card.link in
      let given : Heard = heard_of card.mode selected card.link (met_by card wins) index argument in
      outcome_told card wins selected frame (seen lent)
      ∙ ap outcome_of (judged_as card wins selected frame (seen lent) on.lent_right (Ok (as_fields index argument right)) on.framing)
      ∙ ap (λ (t : Bool). outcome_of (unless t (commanded card (Err (by 3)) damaged) (commanded card (Ok None) given))) (passes_not card.mode index right)
      ∙ three_or_done three card damaged given

  pub crc_unread : three ≡ false
      → frame_judged card wins selected frame (seen lent)
      ≡ commanded card (Ok None) (heard_of card.mode selected card.link (met_by card wins) index argument)
  crc_unread counts =
      let damaged : Heard = damaged_of card.mode selected card.link in
      let given : Heard = heard_of card.mode selected card.link (met_by card wins) index argument in
      judged_as card wins selected frame (seen lent) on.lent_right (Ok (as_fields index argument right)) on.framing
      ∙ ap (λ (t : Bool). unless t (commanded card (Err (by 3)) damaged) (commanded card (Ok None) given))
      (passes_not card.mode index right ∙ ap not counts)

  pub three_exactly : (Refuses card (Frame wins selected) frame lent out (by 3) → three ≡ true)
      × (three ≡ true → Refuses card (Frame wins selected) frame lent out (by 3))
  three_exactly = (
    λ (e : Refuses card (Frame wins selected) frame lent out (by 3)).
        cases three (λ (t : three ≡ true). t)
        (λ (t : three ≡ false).
        let done : Ok None ≡ Err (by 3) = sym (ap (λ (b : Bool). pick b (Err (by 3)) (Ok None)) t) ∙ sym past_two ∙ e in
        clash cc),
    λ (t : three ≡ true). past_two ∙ ap (λ (b : Bool). pick b (Err (by 3)) (Ok None)) t,
  )

-- ---- the line
guarded_alike : (t : Bool) (card : Card) (damaged given other_damaged other_given : Heard)
    → outcome_of (unless t (commanded card (Err (by 3)) damaged) (commanded card (Ok None) given))
    ≡ outcome_of (unless t (commanded card (Err (by 3)) other_damaged) (commanded card (Ok None) other_given))
guarded_alike true card damaged given other_damaged other_given = refl
guarded_alike false card damaged given other_damaged other_given = refl

framed_alike : (card : Card) (wins : Bool) (framing : Result Fields Refusal) → outcome_of (framed card wins true framing) ≡ outcome_of (framed card wins false framing)
framed_alike card wins (Err refusal) = refl
framed_alike card wins (Ok fields) =
    guarded_alike (crc_passes card.mode fields.index fields.crc_right) card
    (damaged_of card.mode true card.link) (heard_of card.mode true card.link (met_by card wins) fields.index fields.argument)
    (damaged_of card.mode false card.link) (heard_of card.mode false card.link (met_by card wins) fields.index fields.argument)

lent_alike : (lending : Result Unit Refusal) (card : Card) (wins : Bool) (framing : Result Fields Refusal)
    → outcome_of (once_lent lending (frame_refused card) (framed card wins true framing))
    ≡ outcome_of (once_lent lending (frame_refused card) (framed card wins false framing))
lent_alike (Ok tt) card wins framing = framed_alike card wins framing
lent_alike (Err refusal) card wins framing = refl

pub line_unnumbered : (card : Card) (wins : Bool) (frame : List ℕ) (seen : Seen) (room : ℕ)
    → (step_of card (Frame wins true) frame seen room).reply.outcome ≡ (step_of card (Frame wins false) frame seen room).reply.outcome
unfolding frame_judged
line_unnumbered card wins frame seen room =
    outcome_told card wins true frame seen
    ∙ lent_alike (lending_of seen card.registers.groups) card wins (framing_of frame)
    ∙ sym (outcome_told card wins false frame seen)

-- in MMC mode
module _ (card : Card) (here : card.mode.spi ≡ false) where
  damaged_unread : (selected : Bool) → damaged_of card.mode selected card.link ≡ unheard card.mode (damaged_link card.link)
  unfolding damaged_of
  damaged_unread selected =
      ap (λ (spi : Bool).
      pick spi (pick (selected && not (is_inactive card.link)) (faulted card.mode card.link (error_bit 23)) (unheard card.mode card.link))
      (unheard card.mode (damaged_link card.link))) here

  fields_unread : (wins : Bool) (index argument : ℕ) (right : Bool) → is_reset (Ok (as_fields index argument right)) ≡ false
      → framed card wins true (Ok (as_fields index argument right)) ≡ framed card wins false (Ok (as_fields index argument right))
  fields_unread wins index argument true e = ap (commanded card (Ok None)) (line_unread card.mode card.link (met_by card wins) index argument here e)
  fields_unread wins index argument false e = refused3 true ∙ sym (refused3 false)
    where
      refused3 : (selected : Bool) → framed card wins selected (Ok (as_fields index argument false))
          ≡ commanded card (Err (by 3)) (unheard card.mode (damaged_link card.link))
      refused3 selected =
          ap (λ (spi : Bool).
          unless (spi && (not card.mode.checks && not (eqb index 0))) (commanded card (Err (by 3)) (damaged_of card.mode selected card.link))
          (commanded card (Ok None) (heard_of card.mode selected card.link (met_by card wins) index argument))) here
          ∙ ap (commanded card (Err (by 3))) (damaged_unread selected)

  framed_unread : (wins : Bool) (framing : Result Fields Refusal) → is_reset framing ≡ false → framed card wins true framing ≡ framed card wins false framing
  framed_unread wins (Err refusal) e = refl
  framed_unread wins (Ok fields) e = fields_unread wins fields.index fields.argument fields.crc_right e

  pub line_unread_frame : (wins : Bool) (frame : List ℕ) (lent : Lent) (room : ℕ) → is_reset (framing_of frame) ≡ false → LineUnread card wins frame lent room
  unfolding frame_stepped frame_judged
  line_unread_frame wins frame lent room e =
      let alike = framed_unread wins (framing_of frame) e in
      record {
        step = ap (λ (j : FrameJudged). frame_told card (seen lent) (once_lent (lending_of (seen lent) card.registers.groups) (frame_refused card) j)) alike;
        lent_alike = ap (λ (j : FrameJudged). changed_by card (once_lent (lending_of (seen lent) card.registers.groups) (frame_refused card) j).change lent) alike;
      }

module _ (card : Card) (here : card.mode.spi ≡ true) where
  damage_ignored : damaged_of card.mode false card.link ≡ unheard card.mode card.link
  unfolding damaged_of
  damage_ignored =
      ap (λ (h : Bool). pick h (unheard card.mode card.link) (unheard card.mode (damaged_link card.link))) here

  pub high_ignored : (wins : Bool) (frame : List ℕ) (lent : Lent) (out : List ℕ) → Ignored card wins frame lent out
  high_ignored wins frame lent out =
      let deaf : (index argument : ℕ) → heard_of card.mode false card.link (met_by card wins) index argument ≡ unheard card.mode card.link =
      λ index argument. spi_high card.mode card.link (met_by card wins) index argument here in
      let stepped = stepped_stays card wins false deaf damage_ignored frame (seen lent) in
      record {
        next = stepped.0;
        unsent = stepped.1;
        lent_kept = ap (λ (c : Change). changed_by card c lent) (judged_stays card wins false deaf damage_ignored frame (seen lent)).2;
        output_kept = refl;
      }
