-- Demand 1 in SPI, with the line low: what checks 1, 4, 5 and 6 make of a command. For every record.
--   judged_in_spi     every command is taken, or answered with bit 22, or comes to an Inactive card, which is silent: there is nothing else
--   illegal_shown     the R1 of an illegal command has the bit for 22, which is not pending afterwards
--   illegal_frame     a whole frame that is so answered leaves every lent byte
--   faulted_in_spi    a taken command that check 5 or 6 stops is answered by R1, stays where it is, leaves no tags, and changes nothing lent
--   faulted_low       a whole frame that is so answered leaves every lent byte
-- Assumes nothing.
use mathlib.Core.Path.{◌≡◌, refl, sym, ap, ◌∙◌, subst}
use mathlib.Core.Bool.{Bool, true, false, not, ◌||◌}
use mathlib.Core.List.{List, [], ◌∷◌}
use mathlib.Core.Logic.{inl}
use Prim.Native.Nat.{ℕ, ◌%◌}
use native.Mathlib.Omega.{arith}
use lib.Dec.{T, eqb}
use Rattle.base.proofs.Cases.{cases, clash}
use Rattle.base.specs.Choice.{pick}
use Rattle.card_record.specs.Record.{size_of, with_tags}
use Rattle.card_record.specs.declared.Card.{Card}
use Rattle.card_record.specs.declared.Mode.{Mode}
use Rattle.command.proofs.Faults.{judged_drops}
use Rattle.command.specs.Arguments.{argument_fault}
use Rattle.command.specs.Command.{met_by}
use Rattle.command.specs.Obey.{passes_lock, tagging_of, judged_of, reset_told, gone_idle, after_checks, acted_of}
use Rattle.command.specs.declared.Acted.{Acted}
use Rattle.command.specs.declared.Change.TheVariants.{Nothing as Unchanged}
use Rattle.moves.proofs.Among.{each}
use Rattle.moves.specs.Classes.{class_of}
use Rattle.moves.specs.Indices.{among}
use Rattle.moves.specs.declared.Move.{Move}
use Rattle.moves.specs.declared.Move.TheVariants.{Ignored, Silent, Illegal, To}
use Rattle.spi.specs.Answers.{response_of, answered_in, faulted}
use Rattle.spi.specs.Hearing.{taken_in, moved_in, spi_heard}
use Rattle.spi.specs.declared.Heard.{Heard}
use Rattle.spi.specs.declared.Response.{Response}
use Rattle.spi.specs.declared.Response.TheVariants.{R1, R2, R3}
use Rattle.spi_answers.proofs.Laws.{r1_says, r1_clears}
use Rattle.spi_answers.specs.Answers.{r1_of}
use Rattle.spi_moves.proofs.Laws.{judged, answered}
use Rattle.spi_moves.specs.Moves.{row_of, move_of}
use Rattle.states.specs.States.{column_of}
use Rattle.states.specs.declared.Column.{Column}
use Rattle.status.proofs.ErrorTheorems.{set_shows, named_shown}
use Rattle.status.specs.Bits.{bit_at}
use Rattle.status.specs.ErrorBits.{error_bit}
use Rattle.status.specs.Status.{with_bit}
use Rattle.status.specs.declared.ErrorBit.{ErrorBit}
use Rattle.status.specs.declared.Errors.{Errors}
use Rattle.store.specs.Lent.{Lent}
use Rattle.tags.specs.Tagging.{no_tags}
use Rattle.tags.specs.declared.Tagging.{Tagging}
use Rattle.tags.specs.declared.Tags.{Tags}
use Rattle.demands.specs.Faulted.{fault}
use Rattle.demands.specs.InSpi.{AnswersIllegal, heard_low, TakenInSpi, JudgedInSpi, FaultedInSpi}
use Rattle.demands.specs.Refused.{inactive, noted, cleared}
use Rattle.demands.specs.Silenced.{Reads, Unlent}
use Rattle.demands.proofs.Frames.{heard_in_spi, unlent}
use Rattle.std.specs.Prelude.{Option, Some, None}

class_0 : (locked : Bool) → not locked || true ≡ true
class_0 true = refl
class_0 false = refl

-- ---- illegal
module _ (card : Card) where
  illegally : AnswersIllegal card (faulted card.mode card.link (error_bit 22))
  unfolding faulted answered_in
  illegally = record { answer = refl; next = refl; change = refl }

  abbrev with_illegal : Errors
  with_illegal = (noted 22 card).link.errors

  pub illegal_shown : (idle : Bool) → (bit_at 2 (r1_of with_illegal idle) ≡ 1) × (bit_at 22 (cleared (noted 22 card)).link.errors.bits ≡ 0)
  illegal_shown idle =
      let set : bit_at 22 with_illegal.bits ≡ 1 = sym (named_shown with_illegal (error_bit 22)) ∙ set_shows card.link.errors (error_bit 22) in
      ((r1_says with_illegal idle).1.1.1.1.0.1 (inl set), r1_clears with_illegal 22 (omega arith))

-- a state that is not Inactive leaves no command without an answer
unanswered : {P : Type 0} (card : Card) (index : ℕ) (move : Move) → move_of (row_of index) (column_of card.link.state) ≡ move
    → (T (judged move) → ⊥) → (inactive card ≡ true → P) → P
unanswered card index move e untold go =
    cases (inactive card) go
    (λ (f : inactive card ≡ false).
    absurd (untold (subst (λ (m : Move). T (judged m)) e (answered (row_of index) (column_of card.link.state) f))))

module _ (card : Card) (here : card.mode.spi ≡ true) (wins : Bool) (index argument : ℕ) where
  -- the command as SPI's table has it
  abbrev by_move : Move → Heard
  by_move = moved_in card.mode card.link (met_by card wins) index argument

  low : (move : Move) → move_of (row_of index) (column_of card.link.state) ≡ move → heard_low card wins index argument ≡ by_move move
  unfolding spi_heard
  low move e = heard_in_spi card wins true index argument here ∙ ap by_move e

  pub judged_in_spi : JudgedInSpi card wins index argument
  judged_in_spi = go (move_of (row_of index) (column_of card.link.state)) refl
    where
      go : (move : Move) → move_of (row_of index) (column_of card.link.state) ≡ move → JudgedInSpi card wins index argument
      go Ignored e = unanswered card index Ignored e (λ t. t) (λ ina. JudgedInSpi.silent ina (low Ignored e))
      go Silent e = unanswered card index Silent e (λ t. t) (λ ina. JudgedInSpi.silent ina (low Silent e))
      go Illegal e = JudgedInSpi.illegal (subst (AnswersIllegal card) (sym (low Illegal e)) (illegally card))
      go (To column) e = JudgedInSpi.taken column e (low (To column) e)

  pub illegal_frame : (frame : List ℕ) (lent : Lent) (out : List ℕ) → Reads card frame lent index argument → AnswersIllegal card (heard_low card wins index argument)
      → Unlent card wins true frame lent out (heard_low card wins index argument)
  illegal_frame frame lent out reads a = unlent card wins true frame lent out index argument reads a.change

  -- ---- checks 5 and 6
  module _ (column : Column) (bit : ErrorBit) (taken : TakenInSpi card wins index argument column)
      (faults : fault card.link (met_by card wins) index argument ≡ Some bit) where
    abbrev tagging : Tagging
    tagging = judged_of card.link card.registers.groups card.lock.locked index argument

    -- class 0 passes check 5, and CMD0, 13, 58 and 59 have no argument to be wrong
    Without : ℕ → Type 0
    Without k = (judged_of card.link card.registers.groups card.lock.locked k argument).error ≡ None

    without : (k : ℕ) → passes_lock card.lock.locked k ≡ true → (tagging_of card.link (size_of card.registers.groups) k argument).error ≡ None → Without k
    unfolding judged_of Without
    without k passes none = rw passes none

    -- so the command is none of these
    not_these : among index (0 ∷ 13 ∷ 58 ∷ 59 ∷ []) ≡ false
    unfolding Without tagging_of argument_fault class_of
    not_these =
        cases (among index (0 ∷ 13 ∷ 58 ∷ 59 ∷ []))
        (λ (t : among index (0 ∷ 13 ∷ 58 ∷ 59 ∷ []) ≡ true).
        let none : tagging.error ≡ None =
        each Without (0 ∷ 13 ∷ 58 ∷ 59 ∷ []) (
          without 0 (class_0 card.lock.locked) refl,
          (
            without 13 (class_0 card.lock.locked) refl,
            (without 58 (class_0 card.lock.locked) refl, (without 59 (class_0 card.lock.locked) refl, tt)),
          ),
        ) index t in
        clash cc)
        (λ t. t)

    -- an answer by R1 to this, from tags
    abbrev stopped : Tags → Heard
    stopped tags =
        answered_in card.mode (record { link = with_tags card.link tags; errors = with_bit (reset_told card.link index) bit; change = Unchanged }) R1 card.lock.locked

    -- what it does, by what checks 5 and 6 found
    abbrev checked : Option ErrorBit → Acted
    checked error = after_checks card.link index argument column tagging.tags error

    none_of : (eqb index 0 ≡ false) × (eqb index 13 ≡ false) × (eqb index 58 ≡ false) × (eqb index 59 ≡ false)
    none_of =
        let zero : eqb index 0 ≡ false = cases (eqb index 0) (λ (t : eqb index 0 ≡ true). clash (cc (simp t at not_these))) (λ t. t) in
        let status : eqb index 13 ≡ false = cases (eqb index 13) (λ (t : eqb index 13 ≡ true). clash (cc (simp (zero, t) at not_these))) (λ t. t) in
        let ocr : eqb index 58 ≡ false = cases (eqb index 58) (λ (t : eqb index 58 ≡ true). clash (cc (simp (zero, status, t) at not_these))) (λ t. t) in
        let crc : eqb index 59 ≡ false = cases (eqb index 59) (λ (t : eqb index 59 ≡ true). clash (cc (simp (zero, status, ocr, t) at not_these))) (λ t. t) in
        (zero, status, ocr, crc)

    stopped_is : heard_low card wins index argument ≡ stopped no_tags
    unfolding taken_in acted_of after_checks
    stopped_is =
        let (zero, status, ocr, crc) = none_of in
        let answer : Mode → Acted → Response → Heard = λ mode acted response. answered_in mode acted response card.lock.locked in
        low (To column) taken
        ∙ ap (λ (t : Bool). answer (pick t (record { spi = true; checks = false }) (pick (eqb index 59) (record { spi = card.mode.spi; checks = eqb (argument % 2) 1 }) card.mode))
        (pick t gone_idle (checked tagging.error)) (response_of index)) zero
        ∙ ap (λ (t : Bool). answer (pick t (record { spi = card.mode.spi; checks = eqb (argument % 2) 1 }) card.mode) (checked tagging.error) (response_of index)) crc
        ∙ ap (λ (t : Bool). answer card.mode (checked tagging.error) (pick t R2 (pick (eqb index 58) R3 R1))) status
        ∙ ap (λ (t : Bool). answer card.mode (checked tagging.error) (pick t R3 R1)) ocr
        ∙ ap (λ (f : Option ErrorBit). answer card.mode (checked f) R1) faults
        ∙ ap stopped (judged_drops card.link card.registers.groups card.lock.locked index argument bit faults)

    pub faulted_in_spi : FaultedInSpi card wins index argument bit
    unfolding answered_in
    faulted_in_spi =
        record {
          answer = ap (λ (h : Heard). h.sent) stopped_is;
          errors = ap (λ (h : Heard). h.link.errors) stopped_is;
          mode = ap (λ (h : Heard). h.mode) stopped_is;
          state = ap (λ (h : Heard). h.link.state) stopped_is;
          address = ap (λ (h : Heard). h.link.address) stopped_is;
          length = ap (λ (h : Heard). h.link.length) stopped_is;
          tags = ap (λ (h : Heard). h.link.tags) stopped_is;
          change = ap (λ (h : Heard). h.change) stopped_is;
        }

    pub faulted_low : (frame : List ℕ) (lent : Lent) (out : List ℕ) → Reads card frame lent index argument
        → Unlent card wins true frame lent out (heard_low card wins index argument)
    faulted_low frame lent out reads = unlent card wins true frame lent out index argument reads faulted_in_spi.change
