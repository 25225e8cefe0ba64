-- What sets a card's block length, whatever the record is and whatever comes in.
--   elsewhere      CMD16 outside tran leaves it, in both modes
--   length_left    after any call it is as it was, that of a reset, or the one that a CMD16 asked for which was taken
--   reset_link     CMD0 leaves the link of a reset wherever it is heard: in MMC mode whatever the line is, in SPI with it low, and not in Inactive
-- Assumes nothing.
use mathlib.Core.Path.{◌≡◌, refl, sym, ap, ◌∙◌, subst, subst⁻¹}
use mathlib.Core.Bool.{Bool, true, false}
use mathlib.Core.List.{List}
use mathlib.Core.Logic.{◌⊎◌, inl, inr}
use Prim.Native.Nat.{ℕ, ◌%◌}
use native.Mathlib.Omega.{arith}
use borrow.Author.Tests.{eqb-true, eqb-false}
use lib.Dec.{eqb}
use Rattle.base.proofs.Cases.{cases, picked, clash, never}
use Rattle.base.specs.Choice.{pick}
use Rattle.card.proofs.Outcomes.{FrameOutcome, unheard, damaged, commands, frame_outcome, told}
use Rattle.card.specs.Frame.{FrameJudged, frame_judged, spares, frame_stepped}
use Rattle.card.specs.Step.{step_of}
use Rattle.card.specs.declared.Call.{Call}
use Rattle.card.specs.declared.Call.TheVariants.{Frame, BlockIn, BlockOut, WorkDone, PowerOn}
use Rattle.card_blocks.proofs.Outcomes.{InOutcome, unreads, refuses, stores, grants, forces, OutOutcome, unsends, past, across, sends, block_outcome, out_outcome}
use Rattle.card_blocks.specs.BlockIn.{block_refused, block_good}
use Rattle.card_blocks.specs.BlockOut.{out_refused, out_good}
use Rattle.card_blocks.specs.declared.BlockJudged.{BlockJudged}
use Rattle.card_blocks.specs.declared.OutJudged.{OutJudged}
use Rattle.card_blocks.specs.declared.Stepped.{Stepped}
use Rattle.card_record.specs.Power.{fresh_link, powered_on, worked}
use Rattle.card_record.specs.Record.{with_state}
use Rattle.card_record.specs.declared.Card.{Card}
use Rattle.card_record.specs.declared.Link.{Link}
use Rattle.card_record.specs.declared.Mode.{Mode}
use Rattle.command.proofs.Reset.{go_idle}
use Rattle.command.specs.Answers.{silent}
use Rattle.command.specs.Arguments.{argument_fault}
use Rattle.command.specs.Command.{met_by, command_of}
use Rattle.command.specs.Obey.{tagging_of, judged_of}
use Rattle.command.specs.declared.Change.{Change}
use Rattle.command.specs.declared.Commanded.{Commanded}
use Rattle.command.specs.declared.Met.{Met}
use Rattle.moves.specs.Moves.{move_of}
use Rattle.moves.specs.Rows.{transfer_row, row_of}
use Rattle.spi.proofs.Laws.{mmc_heard, is_inactive, reset as reset_low, damage_errors}
use Rattle.spi.specs.Answers.{answered_in, faulted}
use Rattle.spi.specs.Hearing.{heard_in_mmc, spi_heard, as_spi, heard_of}
use Rattle.spi.specs.declared.Heard.{Heard}
use Rattle.spi_moves.specs.Moves.{row_of as row_in_spi, move_of as move_in_spi}
use Rattle.states.specs.declared.State.{State}
use Rattle.states.specs.declared.State.TheVariants.{Idle, Ready, Ident, Stby, Tran, Data, Rcv, Prg, Dis, Ina}
use Rattle.store.specs.Lent.{Seen}
use Rattle.made.proofs.Faults.{length_right}
use Rattle.made.proofs.Heard.{heard_or_not}
use Rattle.made.proofs.Took.{Took, stopped, reset, obeyed, unfaulted, heard_took}
use Rattle.made.specs.BlockLength.{Brings, LengthLeft, kept, powered, idled, set}
use Rattle.made.specs.Run.{Input}
use Rattle.std.specs.Prelude.{None}

-- ---- CMD16 outside tran
in_tran : (s : State) → (s ≡ Tran) ⊎ (s ≡ Tran → ⊥)
in_tran Idle = inr (λ e. clash cc)
in_tran Ready = inr (λ e. clash cc)
in_tran Ident = inr (λ e. clash cc)
in_tran Stby = inr (λ e. clash cc)
in_tran Tran = inl refl
in_tran (Data outgoing) = inr (λ e. clash cc)
in_tran (Rcv incoming) = inr (λ e. clash cc)
in_tran Prg = inr (λ e. clash cc)
in_tran Dis = inr (λ e. clash cc)
in_tran Ina = inr (λ e. clash cc)

module _ (mode : Mode) (selected : Bool) (link : Link) (met : Met) (argument : ℕ) where
  -- the length that CMD16 leaves, as MMC mode and as SPI take it
  abbrev Keeps : Heard → Type 0
  Keeps heard = heard.link.length ≡ link.length

  unset_in_mmc : (s : State) → (s ≡ Tran → ⊥) → Keeps (heard_in_mmc mode (command_of (with_state link s) met 16 argument))
  unfolding command_of row_of transfer_row move_of
  unset_in_mmc Idle off = refl
  unset_in_mmc Ready off = refl
  unset_in_mmc Ident off = refl
  unset_in_mmc Stby off = refl
  unset_in_mmc Tran off = absurd (off refl)
  unset_in_mmc (Data outgoing) off = refl
  unset_in_mmc (Rcv incoming) off = refl
  unset_in_mmc Prg off = refl
  unset_in_mmc Dis off = refl
  unset_in_mmc Ina off = refl

  unset_in_spi : (s : State) → (s ≡ Tran → ⊥) → Keeps (spi_heard mode (with_state link s) met 16 argument)
  unfolding spi_heard row_in_spi move_in_spi faulted answered_in
  unset_in_spi Idle off = refl
  unset_in_spi Ready off = refl
  unset_in_spi Ident off = refl
  unset_in_spi Stby off = refl
  unset_in_spi Tran off = absurd (off refl)
  unset_in_spi (Data outgoing) off = refl
  unset_in_spi (Rcv incoming) off = refl
  unset_in_spi Prg off = refl
  unset_in_spi Dis off = refl
  unset_in_spi Ina off = refl

  elsewhere : (s : State) → link.state ≡ s → (s ≡ Tran → ⊥) → Keeps (heard_of mode selected link met 16 argument)
  unfolding heard_of
  elsewhere s e off =
      subst (λ (x : State). Keeps (heard_of mode selected (with_state link x) met 16 argument)) (sym e)
      (picked Keeps (as_spi mode selected 16) (λ t. unset_in_spi s off)
      (λ t. picked Keeps mode.spi (λ u. refl) (λ u. unset_in_mmc s off)))

-- ---- every call
module _ (card : Card) (input : Input) where
  -- a call that leaves a link of this block length
  abbrev Leaves : Link → Type 0
  Leaves link = LengthLeft card input link.length

  -- ---- blocks
  in_length : (block : List ℕ) (seen : Seen) {judged : BlockJudged} → InOutcome card block seen judged → Leaves judged.stepped.card.link
  unfolding block_refused block_good
  in_length block seen (unreads n listed) = kept
  in_length block seen (refuses incoming refusal fault on why) = kept
  in_length block seen (stores incoming at w on right) = kept
  in_length block seen (grants on granted) = kept
  in_length block seen (forces on erased) = kept

  out_length : {judged : OutJudged} → OutOutcome card judged → Leaves judged.stepped.card.link
  unfolding out_refused out_good
  out_length (unsends n listed) = kept
  out_length (past outgoing on) = kept
  out_length (across outgoing on) = kept
  out_length (sends outgoing next n sending on within) = kept

  -- ---- frames
  module _ (wins selected : Bool) (index argument : ℕ) (brought : Brings card input index argument) where
    abbrev met : Met
    met = met_by card wins

    -- what is left by a command that found no error: CMD16's argument is then 1 to 2,048, so that its 16 low bits are all of it
    sets : index ≡ 16 → card.link.state ≡ Tran → (judged_of card.link met.groups met.locked index argument).error ≡ None
        → LengthLeft card input (argument % 65536)
    unfolding tagging_of argument_fault
    sets i on e =
        let range = length_right argument (unfaulted card.link met 16 argument (rw i at e)).1 in
        let whole : argument % 65536 ≡ argument = omega arith in
        subst⁻¹ (LengthLeft card input) whole
        (set argument (record { brought = subst (λ (k : ℕ). Brings card input k argument) i brought; tran = on; range = range }))

    took_length : (index ≡ 16 → card.link.state ≡ Tran) → {next : Link} {change : Change}
        → Took card.link met index argument next change → Leaves next
    unfolding fresh_link
    took_length on (stopped tags errors) = kept
    took_length on (reset errors i) = idled argument (subst (λ (k : ℕ). Brings card input k argument) i brought)
    took_length on (obeyed next l e) =
        subst⁻¹ (LengthLeft card input) l
        (picked (LengthLeft card input) (eqb index 16)
        (λ (t : eqb index 16 ≡ true). let i : index ≡ 16 = eqb-true index 16 t in sets i (on i) e) (λ t. kept))

    taken : Took card.link met index argument (heard_of card.mode selected card.link met index argument).link
        (heard_of card.mode selected card.link met index argument).change
    taken = heard_took card.link met index argument card.mode selected

    -- CMD16 leaves the length where it is not legal
    by_state : (card.link.state ≡ Tran) ⊎ (card.link.state ≡ Tran → ⊥) → Leaves (heard_of card.mode selected card.link met index argument).link
    by_state (inl on) = took_length (λ i. on) taken
    by_state (inr off) =
        cases (eqb index 16)
        (λ (t : eqb index 16 ≡ true).
        subst⁻¹ (λ (k : ℕ). Leaves (heard_of card.mode selected card.link met k argument).link) (eqb-true index 16 t)
        (subst⁻¹ (LengthLeft card input) (elsewhere card.mode selected card.link met argument card.link.state refl off) kept))
        (λ (t : eqb index 16 ≡ false). took_length (λ i. absurd (eqb-false index 16 t i)) taken)

  module _ (wins selected : Bool) (called : input.call ≡ Frame wins selected) (seen : Seen) where
    judged_length : {judged : FrameJudged} → FrameOutcome card wins selected input.bytes seen judged → Leaves judged.stepped.card.link
    judged_length (unheard n listed) = kept
    judged_length (damaged index argument is fails) = subst⁻¹ Leaves (damage_errors card.mode selected card.link) kept
    judged_length (commands index argument right is passes lent) =
        heard_or_not card wins selected input.bytes index argument right is passes (λ (h : Heard). Leaves h.link) kept
        (λ hears. by_state wins selected index argument (record { wins = wins; selected = selected; called = called; heard = hears })
        (in_tran card.link.state))

    frame_length : Leaves (frame_stepped card wins selected input.bytes seen).card.link
    unfolding frame_stepped
    frame_length =
        let left = judged_length (frame_outcome card wins selected input.bytes seen) in
        told (λ (s : Stepped). Leaves s.card.link) (frame_judged card wins selected input.bytes seen).stepped
        (spares card seen (frame_judged card wins selected input.bytes seen).change) left left

  by_call : (call : Call) → input.call ≡ call → (seen : Seen) (room : ℕ) → Leaves (step_of card call input.bytes seen room).card.link
  unfolding worked powered_on fresh_link
  by_call (Frame wins selected) called seen room = frame_length wins selected called seen
  by_call BlockIn called seen room = in_length input.bytes seen (block_outcome card input.bytes seen)
  by_call BlockOut called seen room = out_length (out_outcome card seen room)
  by_call WorkDone called seen room = kept
  by_call PowerOn called seen room = powered called

  pub length_left : (seen : Seen) (room : ℕ)
      → LengthLeft card input (step_of card input.call input.bytes seen room).card.link.length
  length_left = by_call input.call refl

-- ---- CMD0
module _ (mode : Mode) (link : Link) (met : Met) (argument : ℕ) (awake : is_inactive link ≡ false) where
  high : mode.spi ≡ false → (heard_of mode false link met 0 argument).link ≡ fresh_link
  high here =
      ap (λ (h : Heard). h.link) (mmc_heard mode link met 0 argument false here refl)
      ∙ ap (λ (c : Commanded). c.link) (go_idle link met argument)
      ∙ ap (λ (i : Bool). (pick i (silent link) (silent fresh_link)).link) awake

  pub reset_link : (selected : Bool) → (mode.spi ≡ true → selected ≡ true) → (heard_of mode selected link met 0 argument).link ≡ fresh_link
  reset_link true low = ap (λ (h : Heard). h.link) (reset_low mode link met argument awake)
  reset_link false low = cases mode.spi (λ (here : mode.spi ≡ true). never (low here)) (λ (here : mode.spi ≡ false). high here)
