-- Which frames change what is lent.
--   FrameChange    what a frame changes in what is lent: nothing, or it is CMD28, CMD29 or CMD38 at an unlocked card
--   frame_change   what each frame changes is one of these
--   read_in_mmc    a frame that a card in MMC mode hears as a command has the right CRC7
-- Assumes nothing.
use mathlib.Core.Path.{◌≡◌, refl, sym, ap, ◌∙◌, subst, subst⁻¹}
use mathlib.Core.Bool.{Bool, true, false, not, ◌&&◌}
use mathlib.Core.List.{List}
use Prim.Native.Nat.{ℕ, ◌/◌}
use borrow.Author.Tests.{eqb-true}
use lib.Dec.{eqb}
use Rattle.base.proofs.Cases.{picked, never}
use Rattle.base.specs.Choice.{pick}
use Rattle.card.proofs.Outcomes.{FrameOutcome, unheard, damaged, commands, frame_outcome}
use Rattle.card.specs.Frame.{FrameJudged, frame_judged}
use Rattle.command.specs.Command.{met_by}
use Rattle.command.specs.Obey.{passes_lock, change_of}
use Rattle.command.specs.declared.Change.{Change}
use Rattle.command.specs.declared.Change.TheVariants.{Nothing, Protect, Erase}
use Rattle.made.proofs.Faults.{unlocked}
use Rattle.made.proofs.Heard.{heard_or_not}
use Rattle.made.proofs.Took.{Took, stopped, reset, obeyed, unfaulted, heard_took}
use Rattle.made.specs.Heard.{HeardAs}
use Rattle.moves.specs.Classes.{class_of}
use Rattle.card_record.specs.declared.Card.{Card}
use Rattle.card_record.specs.declared.Link.{Link}
use Rattle.card_record.specs.declared.Mode.{Mode}
use Rattle.spi.proofs.Laws.{damage_unchanged}
use Rattle.spi.specs.Hearing.{crc_passes}
use Rattle.spi.specs.declared.Heard.{Heard}
use Rattle.store.specs.Lent.{Seen}
use Rattle.wire.specs.Frames.{checked, frame_of, as_fields, as_command}
use Rattle.std.specs.Prelude.{Ok}

-- ---- what changes in what is lent
module _ (index argument : ℕ) where
  data Changes : Change → Type 0 where
    none : Changes Nothing
    on : index ≡ 28 → Changes (Protect (argument / 8192) true)
    off : index ≡ 29 → Changes (Protect (argument / 8192) false)
    all : index ≡ 38 → Changes Erase

  is : (k : ℕ) → pick (eqb index k) true false ≡ true → index ≡ k
  is k e =
      eqb-true index k
      (picked (λ (b : Bool). b ≡ true → eqb index k ≡ true) (eqb index k) (λ t u. t) (λ t u. never u) e)

  changes : Changes (change_of index argument)
  unfolding change_of
  changes =
      picked Changes _ (λ t. on (is 28 t))
      (λ t. picked Changes _ (λ u. off (is 29 u)) (λ u. picked Changes _ (λ v. all (is 38 v)) (λ v. none)))

module _ (card : Card) (wins selected : Bool) (frame : List ℕ) (seen : Seen) where
  abbrev Hears : ℕ → ℕ → Type 0
  Hears index argument = HeardAs card selected frame index argument

  pub data FrameChange : Change → Type 0 where
    nothing : FrameChange Nothing
    protects : (argument : ℕ) → HeardAs card selected frame 28 argument → card.lock.locked ≡ false → FrameChange (Protect (argument / 8192) true)
    frees : (argument : ℕ) → HeardAs card selected frame 29 argument → card.lock.locked ≡ false → FrameChange (Protect (argument / 8192) false)
    erases : (argument : ℕ) → HeardAs card selected frame 38 argument → card.lock.locked ≡ false → FrameChange Erase

  by_index : (index argument : ℕ) {change : Change} → Hears index argument → passes_lock card.lock.locked index ≡ true
      → Changes index argument change → FrameChange change
  unfolding class_of
  by_index index argument e p none = nothing
  by_index index argument e p (on i) =
      protects argument (subst (λ (k : ℕ). Hears k argument) i e) (unlocked card.lock.locked 28 refl (rw i at p))
  by_index index argument e p (off i) =
      frees argument (subst (λ (k : ℕ). Hears k argument) i e) (unlocked card.lock.locked 29 refl (rw i at p))
  by_index index argument e p (all i) =
      erases argument (subst (λ (k : ℕ). Hears k argument) i e) (unlocked card.lock.locked 38 refl (rw i at p))

  by_command : (index argument : ℕ) {next : Link} {change : Change} → Hears index argument
      → Took card.link (met_by card wins) index argument next change → FrameChange change
  by_command index argument e (stopped tags errors) = nothing
  by_command index argument e (reset errors i) = nothing
  by_command index argument e (obeyed next l right) =
      by_index index argument e (unfaulted card.link (met_by card wins) index argument right).0 (changes index argument)

  by_frame : {judged : FrameJudged} → FrameOutcome card wins selected frame seen judged → FrameChange judged.change
  by_frame (unheard n listed) = nothing
  by_frame (damaged index argument e fails) = subst⁻¹ FrameChange (damage_unchanged card.mode selected card.link) nothing
  by_frame (commands index argument right e passes l) =
      heard_or_not card wins selected frame index argument right e passes (λ (h : Heard). FrameChange h.change) nothing
      (λ hears. by_command index argument hears (heard_took card.link (met_by card wins) index argument card.mode selected))

  pub frame_change : FrameChange (frame_judged card wins selected frame seen).change
  frame_change = by_frame (frame_outcome card wins selected frame seen)

-- ---- MMC mode
right_in_mmc : (mode : Mode) (index : ℕ) (right : Bool) → mode.spi ≡ false → crc_passes mode index right ≡ true → right ≡ true
right_in_mmc mode index true here e = refl
right_in_mmc mode index false here e = never (sym (ap (λ (s : Bool). s && (not mode.checks && not (eqb index 0))) here) ∙ e)

pub read_in_mmc : (card : Card) (selected : Bool) (frame : List ℕ) (index argument : ℕ) → card.mode.spi ≡ false
    → HeardAs card selected frame index argument → frame_of frame ≡ Ok (as_command index argument)
unfolding frame_of
read_in_mmc card selected frame index argument here heard =
    ap checked heard.framing
    ∙ ap (λ (r : Bool). checked (Ok (as_fields index argument r))) (right_in_mmc card.mode index heard.right here heard.crc)
