-- `card::frames::frame` meets its contract: 12, and then the frame as it was read.
-- Assumes nothing.
use mathlib.Core.Path.{◌≡◌, refl, sym, ap, ◌∙◌}
use mathlib.Core.Bool.{Bool}
use mathlib.Core.List.{List}
use Prim.Native.Nat.{ℕ}
use Rattle.base.specs.declared.Refusal.{Refusal}
use Rattle.card_record.specs.declared.Card.{Card}
use Rattle.card_blocks.specs.Lending.{held}
use Rattle.store.specs.Lent.{Seen, seen, lending_of, once_lent}
use Rattle.wire.specs.Frames.{framing_of}
use Rattle.card.specs.Frame.{FrameJudged, frame_refused, framed, frame_judged, frame_told, frame_stepped, changed_by}
use Rattle.card.proofs.frames.frame.Goals as goal
use Rattle.std.specs.Prelude.{Result, Ok, Err}
use Rattle.wire.specs.declared.Fields.{Fields}

module _ (card : Card) (wins selected : Bool) (frame : List ℕ) (seen : Seen) where
  judged : {lending : Result Unit Refusal} → lending_of seen card.registers.groups ≡ lending
      → once_lent lending (frame_refused card) (framed card wins selected (framing_of frame)) ≡ frame_judged card wins selected frame seen
  unfolding frame_judged
  judged e = sym (ap (λ (x : Result Unit Refusal). once_lent x (frame_refused card) (framed card wins selected (framing_of frame))) e)

  heard : {framing : Result Fields Refusal} → framing ≡ framing_of frame → lending_of seen card.registers.groups ≡ Ok tt
      → framed card wins selected framing ≡ frame_judged card wins selected frame seen
  heard f e = ap (framed card wins selected) f ∙ judged e

  unheard : {refusal : Refusal} → lending_of seen card.registers.groups ≡ Err refusal → frame_refused card refusal ≡ frame_judged card wins selected frame seen
  unheard e = judged e

pub returns-in-Ok-clause-answer : goal.returns-in-Ok-clause-answer
unfolding frame_stepped
returns-in-Ok-clause-answer c = let a = c.args in
    let lent = held a.lent.now in
    let j = heard a.card a.wins a.selected a.frame.now (seen lent) c.unframe-framing.ensures.answer (sym c.check.ensures ∙ c.in-Ok.is) in c.framed.ensures.answer ∙ ap (frame_told a.card (seen lent)) j

pub returns-in-Ok-clause-lent : goal.returns-in-Ok-clause-lent
unfolding frame_stepped
returns-in-Ok-clause-lent c = let a = c.args in
    let lent = held a.lent.now in
    let j = heard a.card a.wins a.selected a.frame.now (seen lent) c.unframe-framing.ensures.answer (sym c.check.ensures ∙ c.in-Ok.is) in
    let d = c.framed.ensures.lent in
    record { memory = d.memory; map = d.map; holds = d.holds ∙ ap (λ (x : FrameJudged). changed_by a.card x.change lent) j }

pub returns-in-Err-clause-answer : goal.returns-in-Err-clause-answer
unfolding frame_stepped
returns-in-Err-clause-answer c = let a = c.args in
    let lent = held a.lent.now in
    let j = unheard a.card a.wins a.selected a.frame.now (seen lent) (sym c.check.ensures ∙ c.in-Err.is) in c.refuse.ensures.answer ∙ ap (frame_told a.card (seen lent)) j

pub returns-in-Err-clause-lent : goal.returns-in-Err-clause-lent
unfolding frame_stepped
returns-in-Err-clause-lent c = let a = c.args in
    let lent = held a.lent.now in
    let j = unheard a.card a.wins a.selected a.frame.now (seen lent) (sym c.check.ensures ∙ c.in-Err.is) in
    record { memory = refl; map = refl; holds = ap (λ (x : FrameJudged). changed_by a.card x.change lent) j }
