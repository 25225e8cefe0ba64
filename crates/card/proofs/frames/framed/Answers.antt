-- `card::frames::framed` meets its contract: 1 and 2 as `unframe` told them, then 3, and then the command.
-- Assumes nothing.
use mathlib.Core.Path.{◌≡◌, refl, sym, ap, ◌∙◌}
use mathlib.Core.Bool.{Bool}
use Prim.Native.Nat.{ℕ}
use Rattle.base.specs.Choice.{unless}
use Rattle.base.specs.Refusals.{by}
use Rattle.card_record.specs.declared.Card.{Card}
use Rattle.command.specs.Command.{met_by}
use Rattle.command.specs.declared.Change.{Change}
use Rattle.command.specs.declared.Change.TheVariants.{Nothing}
use Rattle.spi.proofs.Laws.{damage_unchanged}
use Rattle.spi.specs.Hearing.{heard_of, crc_passes, damaged_of}
use Rattle.spi.specs.declared.Heard.{Heard}
use Rattle.store.specs.Lent.{Lent, seen}
use Rattle.card_blocks.specs.Lending.{held}
use Rattle.card.specs.Frame.{FrameJudged, commanded, framed, spares, spared_told, frame_told, changed_by}
use Rattle.card.proofs.frames.framed.Goals as goal
use Rattle.std.specs.Prelude.{Result, Ok, Err, None}
use Rattle.base.specs.declared.Refusal.{Refusal}
use Rattle.wire.specs.declared.Fields.{Fields}
use Rattle.wire.specs.Frames.{as_fields}

-- a frame that was read, by what its CRC7 made of it
read : (card : Card) (wins selected : Bool) {framing : Result Fields Refusal} {index argument : ℕ} {right passes : Bool} → framing ≡ Ok (as_fields index argument right)
    → crc_passes card.mode index right ≡ passes
    → unless passes (commanded card (Err (by 3)) (damaged_of card.mode selected card.link))
    (commanded card (Ok None) (heard_of card.mode selected card.link (met_by card wins) index argument))
    ≡ framed card wins selected framing
read card wins selected {framing} {index} {argument} e p =
    sym (ap (framed card wins selected) e
    ∙ ap (λ (b : Bool). unless b (commanded card (Err (by 3)) (damaged_of card.mode selected card.link))
    (commanded card (Ok None) (heard_of card.mode selected card.link (met_by card wins) index argument))) p)

-- a frame refused 3: it changes nothing in what is lent, and so spares nothing
module _ (card : Card) (selected : Bool) (lent : Lent) where
  abbrev did : Heard
  did = damaged_of card.mode selected card.link

  abbrev judged : FrameJudged
  judged = commanded card (Err (by 3)) did

  none : did.change ≡ Nothing
  none = damage_unchanged card.mode selected card.link

  told : judged.stepped ≡ frame_told card (seen lent) judged
  told = sym (ap (λ (change : Change). spared_told judged.stepped (spares card (seen lent) change)) none)

  kept : lent ≡ changed_by card judged.change lent
  kept = sym (ap (λ (change : Change). changed_by card change lent) none)

pub returns-else-crc_passes-clause-answer : goal.returns-else-crc_passes-clause-answer
returns-else-crc_passes-clause-answer c = let a = c.args in
    let lent = held a.lent.now in
    let j = read a.card a.wins a.selected c.in-Ok.is (sym c.crc_passes.ensures.answer ∙ c.if-crc_passes.false) in c.damaged.ensures ∙ told a.card a.selected lent ∙ ap (frame_told a.card (seen lent)) j

pub returns-else-crc_passes-clause-lent : goal.returns-else-crc_passes-clause-lent
returns-else-crc_passes-clause-lent c = let a = c.args in
    let lent = held a.lent.now in
    let j = read a.card a.wins a.selected c.in-Ok.is (sym c.crc_passes.ensures.answer ∙ c.if-crc_passes.false) in
    record { memory = refl; map = refl; holds = kept a.card a.selected lent ∙ ap (λ (x : FrameJudged). changed_by a.card x.change lent) j }
