-- `card::frames::commanded` meets its contract: what `heard` makes of the link stands in the record.
-- Assumes nothing.
use mathlib.Core.Path.{◌≡◌, refl, ap, ◌∙◌}
use mathlib.Core.Bool.{Bool, true, false}
use Prim.Native.Nat.{ℕ}
use Rattle.command.specs.Command.{met_by}
use Rattle.command.specs.declared.Met.{Met}
use Rattle.card_record.specs.Record.{csd_protects}
use Rattle.card_record.specs.declared.Card.{Card}
use Rattle.spi.specs.Hearing.{heard_of}
use Rattle.spi.specs.declared.Heard.{Heard}
use Rattle.store.specs.Lent.{Seen, seen}
use Rattle.card_blocks.specs.Lending.{held}
use Rattle.card.specs.Frame.{commanded, spares, skip_told, spared_told, frame_told, command_heard}
use Rattle.card_blocks.specs.Replies.{replied}
use Rattle.card.specs.declared.Answered.{Answered}
use Rattle.card.proofs.frames.commanded.Goals as goal
use Rattle.std.specs.Prelude.{Ok, None}

-- a spared sector told in the link is one told in the answer
told : (card : Card) (given : Heard) (spared : Bool)
    → replied (record { registers = card.registers; lock = card.lock; link = skip_told given.link spared; mode = given.mode }) (Ok None) given.sent
    ≡ spared_told (commanded card (Ok None) given).stepped spared
told card given true = refl
told card given false = refl

-- the record that an answer leaves
abbrev after : Card → Answered → Card
after card given = record { registers = card.registers; lock = card.lock; link = given.link; mode = given.mode }

at_card : (card : Card) (wins selected : Bool) (index argument : ℕ) (seen : Seen) (whole : Bool) (given : Answered)
    → whole ≡ csd_protects card.registers.csd → given ≡ command_heard card.mode selected card.link (met_by card wins) whole index argument seen
    → replied (after card given) (Ok None) given.sent
    ≡ frame_told card seen (commanded card (Ok None) (heard_of card.mode selected card.link (met_by card wins) index argument))
unfolding command_heard
at_card card wins selected index argument seen whole given w e =
    let did : Heard = heard_of card.mode selected card.link (met_by card wins) index argument in
    ap (λ (x : Answered). replied (after card x) (Ok None) x.sent)
    (e ∙ ap (λ (x : Bool). command_heard card.mode selected card.link (met_by card wins) x index argument seen) w)
    ∙ told card did (spares card seen did.change)

pub returns-clause-answer : goal.returns-clause-answer
returns-clause-answer c = let a = c.args in
    let did : Heard = heard_of a.card.mode a.selected a.card.link (met_by a.card a.wins) a.command.index a.command.argument in at_card a.card a.wins a.selected a.command.index a.command.argument (seen (held a.lent.now)) c.csd_protects-whole.result c.heard-given.result c.csd_protects-whole.ensures.answer
    (c.heard-given.ensures.answer
    ∙ ap (λ (met : Met). command_heard a.card.mode a.selected a.card.link met c.csd_protects-whole.result a.command.index a.command.argument (seen (held a.lent.now))) c.met_by-met.ensures.answer)
