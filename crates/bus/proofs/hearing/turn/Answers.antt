-- `bus::hearing::turn` meets its contract: what the command leaves, and what the line then holds.
-- Assumes nothing.
use mathlib.Core.Bool.{Bool}
use mathlib.Core.Path.{◌≡◌, sym, ap, ap₂, ◌∙◌, subst}
use Prim.Native.Nat.{ℕ}
use Rattle.command.specs.Command.{met_by, received_of, moved_by}
use Rattle.card_record.specs.Sending.{sent_bytes, Sendable}
use Rattle.command.specs.declared.Commanded.{Commanded}
use Rattle.command.specs.declared.Decided.{Decided}
use Rattle.command.specs.declared.Met.{Met}
use Rattle.card_record.specs.Record.{with_link}
use Rattle.card_record.specs.declared.Card.{Card}
use Rattle.bus.proofs.Taking.{carried_out_lem, taken_sends}
use Rattle.bus.specs.Bus.{command_on}
use Rattle.bus.specs.Hearing.{heard_of, decided_at, turn_of}
use Rattle.bus.specs.declared.Heard.{Heard}
use Rattle.bus.specs.declared.Turned.{Turned}
use Rattle.bus.proofs.hearing.turn.Goals as goal

abbrev turned : Card → Heard → Turned
turned card heard = record { card = card; heard = heard }

-- what was decided, carried out, is the command
carried : (card : Card) (wins : Bool) (index argument : ℕ) (met : Met) (decided : Decided) (given : Commanded)
    → met ≡ met_by card wins → decided ≡ decided_at card wins index argument
    → given ≡ moved_by card.link met (received_of card.link met index argument) decided.row decided.next
    → given ≡ command_on card wins index argument
carried card wins index argument met decided given em ed e =
    e
    ∙ ap₂ (λ (m : Met) (d : Decided). moved_by card.link m (received_of card.link m index argument) d.row d.next) em ed
    ∙ carried_out_lem card wins index argument

pub hear-requires : goal.hear-requires
hear-requires c =
    let a = c.args in
    let told = carried a.card a.wins a.command.index a.command.argument _ a.decided _ c.met_by.ensures.answer c.requires.1 c.follow-given.ensures.answer in
    subst (λ (given : Commanded). Sendable given.sent) (sym told) (taken_sends a.card a.wins a.command.index a.command.argument c.requires.0)

pub returns : goal.returns
unfolding turn_of
returns c =
    let a = c.args in
    let told = carried a.card a.wins a.command.index a.command.argument _ a.decided _ c.met_by.ensures.answer c.requires.1 c.follow-given.ensures.answer in
    ap₂ turned (ap (λ (g : Commanded). with_link a.card g.link) told)
    (c.hear.ensures ∙ ap (λ (g : Commanded). heard_of a.heard (sent_bytes a.card.registers g.sent)) told)
