use mathlib.Core.List.{map}
use mathlib.Core.Path.{◌≡◌, refl, sym, ap, ◌∙◌}
use Prim.Native.Nat.{ℕ}
use native.Mathlib.Omega.{arith}
use borrow.Author.Rules.{rules}
use lib.ListN.{length, take}
use Rattle.base.proofs.Cases.{first}
use Rattle.base.specs.Refusals.{by}
use Rattle.command.specs.Command.{leaves_alone}
use Rattle.bus.proofs.Asking.{asked_answered, asked_small}
use Rattle.bus.proofs.Lists.{change_all}
use Rattle.bus.proofs.Taking.{taken_alone}
use Rattle.bus.proofs.Telling.{after, frame, heard_start, tell_turn, tell_alone, lost_alone, line_is_heard, told_is_command}
use Rattle.bus.proofs.Winners.{holds_asked, holds_silent}
use Rattle.bus.specs.Bus.{count_of, refused_on}
use Rattle.bus.specs.Hearing.{quiet, heard_from}
use Rattle.bus.specs.declared.Bus.{Bus}
use Rattle.bus.proofs.frame.Goals as goal
use Rattle.bus.proofs.frame.Goals.{then-contends+else-not-holds, else-contends, then-not-leaves_alone, else-not-leaves_alone}

pub returns-in-Refused : goal.returns-in-Refused
returns-in-Refused c = record {
  answer = c.refuse.ensures
      ∙ asked_answered c.args.bus c.args.frame.now _ _ _ c.places-end.ensures c.asked_of-asked.ensures c.in-Refused.is;
}

pub returns-in-Damaged : goal.returns-in-Damaged
returns-in-Damaged c = record {
  answer = c.refuse-in-Damaged.ensures
      ∙ ap (λ (bus : Bus). refused_on bus (by 3)) c.damage.ensures
      ∙ asked_answered c.args.bus c.args.frame.now _ _ _ c.places-end.ensures c.asked_of-asked.ensures c.in-Damaged.is;
}

pub loop-i-init : goal.loop-i-init
unfolding quiet
loop-i-init c =
    let bus = c.args.bus in (
      c.places-end.ensures,
      refl,
      refl,
      c.quiet-heard.ensures ∙ heard_start (frame bus c.in-Command.index c.in-Command.argument) bus.cards,
    )

pub turn-turned-requires : goal.turn-turned-requires
turn-turned-requires c =
    (asked_small _ _ _ _ _ c.asked_of-asked.ensures c.in-Command.is, c.decide-decided.ensures)

-- a loser of CMD2 is left alone
pub loop-i-preserved-then-not-holds : goal.loop-i-preserved-then-not-holds
loop-i-preserved-then-not-holds c =
    let l = c.loop-i in
    let found = c.lowest-low in
    let low = found.ensures in
    let any = c.is_some in
    let arises = c.contends in
    let bus = c.args.bus in
    let long : length bus.cards ≡ 30 = search rules in
    let lost = sym c.if-not-holds.true in
    let more =
    tell_alone bus _ _ l.i _ _ l.next.cards l.heard _ long (omega (arith, l.invariant.0)) low.answer low.bytes l.invariant.2 l.invariant.3
    (lost ∙ holds_asked found.result _ any.result arises.result any.ensures arises.ensures c.if-contends.true c.holds.ensures)
    (lost_alone bus _ _ found.result _ low.answer (sym any.ensures ∙ first any.result _ (sym arises.ensures ∙ c.if-contends.true))) in
    (l.invariant.0, l.invariant.1, more.0, more.1)

pub loop-i-preserved : goal.loop-i-preserved
loop-i-preserved c =
    let l = c.loop-i in
    let found = c.lowest-low in
    let low = found.ensures in
    let any = c.is_some in
    let arises = c.contends in
    let bus = c.args.bus in
    let long : length bus.cards ≡ 30 = search rules in
    elim c.if-not-leaves_alone.branch [
      | then-not-leaves_alone w ↦
          let more =
          tell_turn bus _ _ l.i _ _ l.next.cards l.heard _ _ long (omega (arith, l.invariant.0)) low.answer low.bytes l.invariant.2 l.invariant.3
          (elim c.if-contends.branch [
            | then-contends+else-not-holds v ↦
                v.won-is ∙ sym v.if-not-holds.false ∙ holds_asked found.result _ any.result arises.result any.ensures arises.ensures v.if-contends.true v.holds.ensures
            | else-contends v ↦ v.won-is ∙ holds_silent found.result _ any.result arises.result any.ensures arises.ensures v.if-contends.false
          ])
          w.turn-turned.ensures in (
            l.invariant.0,
            ap (λ (b : Bus). b.count) w.next-is ∙ l.invariant.1,
            ap (λ (b : Bus). b.cards) w.next-is ∙ more.0,
            w.heard-is ∙ more.1,
          )
      | else-not-leaves_alone w ↦
          let more =
          tell_alone bus _ _ l.i _ _ l.next.cards l.heard _ long (omega (arith, l.invariant.0)) low.answer low.bytes l.invariant.2 l.invariant.3
          (elim c.if-contends.branch [
            | then-contends+else-not-holds v ↦
                v.won-is ∙ sym v.if-not-holds.false ∙ holds_asked found.result _ any.result arises.result any.ensures arises.ensures v.if-contends.true v.holds.ensures
            | else-contends v ↦ v.won-is ∙ holds_silent found.result _ any.result arises.result any.ensures arises.ensures v.if-contends.false
          ])
          (taken_alone _ _ _ _
          (ap leaves_alone (sym c.decide-decided.ensures) ∙ sym c.leaves_alone.ensures.answer ∙ w.if-not-leaves_alone.false)) in (
            l.invariant.0,
            ap (λ (b : Bus). b.count) w.next-is ∙ l.invariant.1,
            ap (λ (b : Bus). b.cards) w.next-is ∙ more.0,
            w.heard-is ∙ more.1,
          )
    ]

pub returns-in-Command : goal.returns-in-Command
returns-in-Command c =
    let line = c.line_by.ensures in
    let l = c.loop-i in
    let low = c.lowest-low.ensures in
    let a = c.args in
    let index = c.in-Command.index in
    let argument = c.in-Command.argument in
    let long : length a.bus.cards ≡ 30 = search rules in
    let all : l.i ≡ count_of a.bus = omega (arith, l.invariant.0) in
    let heard = l.invariant.3 ∙ ap (λ (k : ℕ). heard_from quiet (map (frame a.bus index argument) (take k a.bus.cards))) all in
    record {
      answer = told_is_command a.bus l.next l.heard _ _ index argument
          (change_all (after a.bus index argument) a.bus l.next l.i long all l.invariant.1 l.invariant.2)
          (line_is_heard a.bus index argument l.heard low.bytes line.short line.bytes heard) c.shown_by.ensures line.answer
          ∙ asked_answered a.bus a.frame.now _ _ _ c.places-end.ensures c.asked_of-asked.ensures c.in-Command.is;
    }
