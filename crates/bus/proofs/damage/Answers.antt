use mathlib.Core.Path.{◌≡◌, ap, ◌∙◌}
use native.Mathlib.Omega.{arith}
use borrow.Author.Rules.{rules}
use lib.ListN.{length}
use Rattle.bus.proofs.Lists.{changed_next, change_turn, change_all}
use Rattle.bus.specs.Bus.{count_of, damaged_card}
use Rattle.bus.proofs.damage.Goals as goal

pub loop-i-preserved : goal.loop-i-preserved
loop-i-preserved c = let l = c.loop-i in
    let cards = c.args.bus.cards in (
      l.invariant.0,
      l.invariant.1,
      change_turn damaged_card l.i cards l.next.cards _ _ l.invariant.2
          (c.damaged-told.ensures ∙ ap damaged_card (changed_next damaged_card l.i cards l.next.cards _ l.invariant.2)),
    )

pub returns : goal.returns
returns c = let l = c.loop-i in
    let long : length c.args.bus.cards ≡ 30 = search rules in
    let all : l.i ≡ count_of c.args.bus = omega (arith, l.invariant.0) in
    change_all damaged_card c.args.bus l.next l.i long all l.invariant.1 l.invariant.2
