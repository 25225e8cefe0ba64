use mathlib.Core.Path.{◌≡◌, ◌∙◌, subst}
use Prim.Native.Nat.{◌<◌}
use native.Mathlib.Omega.{arith}
use borrow.Author.Count.{below_more}
use borrow.Author.Rules.{rules}
use lib.ListN.{length}
use Rattle.bus.proofs.Lists.{get_d_any}
use Rattle.bus.proofs.Winners.{low_start, low_turn, better_silent, better_taken, better_left}
use Rattle.bus.specs.Contest.{Held}
use Rattle.shared_line.specs.Lowest.{no_low}
use Rattle.bus.proofs.contest.lowest.Goals as goal
use Rattle.bus.proofs.contest.lowest.Goals.{then-is_ready+then-is_lower, then-is_ready+else-is_lower, else-is_ready}

pub loop-i-init : goal.loop-i-init
loop-i-init c = let cards = c.args.bus.cards in
    (c.places-end.ensures, c.nobody-low.ensures.answer ∙ low_start no_low cards, λ k h. absurd (omega arith))

pub loop-i-preserved : goal.loop-i-preserved
loop-i-preserved c = let l = c.loop-i in
    let told = c.is_ready.ensures in
    let cards = c.args.bus.cards in
    let long : length cards ≡ 30 = search rules in
    let there : l.i < length cards = omega (arith, l.invariant.0) in (
      l.invariant.0,
      elim c.if-is_ready.branch [
        | then-is_ready+then-is_lower w ↦ low_turn no_low _ _ cards l.i _ there l.invariant.1
            (w.low-is ∙ better_taken l.low _ _ told.answer w.if-is_ready.true _ w.is_lower.ensures.answer w.if-is_lower.true)
        | then-is_ready+else-is_lower w ↦ low_turn no_low _ _ cards l.i _ there l.invariant.1
            (w.low-is ∙ better_left l.low _ _ told.answer w.if-is_ready.true _ w.is_lower.ensures.answer w.if-is_lower.false)
        | else-is_ready w ↦ low_turn no_low _ _ cards l.i _ there l.invariant.1 (w.low-is ∙ better_silent l.low _ _ told.answer w.if-is_ready.false)
      ],
      below_more _ l.i l.invariant.2 (λ d. subst Held (get_d_any cards l.i _ d there) told.bytes),
    )
