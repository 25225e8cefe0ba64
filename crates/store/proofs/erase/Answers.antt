use mathlib.Core.Path.{◌≡◌, refl, sym, ap, ◌∙◌}
use mathlib.Core.Bool.{false}
use Prim.Native.Nat.{ℕ, ◌/◌, ◌≤◌, ◌<◌, min}
use native.Mathlib.Omega.{arith}
use borrow.Author.Rules.{rules}
use lib.ListN.{length}
use Rattle.tags.specs.Tags.{tagged_of}
use Rattle.store.specs.Erase.{erased_to, spared_to, erased, any_spared}
use Rattle.store.proofs.Erasing.{erased_passes, spared_passes}
use Rattle.store.proofs.erase.Goals as goal

pub loop-sector-init : goal.loop-sector-init
unfolding erased_to spared_to
loop-sector-init c =
    let a = c.args in
    let first = c.min-first.result in
    let no : (s : ℕ) → 0 ≤ s → s < first → tagged_of a.tags s ≡ false = λ s lo hi. c.reach-span.ensures.below s (omega arith) in (
      refl,
      sym (spared_passes a.map.now a.tags a.whole 0 first (omega arith) no),
      sym (erased_passes a.map.now a.tags a.whole 0 first (omega arith) no a.memory.now),
    )

pub loop-sector-preserved : goal.loop-sector-preserved
unfolding erased_to spared_to
loop-sector-preserved c = search rules

pub returns : goal.returns
unfolding erased any_spared
returns c =
    let l = c.loop-sector in
    let a = c.args in
    let n = c.min-sectors.result in
    let no : (s : ℕ) → l.sector ≤ s → s < n → tagged_of a.tags s ≡ false = λ s lo hi. c.reach-span.ensures.above s (omega arith) in
    let le : l.sector ≤ n = omega arith in
    let all : n ≡ min (length a.memory.now / 512) 4294967296 = c.min-sectors.ensures in
    record {
      answer = l.invariant.1
          ∙ sym (spared_passes a.map.now a.tags a.whole l.sector n le no)
          ∙ ap (spared_to a.map.now a.tags a.whole) all;
      memory = l.invariant.2
          ∙ sym (erased_passes a.map.now a.tags a.whole l.sector n le no a.memory.now)
          ∙ ap (λ (k : ℕ). erased_to a.map.now a.tags a.whole k a.memory.now) all;
    }
