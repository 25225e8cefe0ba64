-- `card_blocks::blocks_in::taken_in` meets its contract: what was judged is stored.
-- Assumes nothing.
use mathlib.Core.Path.{ap, ap₂, ◌∙◌}
use mathlib.Core.List.{List}
use Prim.Native.Nat.{ℕ}
use Rattle.card_blocks.proofs.blocks_in.taken_in.Goals as goal
use Rattle.card_blocks.specs.BlockIn.{state_judged, stored_by}
use Rattle.card_blocks.specs.Lending.{held}
use Rattle.card_blocks.specs.declared.BlockJudged.{BlockJudged}

pub returns-clause-lent : goal.returns-clause-lent
returns-clause-lent c = let d = c.store.ensures in
    let a = c.args in
    let judged = c.state_judged-judged.ensures ∙ ap (λ (x : List ℕ). state_judged a.card a.card.link.state a.block.now x) c.map.ensures in
    record {
      memory = d.memory;
      map = d.map;
      holds = d.holds ∙ ap₂ (λ (x : List ℕ) (y : BlockJudged). stored_by x y.storing (held a.lent.now)) c.unstarted-given.ensures judged;
    }
