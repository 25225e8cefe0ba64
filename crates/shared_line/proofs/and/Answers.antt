use native.Mathlib.Omega.{arith}
use mathlib.Core.Path.{◌≡◌, ◌∙◌}
use borrow.Author.Rules.{rules}
use lib.ListN.{length}
use Rattle.shared_line.proofs.Together.{anded_start, anded_turn, anded_all_lem}
use Rattle.shared_line.proofs.and.Goals as goal

pub loop-i-init : goal.loop-i-init
loop-i-init c = anded_start c.args.line c.args.frame.now

pub loop-i-preserved : goal.loop-i-preserved
loop-i-preserved c = anded_turn c.loop-i.i _ _ _ (omega arith) c.loop-i.invariant

pub returns : goal.returns
returns c = record {
  answer = let l = c.loop-i in
      let a = c.args in
      let long : length a.line ≡ 17 = search rules in
      l.invariant ∙ anded_all_lem l.i a.line a.frame.now (omega (arith, c.min-i-end.ensures));
}
