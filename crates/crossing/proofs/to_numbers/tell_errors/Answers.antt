-- `crossing::to_numbers::tell_errors` meets its contract: that the numbers stand for the link with these error bits is `link_errors`.
-- Assumes nothing.
use mathlib.Core.Path.{◌≡◌, ap, ◌∙◌}
use native.Mathlib.Omega.{arith}
use borrow.Author.Rules.{rules}
use lib.ListN.{length}
use Rattle.crossing.specs.Record.{link_of}
use Rattle.crossing.proofs.Crossing.{link_errors}
use Rattle.crossing.proofs.to_numbers.tell_errors.Goals as goal

pub returns-clause-crossing : goal.returns-clause-crossing
returns-clause-crossing c =
    let numbers = c.args.numbers.now in
    let long : length numbers ≡ 13 = search rules in
    ap link_of c.put_errors.ensures ∙ link_errors numbers c.args.errors (omega (arith, long))
