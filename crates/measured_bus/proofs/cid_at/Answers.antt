-- `measured_bus::cid_at` meets its contract: the part that is read is the place's CID.
-- Assumes nothing.
use mathlib.Core.Path.{◌≡◌, ◌∙◌}
use borrow.Author.Rules.{rules}
use lib.ListN.{length}
use Rattle.measured_bus.proofs.Turns.{cid_read}
use Rattle.measured_bus.proofs.cid_at.Goals as goal

pub returns : goal.returns
returns c = let a = c.args in
    let long : length a.cids.now ≡ 480 = search rules in
    c.read_part.ensures.output ∙ cid_read a.cids.now a.place long
