-- `cardline_records::answers::beside` meets its contract: each return is told its test.
-- Assumes nothing.
use mathlib.Core.Path.{◌≡◌, sym, ◌∙◌}
use mathlib.Core.Bool.{true, false}
use lib.Dec.{eqb}
use lib.ListN.{length}
use Rattle.cardline_records.specs.Calls.{beside_text}
use Rattle.text.proofs.Pages.{writes_both}
use Rattle.cardline_records.proofs.answers.beside.Goals as goal

pub returns-then-is_empty : goal.returns-then-is_empty
unfolding beside_text
returns-then-is_empty c =
    let none : eqb (length c.args.bytes.now) 0 ≡ true = sym c.is_empty.ensures ∙ c.if-is_empty.true in
    rw none c.put.ensures

pub returns : goal.returns
unfolding beside_text
returns c =
    let some : eqb (length c.args.bytes.now) 0 ≡ false = sym c.is_empty.ensures ∙ c.if-is_empty.false in
    rw some (writes_both (writes_both c.put-2.ensures c.put-3.ensures) c.ending.ensures)
