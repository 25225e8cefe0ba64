-- `cardline_looks::looks::link_text` meets its contract: three texts, one after the other.
-- Assumes nothing.
use mathlib.Core.Path.{ap, ◌∙◌}
use Prim.Native.Nat.{◌<◌}
use borrow.Author.Rules.{rules}
use Rattle.text.proofs.Pages.{writes_as, writes_both}
use Rattle.text.specs.Lines.{number_text, hex_text}
use Rattle.cardline_looks.proofs.Bytes.{two_written}
use Rattle.cardline_looks.specs.Looks.{link_text}
use Rattle.states.specs.States.{column_number}
use Rattle.cardline_looks.proofs.looks.link_text.Goals as goal

pub returns : goal.returns
unfolding link_text
returns c =
    let link = c.args.link in
    let address : link.address < 65536 = search rules in
    let length : link.length < 65536 = search rules in
    let e = c.number.ensures.answer ∙ ap column_number c.column_of-column.ensures.answer in
    let n = writes_as (ap number_text e) c.number-2.ensures in
    let a = writes_as (ap hex_text (c.to_be_bytes.ensures ∙ two_written link.address address)) c.hexed.ensures in
    let l = writes_as (ap hex_text (c.to_be_bytes-2.ensures ∙ two_written link.length length)) c.hexed-2.ensures in
    writes_both (writes_both n a) l
