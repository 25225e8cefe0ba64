-- `cardline_looks::looks::flags_text` meets its contract: one text after the other.
-- Assumes nothing.
use mathlib.Core.Path.{ap, ◌∙◌}
use Prim.Native.Nat.{◌<◌}
use borrow.Author.Rules.{rules}
use Rattle.text.proofs.Pages.{writes_as, writes_both}
use Rattle.text.specs.Lines.{number_text, hex_text}
use Rattle.cardline_looks.proofs.Bytes.{four_written, flag_written}
use Rattle.cardline_looks.specs.Looks.{flags_text, four_bytes}
use Rattle.cardline_looks.proofs.looks.flags_text.Goals as goal

pub returns : goal.returns
unfolding flags_text
returns c =
    let bits = c.pending-bits.result in
    let small : bits < 4294967296 = search rules in
    let four = c.to_be_bytes.ensures ∙ four_written bits small ∙ ap four_bytes c.pending-bits.ensures.answer in
    writes_both (writes_as (ap number_text (c.from.ensures ∙ flag_written c.args.locked)) c.number.ensures) (writes_as (ap hex_text four) c.hexed.ensures)
