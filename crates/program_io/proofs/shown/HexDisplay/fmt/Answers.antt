-- What a program prints of bytes is `shown_hex` of them: each turn of the loop writes the digits of some more.
-- Assumes nothing.
use mathlib.Core.Path.{◌≡◌, sym, ap, ◌∙◌}
use mathlib.Core.List.{List, ◌++◌, append_assoc, append-nil}
use Prim.Native.Nat.{ℕ}
use borrow.Author.Rules.{rules}
use Rattle.std.proofs.Output.{has_written_append, has_written_of_eq}
use Rattle.std.proofs.lemmas.List.{nil_from_length}
use Rattle.std.specs.Slice.Iter.{chunks_rest}
use Rattle.text.proofs.Pairs.{both}
use Rattle.text.specs.Text.{hex_of}
use Rattle.program_io.proofs.HexDigits.{front, some}
use Rattle.program_io.proofs.shown.HexDisplay.fmt.Goals as goal

pub loop-bytes-preserved : goal.loop-bytes-preserved
loop-bytes-preserved g c =
    let steps = c.in-Some.ensures.steps in
    let chunk = c.in-Some.bytes.now in
    let left = chunks_rest c.next.new.self in
    let digits : c.in-Ok-from_utf8.digits.now ≡ hex_of chunk =
    c.in-Ok-from_utf8.ensures.cases.0
    ∙ front c.hex.result (hex_of chunk) _ c.hex.new.out c.in-Ok.n c.hex.ensures.answer c.hex.ensures.output c.in-Ok.is
    in
    let whole : c.in-Ok-from_utf8.digits.now ++ hex_of left ≡ hex_of (chunks_rest c.loop-bytes.bytes-iterator) =
    ap (λ (d : List ℕ). d ++ hex_of left) digits ∙ sym (both chunk left) ∙ ap hex_of (sym steps.1.0)
    in (
      search rules,
      tt,
      steps.0 ∙ c.loop-bytes.invariant.2,
      λ plain.
          let so_far = c.loop-bytes.invariant.3 plain in (
            so_far.0 ++ c.in-Ok-from_utf8.digits.now,
            has_written_append _ _ _ _ _ _ so_far.1 (search rules),
            append_assoc so_far.0 _ _ ∙ ap (λ (t : List ℕ). so_far.0 ++ t) whole ∙ so_far.2,
          ),
    )

pub returns-clause-writes : goal.returns-clause-writes
unfolding hex_of
returns-clause-writes g c = λ plain _.
    let so_far = c.loop-bytes.invariant.3 plain in
    let none = nil_from_length _ c.in-None.ensures.steps.1.0 in
    let all = some c.args.self.now.0.now (c.if-is_empty.ensures) in
    has_written_of_eq _ _ _ _ _ (rw (none, append-nil) at so_far.2 ∙ sym all) so_far.1
