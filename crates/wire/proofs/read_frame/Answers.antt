-- `wire::read_frame` meets its contract: `checked` goes by the cases of the framing, as the code does.
-- Assumes nothing.
use mathlib.Core.Path.{sym, ap, ◌∙◌}
use Rattle.std.proofs.lemmas.Result.{err_from_is_err_and}
use Rattle.std.specs.Prelude.{Err}
use Rattle.wire.specs.Frames.{checked, frame_of}
use Rattle.wire.proofs.read_frame.Goals as goal

pub returns-in_err-fields : goal.returns-in_err-fields
unfolding frame_of
returns-in_err-fields c =
    let p = err_from_is_err_and c.from_residual.result c.from_residual.ensures.1 in
    record { answer = p.1 ∙ ap Err p.2 ∙ ap checked (sym c.in_err-fields.was ∙ c.unframe.ensures.answer) }
