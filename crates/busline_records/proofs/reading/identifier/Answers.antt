-- `busline_records::reading::identifier` meets its contract: the body, zeros behind it, and the byte that closes it.
-- Assumes nothing.
use mathlib.Core.Path.{ap, ◌∙◌}
use mathlib.Core.List.{List}
use Prim.Native.Nat.{ℕ}
use lib.ListN.{replicate}
use Rattle.busline_records.proofs.Laws.{closed}
use Rattle.busline_records.specs.Reading.{cid_body}
use Rattle.base.specs.Output.{copied}
use Rattle.busline_records.proofs.reading.identifier.Goals as goal

pub returns : goal.returns
returns c = record {
  answer = closed (cid_body c.args.script.now) _ _ _ (c.«copy».ensures.over ∙ ap (λ (l : List ℕ). copied l (replicate 15 0) 0) c.part.ensures.part) c.copy-2.ensures.over
      c.last_byte.ensures.answer;
}
