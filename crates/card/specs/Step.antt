-- Everything that can happen to a made card, as one definition: a frame, a block in, a block out, work done, power-on. The next record and
-- the answer know of what is lent only what judging may see.
-- Assumes nothing.
use Rattle.std.specs.Prelude.{List, ℕ, length}
use Rattle.card_blocks.specs.BlockIn.{block_judged, stored_by}
use Rattle.card_blocks.specs.BlockOut.{out_judged, sent_out}
use Rattle.card.specs.Frame.{frame_judged, frame_stepped, changed_by}
use Rattle.card_blocks.specs.Framing.{unstarted}
use Rattle.card_blocks.specs.Replies.{done}
use Rattle.card.specs.declared.Call.{Call}
use Rattle.card.specs.declared.Call.TheVariants.{Frame, BlockIn, BlockOut, WorkDone, PowerOn}
use Rattle.card_blocks.specs.declared.Stepped.{Stepped}
use Rattle.card_record.specs.Power.{powered_on, worked}
use Rattle.card_record.specs.declared.Card.{Card}
use Rattle.store.specs.Lent.{Lent, Seen, seen}

-- the next record and the answer, for an output of so many bytes. "Work done .. is never refused"
abbrev pub step_of : Card → Call → List ℕ → Seen → ℕ → Stepped
step_of card (Frame wins selected) input seen room = frame_stepped card wins selected input seen
step_of card BlockIn input seen room = (block_judged card input seen).stepped
step_of card BlockOut input seen room = (out_judged card seen room).stepped
step_of card WorkDone input seen room = done (worked card)
step_of card PowerOn input seen room = done (powered_on card)

-- what is lent afterwards
abbrev pub lent_after : Card → Call → List ℕ → Lent → Lent
lent_after card (Frame wins selected) input lent = changed_by card (frame_judged card wins selected input (seen lent)).change lent
lent_after card BlockIn input lent = stored_by (unstarted card.mode.spi input) (block_judged card input (seen lent)).storing lent
lent_after card BlockOut input lent = lent
lent_after card WorkDone input lent = lent
lent_after card PowerOn input lent = lent

-- the output afterwards
abbrev pub output_of : Card → Call → Lent → List ℕ → List ℕ
output_of card (Frame wins selected) lent out = out
output_of card BlockIn lent out = out
output_of card BlockOut lent out = sent_out card lent (out_judged card (seen lent) (length out)).sending out
output_of card WorkDone lent out = out
output_of card PowerOn lent out = out
