-- The calls of the card, kinds 02 to 06 and 0E.
-- Assumes nothing.
use Rattle.std.specs.Prelude.{true, List, [], ◌++◌, ℕ, eqb, length, take, drop, replicate, Result, Option, Ok, Err, Some, None}
use Rattle.base.specs.Choice.{pick}
use Rattle.base.specs.Refusals.{number_of}
use Rattle.base.specs.declared.Refusal.{Refusal}
use Rattle.cardline_looks.specs.Lines.{number_line, refused_line, blank}
use Rattle.cardline_looks.specs.Looks.{front_of}
use Rattle.text.specs.Lines.{space, line_feed, number_text, end_text, head_text, word_line}
use Rattle.cardline_records.specs.Words.{taken_word, response_word, block_word, done_word, power_word}
use Rattle.text.specs.Words.{refused_word, line_word, silent_word}
use Rattle.cardline_records.specs.Progress.{put_back}
use Rattle.cardline_script.specs.declared.Calling.{Calling}
use Rattle.cardline_script.specs.declared.Calling.TheVariants.{Frame, BlockIn, BlockOut, WorkDone, PowerOn}
use Rattle.cardline_script.specs.declared.Sizes.{Sizes}
use Rattle.card_record.specs.Sending.{sent_bytes, sent_written}
use Rattle.card.specs.Step.{step_of, lent_after, output_of}
use Rattle.card.specs.declared.Call.{Call}
use Rattle.card.specs.declared.Call.TheVariants as call
use Rattle.card_blocks.specs.declared.Reply.{Reply}
use Rattle.card_blocks.specs.declared.Stepped.{Stepped}
use Rattle.card_record.specs.declared.Sent.{Sent}
use Rattle.card_record.specs.declared.Card.{Card}
use Rattle.card_record.specs.declared.Registers.{Registers}
use Rattle.store.specs.Lent.{Lent, seen}

-- a call, lent the first bytes of two buffers: the next record and the answer; the buffers and the output afterwards. "the first ones of each
-- and, past the end, surplus bytes that hold 00", which stand behind the card's own
unfoldable pub step_lent : Card → Sizes → Call → List ℕ → Lent → ℕ → Stepped
step_lent card lent call input buffers room = step_of card call input (seen (front_of lent buffers)) room

unfoldable pub buffers_lent : Card → Sizes → Call → List ℕ → Lent → Lent
buffers_lent card lent call input buffers = put_back lent buffers (lent_after card call input (front_of lent buffers))

unfoldable pub output_lent : Card → Sizes → Call → Lent → List ℕ → List ℕ
output_lent card lent call buffers out = output_of card call (front_of lent buffers) out

-- | 02, 0E | `N line HEX`, `N silent` or `N refused R` |
-- a card that sends nothing is silent
unfoldable pub shown_text : ℕ → List ℕ → List ℕ
shown_text count bytes = pick (eqb (length bytes) 0) (word_line count silent_word []) (word_line count line_word bytes)

-- as the writers of the wire answer
abbrev pub sent_line : ℕ → Result ℕ Refusal → List ℕ → List ℕ
sent_line count (Ok n) bytes = shown_text count bytes
sent_line count (Err refusal) bytes = refused_line count refusal []

-- into the 17 bytes of R2, the longest response
unfoldable pub sent_text : ℕ → Registers → Sent → List ℕ
sent_text count registers sent = sent_line count (sent_written registers sent (replicate 17 0)) (sent_bytes registers sent)

-- the bytes that go out beside a call's word or number: none where a card sends nothing, or what can't be written
abbrev pub beside_of : Result ℕ Refusal → List ℕ → List ℕ
beside_of (Ok n) bytes = bytes
beside_of (Err refusal) bytes = []

unfoldable pub beside_bytes : Registers → Sent → List ℕ
beside_bytes registers sent = beside_of (sent_written registers sent (replicate 17 0)) (sent_bytes registers sent)

-- the end of a line that tells of them: where there are none, it ends after the word or number before them
unfoldable pub beside_text : List ℕ → List ℕ → List ℕ
beside_text word bytes = pick (eqb (length bytes) 0) line_feed (space ++ word ++ end_text bytes)

-- `N refused R`, and "where an answer goes out beside the number, `N refused 3 line HEX`"; of a data response `N refused 17 response 0B`
unfoldable pub refused_text : ℕ → Refusal → List ℕ → List ℕ → List ℕ
refused_text count refusal word bytes = head_text count refused_word ++ number_text (number_of refusal) ++ beside_text word bytes

abbrev pub frame_text : ℕ → Registers → Result (Option ℕ) Refusal → Sent → List ℕ
frame_text count registers (Ok None) sent = sent_text count registers sent
frame_text count registers (Ok (Some n)) sent = sent_text count registers sent
frame_text count registers (Err refusal) sent = refused_text count refusal line_word (beside_bytes registers sent)

-- | 03 | `N taken` or `N refused R` |; "A data response follows on the line: `N taken response 05`, `N refused 17 response 0B`"
unfoldable pub good_text : ℕ → List ℕ → List ℕ
good_text count bytes = head_text count taken_word ++ beside_text response_word bytes

abbrev pub taken_text : ℕ → Registers → Result (Option ℕ) Refusal → Sent → List ℕ
taken_text count registers (Ok None) sent = good_text count (beside_bytes registers sent)
taken_text count registers (Ok (Some n)) sent = good_text count (beside_bytes registers sent)
taken_text count registers (Err refusal) sent = refused_text count refusal response_word (beside_bytes registers sent)

-- | 04 | `N block K HEX`: K bytes are the answer, HEX is the whole lent output; or `N refused R HEX`, the same |
abbrev pub block_text : ℕ → Result (Option ℕ) Refusal → List ℕ → List ℕ
block_text count (Ok None) output = number_line count block_word 0 output
block_text count (Ok (Some n)) output = number_line count block_word n output
block_text count (Err refusal) output = refused_line count refusal output

-- the line of a call with what it answered and the output that it was lent
-- | 05 | `N done` |
-- | 06 | `N power` |
abbrev pub reply_text : ℕ → Call → Registers → Reply → List ℕ → List ℕ
reply_text count (call.Frame wins selected) registers reply output = frame_text count registers reply.outcome reply.sent
reply_text count call.BlockIn registers reply output = taken_text count registers reply.outcome reply.sent
reply_text count call.BlockOut registers reply output = block_text count reply.outcome output
reply_text count call.WorkDone registers reply output = word_line count done_word []
reply_text count call.PowerOn registers reply output = word_line count power_word []

-- the line of a call with its input, lent an output of so many bytes
unfoldable pub call_text : ℕ → Card → Sizes → Call → List ℕ → Lent → ℕ → List ℕ
call_text count card lent call input buffers room =
    reply_text count call card.registers (step_lent card lent call input buffers room).reply (output_lent card lent call buffers (blank room))

-- which call a kind is ("In its own call a card is alone on the line, so CMD2 wins"; 0E comes "with the select line low"), its input, and the
-- bytes of its output: the other calls than 04 are lent none
abbrev pub called_by : Calling → Call
called_by (Frame n selected) = call.Frame true selected
called_by (BlockIn n) = call.BlockIn
called_by (BlockOut n) = call.BlockOut
called_by WorkDone = call.WorkDone
called_by PowerOn = call.PowerOn

abbrev pub input_of : Calling → List ℕ → List ℕ
input_of (Frame n selected) s = take n (drop 2 s)
input_of (BlockIn n) s = take n (drop 3 s)
input_of (BlockOut n) s = []
input_of WorkDone s = []
input_of PowerOn s = []

abbrev pub room_of : Calling → ℕ
room_of (Frame n selected) = 0
room_of (BlockIn n) = 0
room_of (BlockOut n) = n
room_of WorkDone = 0
room_of PowerOn = 0
