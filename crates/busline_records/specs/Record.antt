-- Document 01, "The shared line": one record of a script, its line and what is kept afterwards.
-- Assumes nothing.
use Rattle.std.specs.Prelude.{List, [], ℕ, ◌+◌, leb, ltb, length}
use Rattle.base.specs.Choice.{pick, unless}
use Rattle.bus.specs.Bus.{empty_bus, added_to, bus_frame}
use Rattle.bus.specs.declared.Added.{Added}
use Rattle.bus.specs.declared.Framed.{Framed}
use Rattle.playing.specs.declared.Then.{Then}
use Rattle.playing.specs.declared.Then.TheVariants.{Goes, Stops, Waits, NoRoom}
use Rattle.busline_records.specs.Cards.{card_made}
use Rattle.busline_records.specs.Printing.{bad_kind_text, added_text, shown_text, roomy}
use Rattle.busline_records.specs.Reading.{asked_of, frame_body}
use Rattle.busline_records.specs.declared.Asked.{Asked}
use Rattle.busline_records.specs.declared.Asked.TheVariants.{Card, Frame, BadKind, More}
use Rattle.playing.specs.declared.Said.{Said}
use Rattle.busline_records.specs.declared.Progress.{Progress}

-- before a script: no card, and no frame yet
unfoldable pub fresh_progress : Progress
fresh_progress = record { bus = empty_bus; count = 0 }

-- the number of the next frame; where a 64-bit number has no next it stays
abbrev pub following : ℕ → ℕ
following count = pick (ltb count 18446744073709551615) (count + 1) count

-- what is answered of a record: one that is carried out, one at which the script stops, and one that has to wait
abbrev pub left_at : Progress → ℕ → ℕ → Then → Said Progress
left_at w used wrote then = record { progress = w; used = used; wrote = wrote; then = then }

abbrev pub gone_on : Progress → ℕ → List ℕ → Said Progress
gone_on w used line = left_at w used (length line) Goes

abbrev pub stopped_by : Progress → List ℕ → Said Progress
stopped_by w line = left_at w 0 (length line) Stops

abbrev pub put_off : Progress → Then → Said Progress
put_off w then = left_at w 0 0 then

-- kind 01: the card is added; cards are not counted among the frames
abbrev pub added_by : Progress → List ℕ → Added
added_by w s = added_to w.bus (card_made s)

unfoldable pub card_text : Progress → List ℕ → List ℕ
card_text w s = added_text (added_by w s).adding

unfoldable pub card_said : Progress → List ℕ → Said Progress
card_said w s = gone_on (record { bus = (added_by w s).bus; count = w.count }) 16 (card_text w s)

-- kind 02: a frame for all cards. "A refused frame still counts in N"
abbrev pub framed_by : Progress → List ℕ → Framed
framed_by w s = bus_frame w.bus (frame_body s)

unfoldable pub frame_text : Progress → List ℕ → List ℕ
frame_text w s = shown_text (following w.count) (framed_by w s).shown (framed_by w s).line

unfoldable pub frame_said : Progress → List ℕ → Said Progress
frame_said w s = gone_on (record { bus = (framed_by w s).bus; count = following w.count }) 7 (frame_text w s)

-- the line of a record that asks for this; what is kept, how much of the script was used and of the output written, and how the script
-- goes on
unfoldable pub asked_text : Progress → Asked → List ℕ → List ℕ
asked_text w Card s = card_text w s
asked_text w Frame s = frame_text w s
asked_text w BadKind s = bad_kind_text
asked_text w More s = []

unfoldable pub asked_said : Progress → Asked → List ℕ → Said Progress
asked_said w Card s = card_said w s
asked_said w Frame s = frame_said w s
asked_said w BadKind s = stopped_by w bad_kind_text
asked_said w More s = put_off w Waits

-- the record at the front of a script, with an output of so many bytes: one without room for the longest line is left alone
unfoldable pub text_of : Progress → List ℕ → ℕ → List ℕ
text_of w s room = unless (leb roomy room) [] (asked_text w (asked_of s) s)

unfoldable pub said_of : Progress → List ℕ → ℕ → Said Progress
said_of w s room = unless (leb roomy room) (put_off w NoRoom) (asked_said w (asked_of s) s)
