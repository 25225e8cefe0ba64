-- One record of a script: the line, the buffers and what is kept afterwards.
-- Assumes nothing.
use Rattle.std.specs.Prelude.{List, [], ℕ, leb, length, Ok, Err}
use Rattle.base.specs.Choice.{unless}
use Rattle.cardline_looks.specs.Lines.{roomy}
use Rattle.cardline_looks.specs.Looks.{look_text, map_looked, sizes_looked}
use Rattle.cardline_looks.specs.Wires.{wire_text}
use Rattle.cardline_records.specs.Calls.{step_lent, buffers_lent, call_text, called_by, input_of, room_of}
use Rattle.text.specs.Lines.{plain_line}
use Rattle.cardline_records.specs.Makes.{buffers_made, card_made, make_text, make_said}
use Rattle.cardline_script.specs.Reading.{Read, asked_of}
use Rattle.cardline_script.specs.Whole.{used_going}
use Rattle.cardline_records.specs.Words.{no_card_word, too_big_word}
use Rattle.text.specs.Words.{bad_kind_word}
use Rattle.cardline_records.specs.Progress.{record_counted, with_card, with_lent, gone_on, ended, untouched}
use Rattle.cardline_script.specs.declared.Asked.TheVariants.{Make, Go}
use Rattle.cardline_script.specs.declared.Going.{Going}
use Rattle.cardline_script.specs.declared.Going.TheVariants.{Call, Look, Wire}
use Rattle.cardline_script.specs.declared.Halt.TheVariants as halt
use Rattle.playing.specs.declared.Said.{Said}
use Rattle.cardline_script.specs.declared.Stop.{Stop}
use Rattle.cardline_script.specs.declared.Stop.TheVariants.{NoCard, BadKind, TooBig}
use Rattle.cardline_records.specs.declared.Progress.{Progress}
use Rattle.playing.specs.declared.Then.TheVariants.{Waits, NoRoom}
use Rattle.store.specs.Lent.{Lent, with_map}

-- why a script stops
abbrev pub stop_text : Stop → List ℕ
stop_text NoCard = plain_line no_card_word
stop_text BadKind = plain_line bad_kind_word
stop_text TooBig = plain_line too_big_word

-- a record of a made card: the line, the buffers afterwards, and what is kept
unfoldable pub going_text : Progress → Going → List ℕ → Lent → List ℕ
going_text w (Call calling) s buffers = call_text w.count w.card w.lent (called_by calling) (input_of calling s) buffers (room_of calling)
going_text w (Look looking) s buffers = look_text w.count w.own w.card.link w.card.mode w.card.lock.locked looking buffers
going_text w (Wire wiring) s buffers = wire_text w.count wiring s

unfoldable pub going_buffers : Progress → Going → List ℕ → Lent → Lent
going_buffers w (Call calling) s buffers = buffers_lent w.card w.lent (called_by calling) (input_of calling s) buffers
going_buffers w (Look looking) s buffers = with_map buffers (map_looked w.own looking buffers.map)
going_buffers w (Wire wiring) s buffers = buffers

unfoldable pub going_progress : Progress → Going → List ℕ → Lent → Progress
going_progress w (Call calling) s buffers =
    with_card w (step_lent w.card w.lent (called_by calling) (input_of calling s) buffers (room_of calling)).card
going_progress w (Look looking) s buffers = with_lent w (sizes_looked looking w.lent)
going_progress w (Wire wiring) s buffers = w

-- any record: its line. One that is not whole yet does nothing, and waits for more bytes
unfoldable pub asked_text : Progress → Read → List ℕ → Lent → List ℕ
asked_text w (Err halt.More) s buffers = []
asked_text w (Err (halt.Stop stop)) s buffers = stop_text stop
asked_text w (Ok (Make making)) s buffers = make_text (card_made making s buffers).making
asked_text w (Ok (Go going)) s buffers = going_text (record_counted w) going s buffers

-- the buffers afterwards
unfoldable pub asked_buffers : Progress → Read → List ℕ → Lent → Lent
asked_buffers w (Err halt.More) s buffers = buffers
asked_buffers w (Err (halt.Stop stop)) s buffers = buffers
asked_buffers w (Ok (Make making)) s buffers = buffers_made making s buffers
asked_buffers w (Ok (Go going)) s buffers = going_buffers (record_counted w) going s buffers

-- what is kept, how much of the script was used, and how the script goes on, where the line has so many bytes
unfoldable pub asked_said : Progress → Read → List ℕ → Lent → ℕ → Said Progress
asked_said w (Err halt.More) s buffers wrote = untouched w Waits
asked_said w (Err (halt.Stop stop)) s buffers wrote = ended w wrote
asked_said w (Ok (Make making)) s buffers wrote = make_said w making (card_made making s buffers).card (card_made making s buffers).making wrote
asked_said w (Ok (Go going)) s buffers wrote = gone_on (going_progress (record_counted w) going s buffers) (used_going going) wrote

-- the record at the front of a script, with two buffers and an output of so many bytes: one that has not room for every line is left alone
unfoldable pub text_of : Progress → List ℕ → Lent → ℕ → List ℕ
text_of w s buffers room = unless (leb roomy room) [] (asked_text w (asked_of w.made s) s buffers)

unfoldable pub buffers_after : Progress → List ℕ → Lent → ℕ → Lent
buffers_after w s buffers room = unless (leb roomy room) buffers (asked_buffers w (asked_of w.made s) s buffers)

unfoldable pub said_of : Progress → List ℕ → Lent → ℕ → Said Progress
said_of w s buffers room =
    unless (leb roomy room) (untouched w NoRoom)
    (asked_said w (asked_of w.made s) s buffers (length (asked_text w (asked_of w.made s) s buffers)))
