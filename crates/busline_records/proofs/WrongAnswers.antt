-- Wrong answers that the promises rule out, each refuted at a sample that antt computes: a call's answer is the definition, so a call
-- that gave the wrong answer would make the two equal.
--   cut_taken           a body of 14 bytes taken for a card's
--   unknown_taken       kind 03 taken for a frame
--   unknown_waits       more bytes wanted behind an unknown kind
--   unclosed            an identifier whose last byte is left at 0
--   kind_in_identifier  an identifier that begins with the kind
--   fresh_counts        a first frame with number 2
--   fresh_card          a card before the first record
--   uncounted           a refused frame that does not count
--   card_zero           `card 0` for the first card
--   bus_silent          `1 silent` for a frame to no card
--   damaged_refused     `refused 3` for a damaged frame
--   long_line           a line of 17 bytes for an answer of 6
--   no_room_stops       an output without room for a line taken for the end of a script
--   cut_early           `cut` for half a record while more bytes may come
--   half_lost           the bytes of half a record not left over
--   waiting_full        a record that is waited for told as one without room
--   first_only          of two frames the first alone played
--   past_a_stop         a frame played behind an unknown kind
--   mute, uncut         nothing printed of a frame; nothing of half a record at the end of the input
-- Assumes nothing.
use mathlib.Core.Path.{◌≡◌, ap}
use mathlib.Core.List.{List, [], ◌∷◌, ◌++◌}
use Prim.Native.Nat.{ℕ}
use native.Mathlib.Omega.{arith}
use lib.ListN.{length, take, get_or, replicate}
use Rattle.base.specs.Refusals.{by}
use Rattle.bus.specs.Bus.{empty_bus, bus_frame}
use Rattle.crc.specs.Bits.{bits}
use Rattle.crc.specs.Crc.{divide, remainder}
use Rattle.text.specs.Lines.{number_text, hex_text, end_text, head_text, word_line, plain_line, named_line}
use Rattle.text.specs.Text.{hex_of, digits_of, decimal_of}
use Rattle.text.specs.Words.{ascii}
use Rattle.wire.specs.Frames.{crc7_of}
use Rattle.wire.specs.Responses.{last_byte}
use Rattle.busline_records.specs.Printing.{added_text, shown_text}
use Rattle.busline_records.specs.Reading.{asked_of, register_of, identifier_of}
use Rattle.playing.specs.Playing.{played_in, played_of}
use Rattle.playing.specs.declared.Then.TheVariants.{Stops, NoRoom}
use Rattle.busline_records.specs.Record.{fresh_progress, frame_text, frame_said, asked_text, asked_said, said_of}
use Rattle.busline_records.specs.Transcript.{record_step, piece_of, transcript}
use Rattle.busline_records.specs.declared.Asked.TheVariants.{Card, Frame, More}
use Rattle.std.specs.Prelude.{Ok, Err, Some}

cut_taken : asked_of (1 ∷ replicate 14 0) ≡ Card → ⊥
unfolding asked_of
cut_taken e = let z : ◌≡◌ {A = ℕ} 0 1 = cc in omega arith

unknown_taken : asked_of (3 ∷ replicate 6 0) ≡ Frame → ⊥
unfolding asked_of
unknown_taken e = let z : ◌≡◌ {A = ℕ} 0 1 = cc in omega arith

unknown_waits : asked_of (3 ∷ []) ≡ More → ⊥
unfolding asked_of
unknown_waits e = let z : ◌≡◌ {A = ℕ} 0 1 = cc in omega arith

unclosed : identifier_of (1 ∷ replicate 15 0) ≡ replicate 16 0 → ⊥
unfolding register_of last_byte crc7_of remainder divide bits
unclosed e = let d = ap (λ (l : List ℕ). get_or l 15 0) e in omega arith

kind_in_identifier : get_or (identifier_of (1 ∷ replicate 15 0)) 0 0 ≡ 1 → ⊥
unfolding register_of last_byte crc7_of remainder divide bits
kind_in_identifier e = omega arith

fresh_counts : fresh_progress.count ≡ 1 → ⊥
unfolding fresh_progress
fresh_counts e = omega arith

fresh_card : fresh_progress.bus.count ≡ 1 → ⊥
unfolding fresh_progress empty_bus
fresh_card e = omega arith

-- a frame to a bus of no cards
abbrev cmd0 : List ℕ
cmd0 = 2 ∷ 0x40 ∷ 0 ∷ 0 ∷ 0 ∷ 0 ∷ 0x95 ∷ []

uncounted : (frame_said fresh_progress cmd0).progress.count ≡ 0 → ⊥
unfolding fresh_progress frame_said
uncounted e = omega arith

bus_silent : frame_text fresh_progress cmd0 ≡ ascii "1 silent\n" → ⊥
unfolding fresh_progress empty_bus frame_text shown_text bus_frame word_line head_text end_text named_line number_text decimal_of digits_of
bus_silent e = let d = ap (λ (l : List ℕ). get_or l 0 0) e in omega arith

card_zero : added_text (Ok 0) ≡ ascii "card 0\n" → ⊥
unfolding named_line number_text decimal_of digits_of
card_zero e = let d = ap (λ (l : List ℕ). get_or l 5 0) e in omega arith

damaged_refused : shown_text 1 (Err (by 3)) [] ≡ ascii "refused 3\n" → ⊥
unfolding shown_text word_line head_text end_text named_line number_text decimal_of digits_of
damaged_refused e = let d = ap (λ (l : List ℕ). get_or l 0 0) e in omega arith

long_line : length (shown_text 1 (Ok (Some 6)) (replicate 17 0)) ≡ 42 → ⊥
unfolding shown_text word_line head_text end_text hex_text hex_of decimal_of digits_of
long_line e = omega arith

no_room_stops : (said_of fresh_progress cmd0 63).then ≡ Stops → ⊥
unfolding said_of
no_room_stops e = let z : ◌≡◌ {A = ℕ} 0 1 = cc in omega arith

-- the first half of a frame's record, in an output of two longest lines
cut_early : length (piece_of fresh_progress (take 3 cmd0) 128).text ≡ 4 → ⊥
unfolding transcript piece_of played_of played_in record_step fresh_progress empty_bus asked_of asked_text asked_said frame_text frame_said shown_text bus_frame plain_line named_line number_text decimal_of digits_of
cut_early e = omega arith

half_lost : length (piece_of fresh_progress (take 3 cmd0) 128).left ≡ 0 → ⊥
unfolding transcript piece_of played_of played_in record_step fresh_progress empty_bus asked_of asked_text asked_said frame_text frame_said shown_text bus_frame plain_line named_line number_text decimal_of digits_of
half_lost e = omega arith

waiting_full : (piece_of fresh_progress (take 3 cmd0) 128).then ≡ NoRoom → ⊥
unfolding transcript piece_of played_of played_in record_step fresh_progress empty_bus asked_of asked_text asked_said frame_text frame_said shown_text bus_frame plain_line named_line number_text decimal_of digits_of
waiting_full e = let z : ◌≡◌ {A = ℕ} 0 1 = cc in omega arith

first_only : (piece_of fresh_progress (cmd0 ++ cmd0) 128).kept.count ≡ 1 → ⊥
unfolding transcript piece_of played_of played_in record_step fresh_progress empty_bus asked_of asked_text asked_said frame_text frame_said shown_text bus_frame plain_line named_line number_text decimal_of digits_of
first_only e = omega arith

past_a_stop : transcript (3 ∷ cmd0) ≡ ascii "bad kind\nrefused 13\n" → ⊥
unfolding transcript piece_of played_of played_in record_step fresh_progress empty_bus asked_of asked_text asked_said frame_text frame_said shown_text bus_frame plain_line named_line number_text decimal_of digits_of
past_a_stop e = let n = ap length e in omega arith

mute : transcript cmd0 ≡ [] → ⊥
unfolding transcript piece_of played_of played_in record_step fresh_progress empty_bus asked_of asked_text asked_said frame_text frame_said shown_text bus_frame plain_line named_line number_text decimal_of digits_of
mute e = let n = ap length e in omega arith

uncut : transcript (take 3 cmd0) ≡ [] → ⊥
unfolding transcript piece_of played_of played_in record_step fresh_progress empty_bus asked_of asked_text asked_said frame_text frame_said shown_text bus_frame plain_line named_line number_text decimal_of digits_of
uncut e = let n = ap length e in omega arith
