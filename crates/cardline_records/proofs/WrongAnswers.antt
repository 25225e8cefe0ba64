-- Wrong answers that the promises rule out, each refuted at a sample that antt computes: a call's answer is the definition, so a call
-- that gave the wrong answer would make the two equal.
--   fresh_counts      a count of 1 before a script
--   fresh_made        a card before the make
--   uncounted         a record after the make that does not count
--   refused_said_made `made` for a make that is refused
--   refused_goes_on   a script that goes on behind it
--   refused_made      a card that it leaves
--   map_unset         0A that leaves the map as it was
--   zeros_shown       zeros shown for the output of a refused 04, which holds A5
--   line_high         0E taken for a frame with the select line high
--   number_alone      a refusal in SPI without the answer that goes out beside it
--   response_dropped  a good block in SPI without its data response
--   response_as_line  a data response told of as a frame's answer
--   empty_response    `response` where none is sent
--   mode_unread       0F that tells of MMC mode whatever the card's is
--   unroomy_written   a line in an output that has not room for every line
--   unroomy_stops     a script that stops there
--   short_stops, short_written   one that stops, or a line, where a record is not whole yet
--   whole_cut, left_uncut        `cut` where no byte is left over at the end, and no line where one is
--   mute, past_a_stop, uncut     of whole scripts: nothing printed, lines behind a stop, no `cut` at the end
-- Assumes nothing.
use mathlib.Core.Path.{◌≡◌, sym, ap}
use mathlib.Core.Bool.{Bool, true, false}
use mathlib.Core.List.{List, [], ◌∷◌}
use Prim.Native.Nat.{ℕ}
use native.Mathlib.Omega.{arith}
use lib.ListN.{get_or, replicate}
use Rattle.base.proofs.Cases.{clash, never}
use Rattle.base.specs.Refusals.{by}
use Rattle.card.specs.declared.Call.{Call}
use Rattle.card.specs.declared.Call.TheVariants as call
use Rattle.card_blocks.specs.BlockOut.{out_judged, sent_out}
use Rattle.text.specs.Lines.{number_text, hex_text, end_text, head_text, named_line, plain_line}
use Rattle.text.specs.Text.{hex_of, digits_of, decimal_of}
use Rattle.text.specs.Words.{ascii}
use Rattle.card_record.specs.Making.{refused_make, made_of}
use Rattle.card_record.specs.Record.{with_mode}
use Rattle.card_record.specs.Sending.{sent_bytes, sent_written}
use Rattle.card_record.specs.declared.Registers.{Registers}
use Rattle.card_record.specs.declared.Sent.TheVariants.{Nothing, SpiR1, DataResponse}
use Rattle.cardline_script.specs.Reading.{two, three, making_asked, make_asked, block_out_asked, poke_asked, spi_asked, shown_asked, more_asked, asked_of}
use Rattle.cardline_script.specs.declared.Calling.TheVariants.{Frame}
use Rattle.store.specs.Map.{entries_right}
use Rattle.cardline_records.specs.Calls.{step_lent, output_lent, beside_bytes, beside_text, refused_text, frame_text, good_text, taken_text, call_text, called_by}
use Rattle.cardline_looks.specs.Lines.{roomy, number_line}
use Rattle.cardline_looks.specs.Looks.{mode_text, poked}
use Rattle.store.specs.Lent.{Lent, lent_of}
use Rattle.cardline_records.specs.Makes.{made_from, card_made}
use Rattle.cardline_records.specs.Record.{going_text, going_buffers, going_progress, asked_text, asked_buffers, asked_said, text_of, buffers_after, said_of}
use Rattle.cardline_records.specs.Progress.{fresh_progress, record_counted}
use Rattle.cardline_records.specs.Transcript.{record_step, cut_text, transcript}
use Rattle.playing.specs.Playing.{played_in, played_of}
use Rattle.playing.specs.declared.Then.TheVariants.{Goes, Stops}
use Rattle.cardline_records.specs.declared.Progress.{Progress}
use Rattle.std.specs.Prelude.{Ok, Err, None}

-- a made card's progress, with a map of one byte and nothing carried out
abbrev made : Progress
made = record { card = refused_make; made = true; own = record { memory = 0; map = 1 }; lent = record { memory = 0; map = 1 }; count = 0 }

-- no buffers
abbrev none : Lent
none = lent_of [] []

-- a make with a memory of no bytes
abbrev unmade : List ℕ
unmade = 1 ∷ replicate 42 0

fresh_counts : fresh_progress.count ≡ 1 → ⊥
unfolding fresh_progress
fresh_counts e = omega arith

fresh_made : fresh_progress.made ≡ true → ⊥
unfolding fresh_progress
fresh_made e = never e

uncounted : (said_of made (7 ∷ []) none roomy).progress.count ≡ 0 → ⊥
unfolding said_of asked_said going_progress record_counted asked_of more_asked
uncounted e = omega arith

refused_said_made : text_of fresh_progress unmade none roomy ≡ ascii "made\n" → ⊥
unfolding text_of asked_text fresh_progress asked_of make_asked making_asked three two card_made made_from made_of named_line plain_line
refused_said_made e = let d = ap (λ (l : List ℕ). get_or l 0 0) e in omega arith

refused_goes_on : (said_of fresh_progress unmade none roomy).then ≡ Goes → ⊥
unfolding said_of asked_said fresh_progress asked_of make_asked making_asked three two card_made made_from made_of
refused_goes_on e = clash cc

refused_made : (said_of fresh_progress unmade none roomy).progress.made ≡ true → ⊥
unfolding said_of asked_said fresh_progress asked_of make_asked making_asked three two card_made made_from made_of
refused_made e = never e

map_unset : (buffers_after made (0x0A ∷ 0 ∷ 1 ∷ []) (lent_of [] (0 ∷ 0 ∷ [])) roomy).map ≡ 0 ∷ 0 ∷ [] → ⊥
unfolding buffers_after asked_buffers going_buffers record_counted asked_of more_asked shown_asked poke_asked poked
map_unset e = let d = ap (λ (l : List ℕ). get_or l 0 0) e in omega arith

zeros_shown : text_of made (4 ∷ 0 ∷ 2 ∷ []) (lent_of [] (0 ∷ [])) roomy ≡ ascii "1 refused 12 0000\n" → ⊥
unfolding text_of asked_text going_text record_counted asked_of more_asked block_out_asked two call_text step_lent output_lent out_judged sent_out entries_right refused_make number_line head_text end_text hex_text hex_of number_text decimal_of digits_of
zeros_shown e = let d = ap (λ (l : List ℕ). get_or l 13 0) e in omega arith

-- whether a frame comes with the select line low
abbrev low : Call → Bool
low (call.Frame wins selected) = selected
low call.BlockIn = false
low call.BlockOut = false
low call.WorkDone = false
low call.PowerOn = false

line_high : low (called_by (Frame 6 true)) ≡ false → ⊥
line_high e = never (sym e)

-- any registers
abbrev registers : Registers
registers = refused_make.registers

number_alone : frame_text 1 registers (Err (by 3)) (SpiR1 0x08) ≡ ascii "1 refused 3\n" → ⊥
unfolding refused_text beside_bytes beside_text sent_written sent_bytes head_text number_text end_text hex_text hex_of decimal_of digits_of
number_alone e = let d = ap (λ (l : List ℕ). get_or l 11 0) e in omega arith

response_dropped : taken_text 1 registers (Ok None) (DataResponse 0x05) ≡ ascii "1 taken\n" → ⊥
unfolding good_text beside_bytes beside_text sent_written sent_bytes head_text end_text hex_text hex_of decimal_of digits_of
response_dropped e = let d = ap (λ (l : List ℕ). get_or l 7 0) e in omega arith

response_as_line : taken_text 1 registers (Err (by 17)) (DataResponse 0x0B) ≡ ascii "1 refused 17 line 0B\n" → ⊥
unfolding refused_text beside_bytes beside_text sent_written sent_bytes head_text number_text end_text hex_text hex_of decimal_of digits_of
response_as_line e = let d = ap (λ (l : List ℕ). get_or l 13 0) e in omega arith

empty_response : taken_text 1 registers (Ok None) Nothing ≡ ascii "1 taken response\n" → ⊥
unfolding good_text beside_bytes beside_text sent_written sent_bytes head_text end_text hex_text hex_of decimal_of digits_of
empty_response e = let d = ap (λ (l : List ℕ). get_or l 7 0) e in omega arith

-- the same progress with a card in SPI that checks CRCs
abbrev in_spi : Progress
in_spi = record { card = with_mode refused_make (record { spi = true; checks = true }); made = true; own = made.own; lent = made.lent; count = 0 }

mode_unread : text_of in_spi (0x0F ∷ []) none roomy ≡ ascii "1 spi 0 0\n" → ⊥
unfolding text_of asked_text going_text record_counted asked_of more_asked shown_asked spi_asked mode_text head_text number_text decimal_of digits_of
mode_unread e = let d = ap (λ (l : List ℕ). get_or l 6 0) e in omega arith

unroomy_written : text_of fresh_progress (2 ∷ []) none 131135 ≡ ascii "no card\n" → ⊥
unfolding text_of
unroomy_written e = let d = ap (λ (l : List ℕ). get_or l 0 0) e in omega arith

unroomy_stops : (said_of fresh_progress (2 ∷ []) none 131135).then ≡ Stops → ⊥
unfolding said_of
unroomy_stops e = clash cc

short_stops : (said_of fresh_progress (1 ∷ []) none roomy).then ≡ Stops → ⊥
unfolding said_of asked_said fresh_progress asked_of make_asked
short_stops e = clash cc

short_written : text_of fresh_progress (1 ∷ []) none roomy ≡ ascii "cut\n" → ⊥
unfolding text_of asked_text fresh_progress asked_of make_asked
short_written e = let d = ap (λ (l : List ℕ). get_or l 0 0) e in omega arith

whole_cut : cut_text 0 ≡ ascii "cut\n" → ⊥
whole_cut e = let d = ap (λ (l : List ℕ). get_or l 0 0) e in omega arith

left_uncut : cut_text 1 ≡ [] → ⊥
unfolding plain_line
left_uncut e = let d = ap (λ (l : List ℕ). get_or l 0 0) e in omega arith

mute : transcript (2 ∷ []) ≡ [] → ⊥
unfolding transcript played_of played_in record_step fresh_progress text_of said_of buffers_after asked_of asked_text asked_said plain_line
mute e = let d = ap (λ (l : List ℕ). get_or l 0 0) e in omega arith

past_a_stop : transcript (2 ∷ 2 ∷ []) ≡ ascii "no card\nno card\n" → ⊥
unfolding transcript played_of played_in record_step fresh_progress text_of said_of buffers_after asked_of asked_text asked_said plain_line
past_a_stop e = let d = ap (λ (l : List ℕ). get_or l 8 0) e in omega arith

uncut : transcript (1 ∷ []) ≡ [] → ⊥
unfolding transcript played_of played_in record_step fresh_progress text_of said_of buffers_after asked_of make_asked asked_text asked_said plain_line
uncut e = let d = ap (λ (l : List ℕ). get_or l 0 0) e in omega arith
