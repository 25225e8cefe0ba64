-- Document 01, "The shared line": "It prints `card N` for the N-th card added, or `N line HEX` or `N silent` for frame N, or `refused R`."
-- Assumes nothing.
use Rattle.std.specs.Prelude.{Bool, List, [], ℕ, ◌+◌, eqb, leb, length, take, Result, Option, Ok, Err, Some, None}
use Rattle.base.specs.Choice.{pick}
use Rattle.base.specs.Refusals.{number_of}
use Rattle.base.specs.declared.Refusal.{Refusal}
use Rattle.text.specs.Lines.{word_line, plain_line, named_line, refusal_line}
use Rattle.text.specs.Words.{bad_kind_word, cut_word, line_word, silent_word, card_word}

-- "Another kind prints `bad kind` .. and it stops"
abbrev pub bad_kind_text : List ℕ
bad_kind_text = plain_line bad_kind_word

-- "a short body `cut`": bytes that are left over at the end of the input; where there are none nothing is printed
abbrev pub cut_text : List ℕ → List ℕ
cut_text left = pick (eqb (length left) 0) [] (plain_line cut_word)

-- "`card N` for the N-th card added": places count from 0, cards from 1
abbrev pub added_text : Result ℕ Refusal → List ℕ
added_text (Ok place) = named_line card_word (place + 1)
added_text (Err refusal) = refusal_line refusal

-- "Refusals 1, 2, 3 in a frame print silent"
abbrev pub prints_silent : Refusal → Bool
prints_silent refusal = leb (number_of refusal) 3

abbrev pub silent_text : ℕ → List ℕ
silent_text count = word_line count silent_word []

abbrev pub refused_text : ℕ → Refusal → List ℕ
refused_text count refusal = pick (prints_silent refusal) (silent_text count) (refusal_line refusal)

-- "`N line HEX` or `N silent` for frame N, or `refused R`": of the 17 bytes that the bus answers, those that the line shows
unfoldable pub shown_text : ℕ → Result (Option ℕ) Refusal → List ℕ → List ℕ
shown_text count (Ok (Some n)) line = word_line count line_word (take n line)
shown_text count (Ok None) line = silent_text count
shown_text count (Err refusal) line = refused_text count refusal

-- room for the longest line
abbrev pub roomy : ℕ
roomy = 64
