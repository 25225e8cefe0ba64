-- The lines that programs print: pieces of text, and whole lines, each of which ends in one LF. HEX is upper case with no spaces; numbers
-- are decimal.
-- Assumes nothing.
use Rattle.std.specs.Prelude.{List, [], ◌∷◌, ◌++◌, ℕ, eqb, length}
use Rattle.base.specs.Choice.{pick}
use Rattle.base.specs.Refusals.{number_of}
use Rattle.base.specs.declared.Refusal.{Refusal}
use Rattle.text.specs.Text.{hex_of, decimal_of}
use Rattle.text.specs.Words.{refused_word}

abbrev pub space : List ℕ
space = 32 ∷ []

abbrev pub line_feed : List ℕ
line_feed = 10 ∷ []

-- a number behind what stands before it
unfoldable pub number_text : ℕ → List ℕ
number_text n = space ++ decimal_of n

-- bytes behind what stands before them
unfoldable pub hex_text : List ℕ → List ℕ
hex_text bytes = space ++ hex_of bytes

-- the end of a line: where HEX is of no bytes, the line ends after the word or number before it
unfoldable pub end_text : List ℕ → List ℕ
end_text bytes = pick (eqb (length bytes) 0) line_feed (hex_text bytes ++ line_feed)

-- N and a word
unfoldable pub head_text : ℕ → List ℕ → List ℕ
head_text count word = decimal_of count ++ space ++ word

-- `N WORD HEX`
unfoldable pub word_line : ℕ → List ℕ → List ℕ → List ℕ
word_line count word bytes = head_text count word ++ end_text bytes

-- `WORD`
unfoldable pub plain_line : List ℕ → List ℕ
plain_line word = word ++ line_feed

-- `WORD N`
unfoldable pub named_line : List ℕ → ℕ → List ℕ
named_line word n = word ++ number_text n ++ line_feed

-- `refused R`
abbrev pub refusal_line : Refusal → List ℕ
refusal_line refusal = named_line refused_word (number_of refusal)
