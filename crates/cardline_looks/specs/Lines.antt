-- The lines that `cardline` alone prints. "Every line ends in one LF .. HEX is upper case with no spaces; K, N and R are decimal."
-- Assumes nothing.
use Rattle.std.specs.Prelude.{List, ◌++◌, ℕ, ◌+◌, ◌*◌, replicate}
use Rattle.base.specs.Refusals.{number_of}
use Rattle.base.specs.declared.Refusal.{Refusal}
use Rattle.text.specs.Lines.{number_text, end_text, head_text}
use Rattle.text.specs.Words.{refused_word}

-- room for a line with words of so many bytes that shows so many in HEX: two numbers, their spaces and the end have at most 44
abbrev pub line_room : ℕ → ℕ → ℕ
line_room words bytes = 44 + words + bytes * 2

-- room for the longest: its words have at most 20
abbrev pub roomy : ℕ
roomy = line_room 20 65536

-- `N WORD K HEX`
unfoldable pub number_line : ℕ → List ℕ → ℕ → List ℕ → List ℕ
number_line count word n bytes = head_text count word ++ number_text n ++ end_text bytes

-- `N refused R HEX`
abbrev pub refused_line : ℕ → Refusal → List ℕ → List ℕ
refused_line count refusal bytes = number_line count refused_word (number_of refusal) bytes

-- the output that a call is lent: "a lent output of L bytes that all hold A5 before the call"
abbrev pub blank : ℕ → List ℕ
blank room = replicate room 0xA5
