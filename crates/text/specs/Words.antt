-- The words that the lines of several programs have.
-- Assumes nothing.
use Rattle.std.specs.Prelude.{List, [] as none, ◌∷◌ as ◌then◌, ℕ}
use Prim.Native.Char.{code}
use Prim.Native.String.{String, [], ◌∷◌}

-- the bytes of a text in ASCII: the codes of its characters
abbrev pub ascii : String → List ℕ
ascii [] = none
ascii (c ∷ s) = code c then ascii s

abbrev pub refused_word : List ℕ
refused_word = ascii "refused"

abbrev pub bad_kind_word : List ℕ
bad_kind_word = ascii "bad kind"

abbrev pub cut_word : List ℕ
cut_word = ascii "cut"

abbrev pub line_word : List ℕ
line_word = ascii "line"

abbrev pub silent_word : List ℕ
silent_word = ascii "silent"

abbrev pub card_word : List ℕ
card_word = ascii "card"
