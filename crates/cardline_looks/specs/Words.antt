-- The words that only lines of `cardline` have, of records that call no card.
-- Assumes nothing.
use Rattle.std.specs.Prelude.{List, ℕ}
use Rattle.text.specs.Words.{ascii}

abbrev pub spi_word : List ℕ
spi_word = ascii "spi"

abbrev pub mem_word : List ℕ
mem_word = ascii "mem"

abbrev pub lent_word : List ℕ
lent_word = ascii "lent"

abbrev pub poked_word : List ℕ
poked_word = ascii "poked"

abbrev pub frame_word : List ℕ
frame_word = ascii "frame"

abbrev pub data_word : List ℕ
data_word = ascii "data"

abbrev pub good_word : List ℕ
good_word = ascii "good"
