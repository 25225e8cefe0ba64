-- The words that only lines of `cardline` have, of the make, the calls of the card and the stops.
-- Assumes nothing.
use Rattle.std.specs.Prelude.{List, ℕ}
use Rattle.text.specs.Words.{ascii}

abbrev pub made_word : List ℕ
made_word = ascii "made"

abbrev pub no_card_word : List ℕ
no_card_word = ascii "no card"

abbrev pub too_big_word : List ℕ
too_big_word = ascii "too big"

abbrev pub taken_word : List ℕ
taken_word = ascii "taken"

abbrev pub response_word : List ℕ
response_word = ascii "response"

abbrev pub block_word : List ℕ
block_word = ascii "block"

abbrev pub done_word : List ℕ
done_word = ascii "done"

abbrev pub power_word : List ℕ
power_word = ascii "power"
