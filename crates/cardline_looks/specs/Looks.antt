-- What is shown and set with no call, kinds 07 to 0A and 0F.
-- Assumes nothing.
use Rattle.std.specs.Prelude.{List, [], ◌∷◌, ◌++◌, ℕ, ◌/◌, ◌%◌, ltb, take, drop, set, Bool}
use Rattle.base.specs.Choice.{pick}
use Rattle.text.specs.Lines.{line_feed, head_text, number_text, hex_text, end_text, word_line}
use Rattle.cardline_looks.specs.Words.{spi_word, mem_word, lent_word, poked_word}
use Rattle.text.specs.Words.{card_word}
use Rattle.cardline_script.specs.declared.Looking.{Looking}
use Rattle.cardline_script.specs.declared.Looking.TheVariants.{Card, Mode, Memory, Lend, Poke}
use Rattle.cardline_script.specs.declared.Sizes.{Sizes}
use Rattle.card_record.specs.declared.Link.{Link}
use Rattle.card_record.specs.declared.Mode.{Mode as CardMode}
use Rattle.store.specs.Lent.{Lent, lent_of}
use Rattle.states.specs.States.{column_of, column_number}
use Rattle.status.specs.Status.{shown, flag}
use Rattle.status.specs.declared.Errors.{Errors}

-- the two and the four bytes of a number, high byte first
abbrev pub two_bytes : ℕ → List ℕ
two_bytes n = n / 256 ∷ n % 256 ∷ []

abbrev pub four_bytes : ℕ → List ℕ
four_bytes n = n / 16777216 ∷ n / 65536 % 256 ∷ n / 256 % 256 ∷ n % 256 ∷ []

-- | 07 | `N card S AAAA BBBB L EEEEEEEE MAP` |
-- "S is the state's number ..; AAAA the address and BBBB the block length, four HEX digits each"
unfoldable pub link_text : Link → List ℕ
link_text link = number_text (column_number (column_of link.state)) ++ hex_text (two_bytes link.address) ++ hex_text (two_bytes link.length)

-- "L is `1` locked or `0`; EEEEEEEE the pending error bits in their places of the status word (no state bits, no bit 25, no bit 8)"
unfoldable pub flags_text : Bool → Errors → List ℕ
flags_text locked errors = number_text (flag locked) ++ hex_text (four_bytes (shown errors))

-- the first bytes of two buffers: the card's own memory and map, and what its calls are lent. A size over a buffer's counts as the buffer's
abbrev pub front_of : Sizes → Lent → Lent
front_of sizes buffers = lent_of (take sizes.memory buffers.memory) (take sizes.map buffers.map)

-- "MAP the whole map's bytes in HEX"
unfoldable pub card_text : ℕ → Link → Bool → List ℕ → List ℕ
card_text count link locked map = head_text count card_word ++ link_text link ++ flags_text locked link.errors ++ end_text map

-- | 0F | shows mode and CRC checking | `N spi M C`, each 1 or 0 |
unfoldable pub mode_text : ℕ → CardMode → List ℕ
mode_text count mode = head_text count spi_word ++ number_text (flag mode.spi) ++ number_text (flag mode.checks) ++ line_feed

-- | 08 | shows the memory from A, at most L bytes and not past its end | `N mem HEX` |
unfoldable pub memory_text : ℕ → ℕ → ℕ → List ℕ → List ℕ
memory_text count from n memory = word_line count mem_word (take n (drop from memory))

-- the line: | 09 | `N lent` | and | 0A | `N poked` |. "07 and 08 show the whole map and memory .. whatever 09 lends"
abbrev pub look_text : ℕ → Sizes → Link → CardMode → Bool → Looking → Lent → List ℕ
look_text count own link mode locked Card buffers = card_text count link locked (front_of own buffers).map
look_text count own link mode locked Mode buffers = mode_text count mode
look_text count own link mode locked (Memory from n) buffers = memory_text count from n (front_of own buffers).memory
look_text count own link mode locked (Lend sizes) buffers = word_line count lent_word []
look_text count own link mode locked (Poke entry value) buffers = word_line count poked_word []

-- | 0A | "entry i of the caller's map is set to v; an i past its end does nothing" |
unfoldable pub poked : Sizes → ℕ → ℕ → List ℕ → List ℕ
poked own entry value map = pick (ltb entry own.map) (set map entry value) map

abbrev pub map_looked : Sizes → Looking → List ℕ → List ℕ
map_looked own Card map = map
map_looked own Mode map = map
map_looked own (Memory from n) map = map
map_looked own (Lend sizes) map = map
map_looked own (Poke entry value) map = poked own entry value map

-- | 09 | "from now on the calls are lent M' bytes of memory and m' of map" |
abbrev pub sizes_looked : Looking → Sizes → Sizes
sizes_looked Card lent = lent
sizes_looked Mode lent = lent
sizes_looked (Memory from n) lent = lent
sizes_looked (Lend sizes) lent = sizes
sizes_looked (Poke entry value) lent = lent
