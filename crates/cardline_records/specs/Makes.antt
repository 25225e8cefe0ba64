-- | 01 | make a card, lent a memory of M bytes that are all F, and a map of the m bytes | `made` or `refused R` |
-- Assumes nothing.
use Rattle.std.specs.Prelude.{true, List, ◌++◌, ℕ, ◌+◌, length, take, drop, replicate, Result, Ok, Err}
use Rattle.base.specs.Output.{copied}
use Rattle.cardline_looks.specs.Looks.{front_of}
use Rattle.store.specs.Lent.{Lent, Seen, lent_of, seen}
use Rattle.text.specs.Lines.{plain_line, refusal_line}
use Rattle.cardline_script.specs.Reading.{four}
use Rattle.cardline_records.specs.Words.{made_word}
use Rattle.cardline_records.specs.Progress.{gone_on, ended}
use Rattle.cardline_script.specs.declared.Making.{Making}
use Rattle.playing.specs.declared.Said.{Said}
use Rattle.cardline_script.specs.declared.Sizes.{Sizes}
use Rattle.cardline_records.specs.declared.Progress.{Progress}
use Rattle.card_record.specs.Making.{made_of}
use Rattle.card_record.specs.declared.Card.{Card}
use Rattle.card_record.specs.declared.Made.{Made}
use Rattle.base.specs.declared.Refusal.{Refusal}

-- the memory's first M bytes, as far as it has them, are F, and what stands behind them stays
unfoldable pub memory_filled : ℕ → ℕ → List ℕ → List ℕ
memory_filled n value memory = replicate (length (take n memory)) value ++ drop n memory

abbrev pub memory_made : Making → List ℕ → List ℕ
memory_made m memory = memory_filled m.memory m.fill memory

-- the m map bytes, over the front of the map
abbrev pub map_made : Making → List ℕ → List ℕ → List ℕ
map_made m s map = copied (take m.map (drop 6 s)) map 0

abbrev pub buffers_made : Making → List ℕ → Lent → Lent
buffers_made m s buffers = lent_of (memory_made m buffers.memory) (map_made m s buffers.map)

abbrev pub sizes_made : Making → Sizes
sizes_made m = record { memory = m.memory; map = m.map }

-- the 16 bytes of a register from a place on
abbrev pub register_at : List ℕ → ℕ → List ℕ
register_at s at = copied (take 16 (drop at s)) (replicate 16 0) 0

-- the card of the record's bytes, from what making may see of what it is lent
unfoldable pub made_from : Making → List ℕ → Seen → Made
made_from m s seen =
    made_of (register_at s (m.map + 6)) (register_at s (m.map + 22)) (four s (m.map + 38)) (take m.password (drop (m.map + 43) s)) seen.bytes seen.map

-- "lent a memory of M bytes .., and a map of the m bytes"
unfoldable pub card_made : Making → List ℕ → Lent → Made
card_made m s buffers = made_from m s (seen (front_of (sizes_made m) (buffers_made m s buffers)))

-- the new card in its progress: no record was carried out since
unfoldable pub made_progress : Making → Card → Progress
made_progress m c = record { card = c; made = true; own = sizes_made m; lent = sizes_made m; count = 0 }

-- the line: `made` or `refused R`
abbrev pub make_text : Result Unit Refusal → List ℕ
make_text (Ok tt) = plain_line made_word
make_text (Err refusal) = refusal_line refusal

-- "A refused make prints `refused R` and stops". `wrote` is the length of its line
abbrev pub make_said : Progress → Making → Card → Result Unit Refusal → ℕ → Said Progress
make_said w m card (Ok tt) wrote = gone_on (made_progress m card) (m.map + 43 + m.password) wrote
make_said w m card (Err refusal) wrote = ended w wrote
