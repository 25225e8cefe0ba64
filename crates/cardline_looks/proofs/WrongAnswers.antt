-- Wrong answers that the promises rule out, each refuted at a sample that antt computes: a call's answer is the definition, so a call
-- that gave the wrong answer would make the two equal.
--   past_memory       08 that shows a byte behind the card's memory
--   map_cut           07 without the card's map
--   mode_swapped      0F that tells CRC checking before the mode
--   mode_as_card      0F that tells of the mode as 07 does of the card
--   past_map_set      0A that sets an entry behind the card's map
--   lent_kept         09 that leaves what is lent as it was
--   looked_lent       0A that changes what is lent
--   zeros_written     zeros shown for the output of a refused 0B, which holds A5
--   empty_good        0D that takes a block of no bytes
--   number_hidden     a refusal without its number
-- Assumes nothing.
use mathlib.Core.Path.{◌≡◌, ap}
use mathlib.Core.Bool.{true, false}
use mathlib.Core.List.{List, [], ◌∷◌}
use Prim.Native.Nat.{ℕ}
use native.Mathlib.Omega.{arith}
use lib.ListN.{get_or}
use Rattle.base.specs.Refusals.{by}
use Rattle.card_record.specs.Power.{fresh_link, mmc_mode}
use Rattle.card_record.specs.declared.Mode.{Mode as CardMode}
use Rattle.cardline_looks.specs.Lines.{number_line, refused_line, blank}
use Rattle.cardline_looks.specs.Looks.{link_text, flags_text, card_text, mode_text, memory_text, look_text, poked, map_looked, sizes_looked}
use Rattle.cardline_looks.specs.Wires.{write_frame_text, wire_text}
use Rattle.cardline_script.specs.declared.Looking.TheVariants.{Card, Mode, Memory, Lend, Poke}
use Rattle.cardline_script.specs.declared.Sizes.{Sizes}
use Rattle.cardline_script.specs.declared.Wiring.TheVariants.{Check}
use Rattle.store.specs.Lent.{lent_of}
use Rattle.text.specs.Lines.{number_text, hex_text, end_text, head_text, word_line}
use Rattle.text.specs.Text.{hex_of, digits_of, decimal_of}
use Rattle.text.specs.Words.{ascii}
use Rattle.wire.specs.Blocks.{checked_of}

-- a memory of two bytes and a map of one
abbrev small : Sizes
small = record { memory = 2; map = 1 }

-- in SPI, with CRC checking off
abbrev unchecked : CardMode
unchecked = record { spi = true; checks = false }

past_memory : look_text 1 small fresh_link mmc_mode false (Memory 1 2) (lent_of (5 ∷ 6 ∷ 0 ∷ []) []) ≡ ascii "1 mem 0600\n" → ⊥
unfolding memory_text word_line head_text end_text hex_text hex_of decimal_of digits_of
past_memory e = let d = ap (λ (l : List ℕ). get_or l 8 0) e in omega arith

map_cut : look_text 1 small fresh_link mmc_mode false Card (lent_of [] (1 ∷ 0 ∷ [])) ≡ ascii "1 card 0 0000 0200 0 00000000\n" → ⊥
unfolding card_text link_text flags_text fresh_link head_text number_text end_text hex_text hex_of decimal_of digits_of
map_cut e = let d = ap (λ (l : List ℕ). get_or l 29 0) e in omega arith

mode_swapped : look_text 1 small fresh_link unchecked false Mode (lent_of [] []) ≡ ascii "1 spi 0 1\n" → ⊥
unfolding mode_text head_text number_text decimal_of digits_of
mode_swapped e = let d = ap (λ (l : List ℕ). get_or l 6 0) e in omega arith

mode_as_card : look_text 1 small fresh_link unchecked false Mode (lent_of [] []) ≡ ascii "1 card 1 0\n" → ⊥
unfolding mode_text head_text number_text decimal_of digits_of
mode_as_card e = let d = ap (λ (l : List ℕ). get_or l 2 0) e in omega arith

past_map_set : map_looked small (Poke 1 1) (0 ∷ 0 ∷ []) ≡ 0 ∷ 1 ∷ [] → ⊥
unfolding poked
past_map_set e = let d = ap (λ (l : List ℕ). get_or l 1 0) e in omega arith

lent_kept : (sizes_looked (Lend small) (record { memory = 0; map = 0 })).memory ≡ 0 → ⊥
lent_kept e = omega arith

looked_lent : (sizes_looked (Poke 0 1) small).map ≡ 0 → ⊥
looked_lent e = omega arith

zeros_written : write_frame_text 1 64 0 (blank 2) ≡ ascii "1 refused 4 0000\n" → ⊥
unfolding write_frame_text number_line number_text head_text end_text hex_text hex_of decimal_of digits_of
zeros_written e = let d = ap (λ (l : List ℕ). get_or l 12 0) e in omega arith

empty_good : wire_text 1 (Check 2) (0x0D ∷ 0 ∷ 2 ∷ 0 ∷ 0 ∷ []) ≡ ascii "1 good\n" → ⊥
unfolding checked_of number_line number_text head_text end_text word_line hex_text decimal_of digits_of
empty_good e = let d = ap (λ (l : List ℕ). get_or l 2 0) e in omega arith

number_hidden : refused_line 1 (by 6) [] ≡ ascii "1 refused\n" → ⊥
unfolding number_line number_text head_text end_text decimal_of digits_of
number_hidden e = let d = ap (λ (l : List ℕ). get_or l 9 0) e in omega arith
