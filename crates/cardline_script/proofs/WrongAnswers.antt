-- Wrong answers that the promises rule out, each refuted at a sample that antt computes: a call's answer is the definition, so a call
-- that gave the wrong answer would make the two equal.
--   cut_taken        a frame's record of which a byte is missing taken for a frame
--   second_make      a second 01 taken for a make
--   low_as_high      record 0E read as a frame with the select line high
--   no_card_taken    a frame before a make taken for a frame
--   more_before_big  more bytes asked for where a length is too big
--   ended_stops      a stop where nothing is left
--   low_byte_first   a number read from its low byte on
--   past_end         the last byte read again behind the end of a script
--   kind_uncounted   a record's length without its kind
-- Assumes nothing.
use mathlib.Core.Bool.{true, false}
use mathlib.Core.List.{[], ◌∷◌}
use mathlib.Core.Path.{◌≡◌}
use Prim.Native.Nat.{ℕ}
use native.Mathlib.Omega.{arith}
use lib.ListN.{replicate}
use Rattle.cardline_script.specs.Reading.{byte_at, two, four, frame_asked, counted_asked, spi_asked, shown_asked, more_asked, asked_of}
use Rattle.cardline_script.specs.Whole.{used_going}
use Rattle.std.specs.Prelude.{Ok, Err}
use Rattle.cardline_script.specs.declared.Asked.TheVariants.{Make, Go}
use Rattle.cardline_script.specs.declared.Calling.TheVariants.{Frame, WorkDone}
use Rattle.cardline_script.specs.declared.Going.TheVariants.{Call}
use Rattle.cardline_script.specs.declared.Halt.TheVariants as halt
use Rattle.cardline_script.specs.declared.Halt.TheVariants.{More}
use Rattle.cardline_script.specs.declared.Making.{Making}
use Rattle.cardline_script.specs.declared.Stop.{Stop}

cut_taken : asked_of true (2 ∷ 6 ∷ replicate 5 0) ≡ Ok (Go (Call (Frame 6 false))) → ⊥
unfolding asked_of more_asked frame_asked
cut_taken e = let z : ◌≡◌ {A = ℕ} 0 1 = cc in omega arith

second_make : (making : Making) → asked_of true (1 ∷ replicate 45 0) ≡ Ok (Make making) → ⊥
unfolding asked_of more_asked shown_asked spi_asked
second_make making e = let z : ◌≡◌ {A = ℕ} 0 1 = cc in omega arith

low_as_high : asked_of true (14 ∷ 0 ∷ []) ≡ Ok (Go (Call (Frame 0 false))) → ⊥
unfolding asked_of more_asked shown_asked spi_asked frame_asked
low_as_high e = let z : ◌≡◌ {A = ℕ} 0 1 = cc in omega arith

no_card_taken : asked_of false (2 ∷ 0 ∷ []) ≡ Ok (Go (Call (Frame 0 false))) → ⊥
unfolding asked_of
no_card_taken e = let z : ◌≡◌ {A = ℕ} 0 1 = cc in omega arith

more_before_big : asked_of true (3 ∷ 0x10 ∷ 0x01 ∷ []) ≡ Err More → ⊥
unfolding asked_of more_asked counted_asked two
more_before_big e = let z : ◌≡◌ {A = ℕ} 0 1 = cc in omega arith

ended_stops : (stop : Stop) → asked_of true [] ≡ Err (halt.Stop stop) → ⊥
unfolding asked_of
ended_stops stop e = let z : ◌≡◌ {A = ℕ} 0 1 = cc in omega arith

low_byte_first : four (1 ∷ 2 ∷ 3 ∷ 4 ∷ []) 0 ≡ 0x04030201 → ⊥
unfolding four two
low_byte_first e = omega arith

past_end : byte_at (1 ∷ 2 ∷ []) 2 ≡ 2 → ⊥
past_end e = omega arith

kind_uncounted : used_going (Call WorkDone) ≡ 0 → ⊥
kind_uncounted e = omega arith
