-- How long the lines are that these records alone print, at most.
--   shown_short     the line of what a card sends
--   refused_short   that of a refusal, with at most 17 bytes beside its number
--   good_short      that of a block that was good, with as many
--   plain_line_lem      a word, and the end
-- Assumes nothing.
use mathlib.Core.Path.{◌≡◌}
use mathlib.Core.Bool.{true, false}
use mathlib.Core.List.{List, [], ◌++◌}
use Prim.Native.Nat.{ℕ, ◌+◌, ◌*◌, ◌≤◌}
use native.Mathlib.Omega.{arith}
use lib.Dec.{eqb}
use lib.ListN.{length, length-append}
use Rattle.base.proofs.Cases.{cases}
use Rattle.base.specs.Refusals.{number_of}
use Rattle.base.specs.declared.Refusal.{Refusal}
use Rattle.cardline_looks.specs.Lines.{line_room, roomy}
use Rattle.cardline_records.specs.Calls.{shown_text, beside_text, refused_text, good_text}
use Rattle.cardline_records.specs.Words.{taken_word, response_word}
use Rattle.text.proofs.Lengths.{number_short, head_short, end_short, word_short, plain_long}
use Rattle.text.specs.Lines.{space, number_text, end_text, head_text, plain_line}
use Rattle.text.specs.Words.{refused_word, line_word, silent_word}
use Rattle.text.specs.Writing.{Put, Line}

pub shown_short : (count : ℕ) (bytes : List ℕ) → length (shown_text count bytes) ≤ 29 + length bytes * 2
unfolding shown_text
shown_short count bytes =
    cases (eqb (length bytes) 0)
    (λ (t : eqb (length bytes) 0 ≡ true). rw t (omega (arith, word_short count silent_word [])))
    (λ (t : eqb (length bytes) 0 ≡ false). rw t (omega (arith, word_short count line_word bytes)))

beside_short : (word bytes : List ℕ) → length (beside_text word bytes) ≤ 3 + length word + length bytes * 2
unfolding beside_text
beside_short word bytes =
    cases (eqb (length bytes) 0)
    (λ (t : eqb (length bytes) 0 ≡ true). rw t (omega arith))
    (λ (t : eqb (length bytes) 0 ≡ false).
    rw t (omega (arith, length-append (space ++ word) (end_text bytes), length-append space word, end_short bytes)))

pub refused_short : (count : ℕ) (refusal : Refusal) (word bytes : List ℕ) → length bytes ≤ 17
    → length (refused_text count refusal word bytes) ≤ line_room (8 + length word) 17
unfolding refused_text
refused_short count refusal word bytes h =
    let head = head_text count refused_word in
    let number = number_text (number_of refusal) in
    rw (length-append (head ++ number) (beside_text word bytes), length-append head number)
    (omega (arith, head_short count refused_word, number_short (number_of refusal), beside_short word bytes))

pub good_short : (count : ℕ) (bytes : List ℕ) → length bytes ≤ 17 → length (good_text count bytes) ≤ line_room 20 17
unfolding good_text
good_short count bytes h =
    rw (length-append (head_text count taken_word) (beside_text response_word bytes))
    (omega (arith, head_short count taken_word, beside_short response_word bytes))

pub plain_line_lem : {o p : List ℕ} {r : ℕ} (word : List ℕ) → length word ≤ 20 → Put o p 0 r (plain_line word) → Line roomy o p r (plain_line word)
plain_line_lem word h w = record { put = w; short = omega (arith, plain_long word) }
