-- How long texts are, at most.
--   decimal_short   the digits of a number are at most 20
--   number_short, hexed_long, end_short, head_short      the pieces of a line
--   word_short, plain_long, named_short, refusal_short   whole lines
-- Assumes nothing.
use mathlib.Core.Path.{◌≡◌}
use mathlib.Core.Bool.{true, false}
use mathlib.Core.List.{List, [], ◌∷◌, ◌++◌}
use Prim.Native.Nat.{ℕ, zero, suc, ◌+◌, ◌*◌, ◌/◌, ◌%◌, ◌≤◌}
use native.Mathlib.Omega.{arith}
use lib.Dec.{eqb, ltb}
use lib.ListN.{length, length-append}
use Rattle.base.proofs.Cases.{cases}
use Rattle.base.specs.Refusals.{number_of}
use Rattle.base.specs.declared.Refusal.{Refusal}
use Rattle.text.proofs.Pairs.{long}
use Rattle.text.specs.Lines.{space, line_feed, number_text, hex_text, end_text, head_text, word_line, plain_line, named_line, refusal_line}
use Rattle.text.specs.Text.{hex_of, digits_of, decimal_of}
use Rattle.text.specs.Words.{refused_word}

digits_short : (k n : ℕ) → length (digits_of k n) ≤ k
unfolding digits_of
digits_short zero n = omega arith
digits_short (suc k) n =
    cases (ltb n 10)
    (λ (t : ltb n 10 ≡ true). rw t (omega arith))
    (λ (t : ltb n 10 ≡ false). rw t (rw (length-append (digits_of k (n / 10)) ((48 + n % 10) ∷ [])) (omega (arith, digits_short k (n / 10)))))

pub decimal_short : (n : ℕ) → length (decimal_of n) ≤ 20
unfolding decimal_of
decimal_short n = digits_short 20 n

pub number_short : (n : ℕ) → length (number_text n) ≤ 21
unfolding number_text
number_short n = omega (arith, length-append space (decimal_of n), decimal_short n)

pub hexed_long : (bytes : List ℕ) → length (hex_text bytes) ≡ 1 + length bytes * 2
unfolding hex_text
hexed_long bytes = omega (arith, length-append space (hex_of bytes), long bytes)

pub end_short : (bytes : List ℕ) → length (end_text bytes) ≤ 2 + length bytes * 2
unfolding end_text
end_short bytes =
    cases (eqb (length bytes) 0)
    (λ (t : eqb (length bytes) 0 ≡ true). rw t (omega arith))
    (λ (t : eqb (length bytes) 0 ≡ false). rw t (omega (arith, length-append (hex_text bytes) line_feed, hexed_long bytes)))

pub head_short : (n : ℕ) (word : List ℕ) → length (head_text n word) ≤ 21 + length word
unfolding head_text
head_short n word =
    omega (arith, length-append (decimal_of n ++ space) word, length-append (decimal_of n) space, decimal_short n)

pub word_short : (n : ℕ) (word bytes : List ℕ) → length (word_line n word bytes) ≤ 23 + length word + length bytes * 2
unfolding word_line
word_short n word bytes = omega (arith, length-append (head_text n word) (end_text bytes), head_short n word, end_short bytes)

pub plain_long : (word : List ℕ) → length (plain_line word) ≡ 1 + length word
unfolding plain_line
plain_long word = omega (arith, length-append word line_feed)

pub named_short : (word : List ℕ) (n : ℕ) → length (named_line word n) ≤ 22 + length word
unfolding named_line
named_short word n = omega (arith, length-append (word ++ number_text n) line_feed, length-append word (number_text n), number_short n)

pub refusal_short : (refusal : Refusal) → length (refusal_line refusal) ≤ 29
refusal_short refusal = named_short refused_word (number_of refusal)
