-- No line is longer than the room for one.
-- Assumes nothing.
use mathlib.Core.List.{List, []}
use Prim.Native.Nat.{ℕ, ◌≤◌}
use native.Mathlib.Omega.{arith}
use lib.ListN.{length}
use Rattle.base.specs.declared.Refusal.{Refusal}
use Rattle.text.proofs.Lengths.{word_short, plain_long, named_short, refusal_short}
use Rattle.text.specs.Lines.{word_line, named_line, refusal_line}
use Rattle.text.specs.Words.{bad_kind_word, line_word, silent_word, card_word}
use Rattle.text.specs.Writing.{Put, Line}
use Rattle.busline_records.specs.Printing.{bad_kind_text, silent_text, roomy}

module _ {o p : List ℕ} {r : ℕ} where
  pub bad_kind : Put o p 0 r bad_kind_text → Line roomy o p r bad_kind_text
  bad_kind w = record { put = w; short = omega (arith, plain_long bad_kind_word) }

  pub card_line : (n : ℕ) → Put o p 0 r (named_line card_word n) → Line roomy o p r (named_line card_word n)
  card_line n w = record { put = w; short = omega (arith, named_short card_word n) }

  pub refusal_line_lem : (why : Refusal) → Put o p 0 r (refusal_line why) → Line roomy o p r (refusal_line why)
  refusal_line_lem why w = record { put = w; short = omega (arith, refusal_short why) }

  pub silent_line : (n : ℕ) → Put o p 0 r (silent_text n) → Line roomy o p r (silent_text n)
  silent_line n w = record { put = w; short = omega (arith, word_short n silent_word []) }

  pub sent_line_lem : (n : ℕ) (bytes : List ℕ) → length bytes ≤ 17 → Put o p 0 r (word_line n line_word bytes) → Line roomy o p r (word_line n line_word bytes)
  sent_line_lem n bytes h w = record { put = w; short = omega (arith, word_short n line_word bytes) }
