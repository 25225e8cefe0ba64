-- A text written into a lent output, from a place on.
-- Assumes nothing.
use Rattle.std.specs.Prelude.{◌≡◌, List, ◌++◌, ℕ, ◌+◌, ◌≤◌, min, length, take, drop}
use Rattle.base.specs.Output.{copied}

-- as much of a text as there is room for, written from `at` on: `before` becomes `after`, and `next` is the place behind what was written
pub record Put (before after : List ℕ) (at next : ℕ) (text : List ℕ) : Type 0 where
  pub place : next ≡ min (at + length text) (length before)
  pub output : after ≡ copied text before at

-- the same where there is room for all of it (law `put_whole`): the text stands there whole, and nothing else has changed
pub record Wrote (before after : List ℕ) (at next : ℕ) (text : List ℕ) : Type 0 where
  pub end : next ≡ at + length text
  pub front : take next after ≡ take at before ++ text
  pub back : drop next after ≡ drop next before
  pub same : length after ≡ length before

-- a line at the front of an output, as far as there is room for it, and not longer than so many bytes: whoever has room for these has it whole
pub record Line (most : ℕ) (before after : List ℕ) (next : ℕ) (text : List ℕ) : Type 0 where
  pub put : Put before after 0 next text
  pub short : length text ≤ most
