-- A script: the lines of its records, one after the other, until one stops, played piece by piece.
-- Assumes nothing.
use Rattle.std.specs.Prelude.{List, [], ◌++◌, ℕ, eqb, length, replicate}
use Rattle.base.specs.Choice.{pick}
use Rattle.cardline_looks.specs.Lines.{roomy}
use Rattle.cardline_records.specs.Record.{text_of, buffers_after, said_of}
use Rattle.cardline_records.specs.Progress.{fresh_progress}
use Rattle.cardline_records.specs.declared.Progress.{Progress}
use Rattle.playing.specs.Playing.{Step, Played, played_in, played_of}
use Rattle.store.specs.Lent.{Lent, lent_of}
use Rattle.text.specs.Lines.{plain_line}
use Rattle.text.specs.Words.{cut_word}

-- what is kept from record to record, with the two buffers
pub record Kept : Type 0 where
  pub progress : Progress
  pub buffers : Lent

abbrev pub kept : Progress → Lent → Kept
kept w buffers = record { progress = w; buffers = buffers }

-- the record at the front of the bytes at hand, with room for its line
unfoldable pub record_step : Kept → List ℕ → Step Kept
record_step k s = record {
  line = text_of k.progress s k.buffers roomy;
  kept = kept (said_of k.progress s k.buffers roomy).progress (buffers_after k.progress s k.buffers roomy);
  used = (said_of k.progress s k.buffers roomy).used;
  then = (said_of k.progress s k.buffers roomy).then;
}

-- a turn of the program: the record at the front of a piece of a script, if it is whole. Its line, what is kept behind it, the bytes left
-- over, and how the script goes on. Any pieces, turn by turn, are the whole: laws `pieces` and `told`
abbrev pub piece_of : Kept → List ℕ → Played Kept
piece_of k s = played_in record_step 1 k s

-- "A short body prints `cut` and stops": at the end of the input, if bytes are left over
abbrev pub cut_text : ℕ → List ℕ
cut_text left = pick (eqb left 0) [] (plain_line cut_word)

-- a whole script, from buffers of zeros that hold the largest lent memory and map
abbrev pub fresh_kept : Kept
fresh_kept = kept fresh_progress (lent_of (replicate 528384 0) (replicate 256 0))

abbrev pub closed : Played Kept → List ℕ
closed played = played.text ++ cut_text (length played.left)

unfoldable pub transcript : List ℕ → List ℕ
transcript s = closed (played_of record_step fresh_kept s)
