-- Document 01, "Refusal numbers": what a call leaves in a lent output.
-- Assumes nothing.
use Rattle.std.specs.Prelude.{List, ◌++◌, ℕ, ◌-◌, min, leb, length, drop, Result, Ok, Err}
use Rattle.std.proofs.Math.Seq.{paste}
use Rattle.base.specs.Choice.{unless}
use Rattle.base.specs.Refusals.{by}
use Rattle.base.specs.declared.Refusal.{Refusal}

-- 6: the lent output is too short for the bytes
abbrev pub fits : List ℕ → List ℕ → Result ℕ Refusal
fits bytes out = unless (leb (length bytes) (length out)) (Err (by 6)) (Ok (length bytes))

-- "Output past the answer's end is never written", and a refusal changes nothing in it
abbrev pub laid : Result ℕ Refusal → List ℕ → List ℕ → List ℕ
laid (Ok n) bytes out = bytes ++ drop (length bytes) out
laid (Err r) bytes out = out

-- how many bytes at the front of an output an answer speaks of: none where it is a refusal
abbrev pub bytes_of : Result ℕ Refusal → ℕ
bytes_of (Ok n) = n
bytes_of (Err r) = 0

-- as many of the bytes as there is room for, written over others from a place on; nothing before that place or behind them is written
abbrev pub copied : List ℕ → List ℕ → ℕ → List ℕ
copied bytes over at = paste over at bytes (min (length bytes) (length over - at))
