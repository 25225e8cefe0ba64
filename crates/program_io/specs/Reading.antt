-- What a read can give, whatever an operating system has for it.
-- Assumes nothing.
use Rattle.std.specs.Prelude.{ℕ, ◌≤◌, ◌<◌, min, Option, Some, None, Result, Ok, Err}
use Rattle.program_io.specs.declared.Told.{Told}

-- bytes are told of by the place behind them: there is one or more behind those that were kept, and they lie in the buffer
abbrev pub Behind : ℕ → ℕ → Result (Option ℕ) Told → Type 0
Behind kept length (Ok (Some n)) = (min kept length < n) × (n ≤ length)
Behind kept length (Ok None) = Unit {0}
Behind kept length (Err _) = Unit {0}
