-- Document 01, "Refusal numbers", as C is told them: 0 for a call that was carried out, else the number of its refusal.
-- Assumes nothing.
use Rattle.std.specs.Prelude.{ℕ, Result, Ok, Err}
use Rattle.base.specs.Refusals.{number_of}
use Rattle.base.specs.declared.Refusal.{Refusal}
use Rattle.wire.specs.declared.Command.{Command}

abbrev pub number_told : {A : Type 0} → Result A Refusal → ℕ
number_told (Ok given) = 0
number_told (Err refusal) = number_of refusal

-- the lent index after a frame was read: the command's, or what it held before
abbrev pub index_read : Result Command Refusal → ℕ → ℕ
index_read (Ok command) before = command.index
index_read (Err refusal) before = before

-- the lent argument likewise
abbrev pub argument_read : Result Command Refusal → ℕ → ℕ
argument_read (Ok command) before = command.argument
argument_read (Err refusal) before = before
