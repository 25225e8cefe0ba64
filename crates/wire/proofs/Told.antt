-- What two frames that are read alike have in common.
--   fields_told, command_told    equal answers tell the same
--   index_told                   and so the same index
-- Assumes nothing.
use mathlib.Core.Bool.{Bool}
use mathlib.Core.Path.{◌≡◌, ap}
use Prim.Native.Nat.{ℕ}
use Rattle.std.specs.Prelude.{Result, Ok}
use Rattle.base.specs.declared.Refusal.{Refusal}
use Rattle.wire.specs.Frames.{as_fields}
use Rattle.wire.specs.declared.Command.{Command}
use Rattle.wire.specs.declared.Fields.{Fields}

pub fields_told : {a b : Fields} → ◌≡◌ {A = Result Fields Refusal} (Ok a) (Ok b) → a ≡ b
fields_told e = cc

pub index_told : {index other argument word : ℕ} {right wrong : Bool}
    → ◌≡◌ {A = Result Fields Refusal} (Ok (as_fields index argument right)) (Ok (as_fields other word wrong)) → index ≡ other
index_told e = ap (λ (f : Fields). f.index) (fields_told e)

pub command_told : {a b : Command} → ◌≡◌ {A = Result Command Refusal} (Ok a) (Ok b) → a ≡ b
command_told e = cc
