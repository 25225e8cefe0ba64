-- The moves and the classes by their numbers.
--   move_by_lem, class_by_lem          each move and each class is what has its number
--   moves_numbered, classes_numbered   the same as one record each
-- Assumes nothing.
use mathlib.Core.Path.{◌≡◌, refl, ap}
use mathlib.Core.List.{[], ◌∷◌}
use Prim.Native.Nat.{ℕ, zero, suc}
use lib.ListN.{get_or}
use Rattle.states.specs.States.{column_number}
use Rattle.states.proofs.Columns.{column_by, column_placed}
use Rattle.moves.proofs.Spans.{Numbered}
use Rattle.moves.specs.Classes.{class_number}
use Rattle.moves.specs.declared.Class.{Class}
use Rattle.moves.specs.declared.Class.TheVariants as class
use Rattle.moves.specs.declared.Move.{Move}
use Rattle.moves.specs.declared.Move.TheVariants.{Ignored, Silent, Illegal, To}

abbrev pub move_number : Move → ℕ
move_number Ignored = 0
move_number Silent = 1
move_number Illegal = 2
move_number (To column) = suc (suc (suc (column_number column)))

abbrev move_by : ℕ → Move
move_by zero = Ignored
move_by (suc zero) = Silent
move_by (suc (suc zero)) = Illegal
move_by (suc (suc (suc n))) = To (column_by n)

pub move_by_lem : (move : Move) → move_by (move_number move) ≡ move
move_by_lem Ignored = refl
move_by_lem Silent = refl
move_by_lem Illegal = refl
move_by_lem (To column) = ap To (column_placed column).1

abbrev class_by : ℕ → Class
class_by n =
    get_or
    (class.Basic ∷ class.Unsupported ∷ class.BlockRead ∷ class.Unsupported ∷ class.BlockWrite ∷ class.Erase ∷ class.WriteProtection ∷ class.Lock ∷ [])
    n
    class.Unsupported

pub class_by_lem : (class : Class) → class_by (class_number class) ≡ class
class_by_lem class.Basic = refl
class_by_lem class.BlockRead = refl
class_by_lem class.BlockWrite = refl
class_by_lem class.WriteProtection = refl
class_by_lem class.Erase = refl
class_by_lem class.Lock = refl
class_by_lem class.Unsupported = refl

abbrev pub moves_numbered : Numbered Move
moves_numbered = record { number = move_number; by = move_by; by_number = move_by_lem }

abbrev pub classes_numbered : Numbered Class
classes_numbered = record { number = class_number; by = class_by; by_number = class_by_lem }
