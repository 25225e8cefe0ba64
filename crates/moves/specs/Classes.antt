-- Document 01, "What the card covers": the class of a command follows from its index.
-- Assumes nothing.
use Rattle.std.specs.Prelude.{[], ◌∷◌, ℕ}
use Rattle.base.specs.Choice.{pick}
use Rattle.moves.specs.Indices.{among}
use Rattle.moves.specs.declared.Class.{Class}
use Rattle.moves.specs.declared.Class.TheVariants.{Basic, BlockRead, BlockWrite, WriteProtection, Erase, Lock, Unsupported}

-- "Indices in the base: 0-4, 7, 9, 10, 12, 13, 15 (class 0); 16-18 (block read); 24, 25 (block write); 28-30 (write
-- protection); 32, 33, 35, 36, 38 (erase); 42 (lock) .. other indices are unsupported"; "and CMD58 and CMD59 (002)", which are of class 0
-- there (document 02, request 1)
unfoldable pub class_of : ℕ → Class
class_of index =
    pick (among index (0 ∷ 1 ∷ 2 ∷ 3 ∷ 4 ∷ 7 ∷ 9 ∷ 10 ∷ 12 ∷ 13 ∷ 15 ∷ 58 ∷ 59 ∷ [])) Basic
    (pick (among index (16 ∷ 17 ∷ 18 ∷ [])) BlockRead
    (pick (among index (24 ∷ 25 ∷ [])) BlockWrite
    (pick (among index (28 ∷ 29 ∷ 30 ∷ [])) WriteProtection
    (pick (among index (32 ∷ 33 ∷ 35 ∷ 36 ∷ 38 ∷ [])) Erase
    (pick (among index (42 ∷ [])) Lock Unsupported)))))

-- the standard's number of a class; its classes end at 11, and 12 stands for no class
abbrev pub class_number : Class → ℕ
class_number Basic = 0
class_number BlockRead = 2
class_number BlockWrite = 4
class_number Erase = 5
class_number WriteProtection = 6
class_number Lock = 7
class_number Unsupported = 12
