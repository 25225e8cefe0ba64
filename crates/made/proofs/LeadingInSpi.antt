-- The table of moves of SPI is `Leading` (`leading`), so that what a taken command does keeps a card made there too.
-- Assumes nothing.
use mathlib.Core.Path.{◌≡◌, refl}
use mathlib.Core.Bool.{true}
use mathlib.Core.List.{List, [], ◌∷◌}
use Prim.Native.Nat.{ℕ}
use Rattle.moves.proofs.Among.{each}
use Rattle.moves.specs.Indices.{among}
use Rattle.moves.specs.declared.Move.TheVariants.{To}
use Rattle.spi_moves.specs.Moves.{row_of, move_of}
use Rattle.spi_moves.specs.declared.Row.TheVariants.{SendStatus, SetOrTag}
use Rattle.states.specs.declared.Column.{Column}
use Rattle.states.specs.declared.Column.TheVariants.{Idle, Ready, Ident, Stby, Tran, Data, Rcv, Prg, Dis, Ina}
use Rattle.made.specs.Leading.{Leading}

status_stays : (from there : Column) → move_of SendStatus from ≡ To there → there ≡ from
unfolding move_of
status_stays Idle there e = cc
status_stays Ready there e = cc
status_stays Ident there e = cc
status_stays Stby there e = cc
status_stays Tran there e = cc
status_stays Data there e = cc
status_stays Rcv there e = cc
status_stays Prg there e = cc
status_stays Dis there e = cc
status_stays Ina there e = cc

tran_stays : (from there : Column) → move_of SetOrTag from ≡ To there → there ≡ Tran
unfolding move_of
tran_stays Idle there e = cc
tran_stays Ready there e = cc
tran_stays Ident there e = cc
tran_stays Stby there e = cc
tran_stays Tran there e = cc
tran_stays Data there e = cc
tran_stays Rcv there e = cc
tran_stays Prg there e = cc
tran_stays Dis there e = cc
tran_stays Ina there e = cc

abbrev tagging : List ℕ
tagging = 16 ∷ 32 ∷ 33 ∷ 35 ∷ 36 ∷ []

tran_row : (index : ℕ) → among index tagging ≡ true → row_of index ≡ SetOrTag
unfolding row_of
tran_row index = each (λ (k : ℕ). row_of k ≡ SetOrTag) tagging (refl, (refl, (refl, (refl, (refl, tt))))) index

pub leading : (index : ℕ) (from there : Column) → move_of (row_of index) from ≡ To there → Leading index from there
unfolding row_of
leading index from there h =
    record {
      status = λ i. status_stays from there (rw i at h);
      tran = λ t. tran_stays from there (rw (tran_row index t) at h);
    }
