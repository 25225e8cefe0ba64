-- What follows from the rules of the moves and the lists of commands.
--   listed          a move is one of those that the table's column "Move" lists for its row
--   inactive        an Inactive card ignores every row
--   bit_22_states   a row is illegal in tran, data, rcv and prg only
--   never_illegal   CMD1, 2, 3 and 4 are illegal nowhere
--   unsupported     a command whose class is unsupported falls in the last row: one test over all 256 indices
-- Assumes nothing.
use mathlib.Core.Path.{◌≡◌, refl, subst}
use mathlib.Core.Bool.{Bool, true, false}
use mathlib.Core.List.{List, [], ◌∷◌}
use Prim.Native.Nat.{ℕ, ◌<◌}
use lib.Bits.{bit_and}
use lib.Dec.{T, eqb, ltb}
use Rattle.base.proofs.Cases.{picked}
use Rattle.base.proofs.Span.{below}
use Rattle.base.specs.Choice.{pick}
use Rattle.states.specs.States.{column_number}
use Rattle.states.specs.declared.Column.{Column}
use Rattle.states.specs.declared.Column.TheVariants.{Tran, Data, Rcv, Prg, Ina}
use Rattle.moves.proofs.Among.{each}
use Rattle.moves.proofs.Orders.{rows_numbered, everywhere}
use Rattle.moves.proofs.Spans.{told}
use Rattle.moves.specs.Classes.{class_of, class_number}
use Rattle.moves.specs.Indices.{among}
use Rattle.moves.specs.Moves.{row_number, in_state, in_row, legal, move_of}
use Rattle.moves.specs.Rows.{window, op_cond_row, cid_row, transfer_row, row_of}
use Rattle.moves.specs.declared.Received.{Received}
use Rattle.moves.specs.declared.Class.{Class}
use Rattle.moves.specs.declared.Class.TheVariants as class
use Rattle.moves.specs.declared.Move.{Move}
use Rattle.moves.specs.declared.Move.TheVariants.{Ignored, Silent, Illegal, To}
use Rattle.moves.specs.declared.Row.{Row}
use Rattle.moves.specs.declared.Row.TheVariants.{OpCondAsked, OpCondShared, OpCondApart, AllSendCidWon, AllSendCidLost, SetRelativeAddr, SetDsr, Unsupported}

-- from a state to a state is among the pairs
abbrev pub pair_in : Column → Column → List (Column × Column) → Bool
pair_in from there [] = false
pair_in from there (pair ∷ pairs) =
    pick (eqb (column_number from) (column_number pair.0)) (pick (eqb (column_number there) (column_number pair.1)) true (pair_in from there pairs))
    (pair_in from there pairs)

abbrev lawful : Move → Column → List (Column × Column) → Bool
lawful Ignored from pairs = true
lawful Silent from pairs = true
lawful Illegal from pairs = true
lawful (To there) from pairs = pair_in from there pairs

abbrev fair : Row → Column → Bool
fair row column = lawful (move_of row column) column (legal row)

pub listed : (row : Row) (from there : Column) → move_of row from ≡ To there → T (pair_in from there (legal row))
unfolding move_of
listed row from there e = subst (λ (m : Move). T (lawful m from (legal row))) e (everywhere fair tt row from)

pub inactive : (row : Row) → move_of row Ina ≡ Ignored
unfolding move_of
inactive row = refl

-- a test that has to hold only where a row is illegal
abbrev if_illegal : Move → Bool → Bool
if_illegal Ignored t = true
if_illegal Silent t = true
if_illegal Illegal t = t
if_illegal (To there) t = true

illegal_only : (f : Row → Column → Bool) → ((row : Row) (column : Column) → T (if_illegal (move_of row column) (f row column))) → (row : Row) (column : Column)
    → move_of row column ≡ Illegal → T (f row column)
illegal_only f holds row column e = subst (λ (m : Move). T (if_illegal m (f row column))) e (holds row column)

abbrev judging : Row → Column → Bool
judging row column = in_state column (Tran ∷ Data ∷ Rcv ∷ Prg ∷ [])

abbrev judged : Row → Column → Bool
judged row column = if_illegal (move_of row column) (judging row column)

pub bit_22_states : (row : Row) (column : Column) → move_of row column ≡ Illegal → T (in_state column (Tran ∷ Data ∷ Rcv ∷ Prg ∷ []))
unfolding move_of
bit_22_states = illegal_only judging (everywhere judged tt)

-- the rows of CMD1 to 4
abbrev identifying : List Row
identifying = OpCondAsked ∷ OpCondShared ∷ OpCondApart ∷ AllSendCidWon ∷ AllSendCidLost ∷ SetRelativeAddr ∷ SetDsr ∷ []

abbrev others : Row → Column → Bool
others row column = pick (in_row row identifying) false true

abbrev others_only : Row → Column → Bool
others_only row column = if_illegal (move_of row column) (others row column)

row_never_illegal : (row : Row) (column : Column) → in_row row identifying ≡ true → move_of row column ≡ Illegal → ⊥
unfolding move_of
row_never_illegal row column h e =
    subst (λ (b : Bool). T (pick b false true)) h (illegal_only others (everywhere others_only tt) row column e)

abbrev Identifies : Row → Type 0
Identifies row = in_row row identifying ≡ true

op_cond_identifies : (asked held : ℕ) → Identifies (op_cond_row asked held)
op_cond_identifies asked held =
    picked Identifies (eqb asked 0) (λ t. refl) (λ t. picked Identifies (ltb 0 (bit_and asked held)) (λ u. refl) (λ u. refl))

cid_identifies : (wins : Bool) → Identifies (cid_row wins)
cid_identifies wins = picked Identifies wins (λ t. refl) (λ t. refl)

module _ (argument address ocr : ℕ) (wins : Bool) where
  abbrev at : ℕ → Received
  at i = record { index = i; argument = argument; address = address; ocr = ocr; wins = wins }

  identifies : (i : ℕ) → among i (1 ∷ 2 ∷ 3 ∷ 4 ∷ []) ≡ true → Identifies (row_of (at i))
  unfolding row_of
  identifies i =
      each (λ (k : ℕ). Identifies (row_of (at k))) (1 ∷ 2 ∷ 3 ∷ 4 ∷ [])
      (op_cond_identifies (window argument) (window ocr), (cid_identifies wins, (refl, (refl, tt)))) i

  abbrev last : ℕ → Bool
  last i = pick (eqb (class_number (class_of i)) (class_number class.Unsupported)) (eqb (row_number (row_of (at i))) (row_number Unsupported)) true

  lasts : (i : ℕ) → i < 256 → T (last i)
  unfolding class_of row_of transfer_row
  lasts i h = below last 256 tt i h

pub never_illegal : (asked : Received) (column : Column) → among asked.index (1 ∷ 2 ∷ 3 ∷ 4 ∷ []) ≡ true → move_of (row_of asked) column ≡ Illegal → ⊥
never_illegal asked column h =
    row_never_illegal (row_of asked) column (identifies asked.argument asked.address asked.ocr asked.wins asked.index h)

pub unsupported : (asked : Received) → asked.index < 256 → class_of asked.index ≡ class.Unsupported → row_of asked ≡ Unsupported
unsupported asked h e =
    told rows_numbered (row_of asked) Unsupported
    (subst (λ (c : Class). T (pick (eqb (class_number c) (class_number class.Unsupported)) (eqb (row_number (row_of asked)) (row_number Unsupported)) true)) e
    (lasts asked.argument asked.address asked.ocr asked.wins asked.index h))
