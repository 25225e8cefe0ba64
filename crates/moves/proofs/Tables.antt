-- A table of moves, whatever its rows are: one test that antt computes over all its places holds at each.
--   everywhere   a test that passes at every row in every state passes at any
--   ruled        a table whose entries pass the test against a rule holds that rule's moves
-- Assumes nothing.
use mathlib.Core.Path.{◌≡◌, subst, subst⁻¹}
use mathlib.Core.Bool.{Bool}
use mathlib.Core.List.{List, []}
use Prim.Native.Nat.{ℕ, ◌<◌}
use lib.Dec.{T, eqb, eqb→eq}
use lib.ListN.{length, get_or}
use Rattle.base.proofs.Cases.{both, both_left, both_right}
use Rattle.base.proofs.Table.{every, at}
use Rattle.states.specs.States.{column_number}
use Rattle.states.specs.declared.Column.{Column}
use Rattle.states.specs.declared.Column.TheVariants.{Idle}
use Rattle.states.proofs.Columns.{columns, column_by, column_placed}
use Rattle.moves.proofs.Spans.{told}
use Rattle.moves.proofs.Numbers.{move_number, moves_numbered}
use Rattle.moves.specs.Table.{entry_in}
use Rattle.moves.specs.declared.Move.{Move}
use Rattle.moves.specs.declared.Move.TheVariants.{Ignored}

module _ {Row : Type 0} (rows : List Row) where
  abbrev in_every : (Row → Column → Bool) → Row → Bool
  in_every f row = every (λ (k : ℕ) (column : Column). f row column) 0 columns

  abbrev pub throughout : (Row → Column → Bool) → Bool
  throughout f = every (λ (k : ℕ) (row : Row). in_every f row) 0 rows

  -- each row is at its number
  abbrev pub Placed : Row → (Row → ℕ) → Row → Type 0
  Placed first number row = (number row < length rows) × (get_or rows (number row) first ≡ row)

module _ {Row : Type 0} (rows : List Row) (first : Row) (rule : Row → Column → Move) where
  abbrev stands : Move → Row → Column → Bool
  stands e row column = eqb (move_number e) (move_number (rule row column))

  abbrev in_line : ℕ → ℕ → Move → Bool
  in_line line place e = stands e (get_or rows line first) (column_by place)

  abbrev right : ℕ → List Move → Bool
  right line entries = both (eqb (length entries) 10) (every (in_line line) 0 entries)

  -- a line for each row, whose ten entries are the rule's moves
  abbrev pub Right : List (List Move) → Type 0
  Right table = T (every right 0 table) × (length table ≡ length rows)

module _ {Row : Type 0} (rows : List Row) (first : Row) (number : Row → ℕ) (placed : (row : Row) → Placed rows first number row) where
  pub everywhere : (f : Row → Column → Bool) → T (throughout rows f) → (row : Row) (column : Column) → T (f row column)
  everywhere f t row column =
      subst (λ (x : Column). T (f row x)) (column_placed column).1
      (at (λ (k : ℕ) (x : Column). f row x) Idle columns
      (subst (λ (x : Row). T (in_every rows f x)) (placed row).1
      (at (λ (k : ℕ) (x : Row). in_every rows f x) first rows t (number row) (placed row).0))
      (column_number column)
      (column_placed column).0)

  pub ruled : (rule : Row → Column → Move) (table : List (List Move)) → Right rows first rule table → (row : Row) (column : Column)
      → entry_in (get_or table (number row) []) column ≡ rule row column
  ruled rule table t row column =
      let entries = get_or table (number row) [] in
      let line : T (right rows first rule (number row) entries) =
      at (right rows first rule) [] table t.0 (number row) (subst⁻¹ (λ (m : ℕ). number row < m) t.1 (placed row).0) in
      let held = in_line rows first rule (number row) in
      let ten : length entries ≡ 10 = eqb→eq (length entries) 10 (both_left (eqb (length entries) 10) (every held 0 entries) line) in
      let e = entry_in entries column in
      let here : T (held (column_number column) e) =
      at held Ignored entries (both_right (eqb (length entries) 10) (every held 0 entries) line) (column_number column)
      (subst⁻¹ (λ (m : ℕ). column_number column < m) ten (column_placed column).0) in
      told moves_numbered e (rule row column)
      (subst (λ (r : Row). T (stands rows first rule e r column)) (placed row).1
      (subst (λ (k : Column). T (stands rows first rule e (get_or rows (number row) first) k)) (column_placed column).1 here))
