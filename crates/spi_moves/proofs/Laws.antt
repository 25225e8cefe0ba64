-- What follows from the rows and the moves of SPI.
--   inactive         an Inactive card ignores every row
--   answered         no other state ignores a row or leaves it unjudged: it is a legal move or illegal
--   idle_allows      in Idle CMD0, 1, 58 and 59 are legal, and every other index is illegal
--   named_illegal    CMD2, 3, 4, 7, 11, 12, 15, 18 and 25 are illegal in every state but Inactive
--   stays_in_five    from Idle, tran, data, rcv and prg every move leads to one of them
--   as_read          CMD9 and 10 have CMD17's moves
--   as_in_mmc        a command of 01 that SPI leaves alone moves as it does in MMC mode, where it is for the card's own address
-- Assumes nothing.
use mathlib.Core.Path.{◌≡◌, refl, sym, ap, ◌∙◌, subst}
use mathlib.Core.Bool.{Bool, true, false}
use mathlib.Core.List.{List, [], ◌∷◌}
use Prim.Native.Nat.{ℕ, ◌/◌, ◌<◌}
use lib.Dec.{T, eqb}
use Rattle.base.proofs.Cases.{both, both_left, both_right}
use Rattle.base.proofs.Span.{below}
use Rattle.base.specs.Choice.{pick}
use Rattle.states.specs.declared.Column.{Column}
use Rattle.states.specs.declared.Column.TheVariants.{Idle, Ina}
use Rattle.moves.proofs.Among.{each}
use Rattle.moves.proofs.Numbers.{move_number, moves_numbered}
use Rattle.moves.proofs.Spans.{told}
use Rattle.moves.specs.Indices.{among}
use Rattle.moves.specs.Moves.{in_state, move_of as move_in_mmc}
use Rattle.moves.specs.Rows.{own, row_of as row_in_mmc, transfer_row}
use Rattle.moves.specs.declared.Received.{Received}
use Rattle.moves.specs.declared.Move.{Move}
use Rattle.moves.specs.declared.Move.TheVariants.{Ignored, Silent, Illegal, To}
use Rattle.moves.specs.declared.Row.{Row as RowInMmc}
use Rattle.moves.specs.declared.Row.TheVariants as mmc
use Rattle.spi_moves.proofs.Orders.{everywhere}
use Rattle.spi_moves.specs.Moves.{row_of, five, move_of}
use Rattle.spi_moves.specs.declared.Row.{Row}
use Rattle.spi_moves.specs.declared.Row.TheVariants.{GoIdleState, OpCond, OcrOrCrc, SendStatus, SendRegister, SetOrTag, Read, Write, Program, Unsupported}

pub inactive : (row : Row) → move_of row Ina ≡ Ignored
unfolding move_of
inactive row = refl

-- a legal move, or illegal
abbrev pub judged : Move → Bool
judged Ignored = false
judged Silent = false
judged Illegal = true
judged (To there) = true

abbrev fair : Row → Column → Bool
fair row column = pick (in_state column (Ina ∷ [])) true (judged (move_of row column))

pub answered : (row : Row) (column : Column) → in_state column (Ina ∷ []) ≡ false → T (judged (move_of row column))
unfolding move_of
answered row column h = subst (λ (b : Bool). T (pick b true (judged (move_of row column)))) h (everywhere fair tt row column)

-- ---- Idle
abbrev pub legal_move : Move → Bool
legal_move Ignored = false
legal_move Silent = false
legal_move Illegal = false
legal_move (To there) = true

abbrev same : Bool → Bool → Bool
same true b = b
same false b = pick b false true

equal : (a b : Bool) → T (same a b) → a ≡ b
equal true true t = refl
equal true false t = absurd t
equal false true t = absurd t
equal false false t = refl

abbrev allowed : ℕ → Bool
allowed i = same (legal_move (move_of (row_of i) Idle)) (among i (0 ∷ 1 ∷ 58 ∷ 59 ∷ []))

pub idle_allows : (i : ℕ) → i < 256 → legal_move (move_of (row_of i) Idle) ≡ among i (0 ∷ 1 ∷ 58 ∷ 59 ∷ [])
unfolding move_of row_of
idle_allows i h = equal (legal_move (move_of (row_of i) Idle)) (among i (0 ∷ 1 ∷ 58 ∷ 59 ∷ [])) (below allowed 256 tt i h)

-- ---- the illegal
last_illegal : (column : Column) → in_state column (Ina ∷ []) ≡ false → move_of Unsupported column ≡ Illegal
unfolding move_of
last_illegal column h = simp h

abbrev pub named : List ℕ
named = 2 ∷ 3 ∷ 4 ∷ 7 ∷ 11 ∷ 12 ∷ 15 ∷ 18 ∷ 25 ∷ []

abbrev IsLast : ℕ → Type 0
IsLast i = row_of i ≡ Unsupported

named_last : (i : ℕ) → among i named ≡ true → row_of i ≡ Unsupported
unfolding row_of
named_last = each IsLast named (refl, (refl, (refl, (refl, (refl, (refl, (refl, (refl, (refl, tt)))))))))

pub named_illegal : (i : ℕ) → among i named ≡ true → (column : Column) → in_state column (Ina ∷ []) ≡ false → move_of (row_of i) column ≡ Illegal
named_illegal i h column k = ap (λ (row : Row). move_of row column) (named_last i h) ∙ last_illegal column k

-- ---- the states that a card in SPI reaches
abbrev within : Move → Bool
within Ignored = true
within Silent = true
within Illegal = true
within (To there) = in_state there five

abbrev closed : Row → Column → Bool
closed row column = pick (in_state column five) (within (move_of row column)) true

pub stays_in_five : (row : Row) (from there : Column) → in_state from five ≡ true → move_of row from ≡ To there → T (in_state there five)
unfolding move_of
stays_in_five row from there h e =
    subst (λ (m : Move). T (within m)) e (subst (λ (b : Bool). T (pick b (within (move_of row from)) true)) h (everywhere closed tt row from))

-- ---- the moves of 01
pub as_read : (column : Column) → move_of SendRegister column ≡ move_of Read column
unfolding move_of
as_read column = refl

-- the row of 01 that a row is; those that are 02's own are none
abbrev pub in_mmc : Row → RowInMmc
in_mmc GoIdleState = mmc.GoIdleState
in_mmc OpCond = mmc.Unsupported
in_mmc OcrOrCrc = mmc.Unsupported
in_mmc SendStatus = mmc.SendStatus
in_mmc SendRegister = mmc.Unsupported
in_mmc SetOrTag = mmc.SetOrTag
in_mmc Read = mmc.Read
in_mmc Write = mmc.Write
in_mmc Program = mmc.Program
in_mmc Unsupported = mmc.Unsupported

abbrev pub shared : List ℕ
shared = 0 ∷ 13 ∷ 16 ∷ 17 ∷ 24 ∷ 28 ∷ 29 ∷ 30 ∷ 32 ∷ 33 ∷ 35 ∷ 36 ∷ 38 ∷ 42 ∷ []

-- a move of one is a move of the other
abbrev follows : Move → Move → Bool
follows Ignored other = true
follows Silent other = true
follows Illegal other = true
follows (To there) other = eqb (move_number (To there)) (move_number other)

abbrev ours : Row → Bool
ours GoIdleState = false
ours OpCond = true
ours OcrOrCrc = true
ours SendStatus = false
ours SendRegister = true
ours SetOrTag = false
ours Read = false
ours Write = false
ours Program = false
ours Unsupported = false

abbrev alike : Row → Column → Bool
alike row column =
    pick (ours row) true
    (both (follows (move_of row column) (move_in_mmc (in_mmc row) column)) (follows (move_in_mmc (in_mmc row) column) (move_of row column)))

followed : (a b : Move) (there : Column) → T (follows a b) → a ≡ To there → b ≡ To there
followed a b there t e = sym (told moves_numbered (To there) b (subst (λ (m : Move). T (follows m b)) e t))

-- where one leads the other leads
abbrev pub Alike : Move → Move → Type 0
Alike a b = (there : Column) → (a ≡ To there → b ≡ To there) × (b ≡ To there → a ≡ To there)

row_alike : (row : Row) (column : Column) → ours row ≡ false → Alike (move_of row column) (move_in_mmc (in_mmc row) column)
unfolding move_of move_in_mmc
row_alike row column h there =
    let s = move_of row column in
    let m = move_in_mmc (in_mmc row) column in
    let t : T (both (follows s m) (follows m s)) =
    subst (λ (b : Bool). T (pick b true (both (follows s m) (follows m s)))) h (everywhere alike tt row column) in
    (followed s m there (both_left (follows s m) (follows m s) t), followed m s there (both_right (follows s m) (follows m s) t))

module _ (argument address ocr : ℕ) (wins : Bool) (mine : eqb (argument / 65536) address ≡ true) where
  abbrev at : ℕ → Received
  at i = record { index = i; argument = argument; address = address; ocr = ocr; wins = wins }

  abbrev Same : ℕ → Type 0
  Same i = (ours (row_of i) ≡ false) × (row_in_mmc (at i) ≡ in_mmc (row_of i))

  rows_alike : (i : ℕ) → among i shared ≡ true → Same i
  unfolding row_of row_in_mmc transfer_row
  rows_alike =
      each Same shared (
        (refl, refl),
        (
          (refl, simp mine),
          (
            (refl, refl),
            (
              (refl, refl),
              (
                (refl, refl),
                (
                  (refl, refl),
                  (
                    (refl, refl),
                    (
                      (refl, refl),
                      ((refl, refl), ((refl, refl), ((refl, refl), ((refl, refl), ((refl, refl), ((refl, refl), tt)))))),
                    ),
                  ),
                ),
              ),
            ),
          ),
        ),
      )

pub as_in_mmc : (asked : Received) (column : Column) → own asked ≡ true → among asked.index shared ≡ true
    → Alike (move_of (row_of asked.index) column) (move_in_mmc (row_in_mmc asked) column)
as_in_mmc asked column mine h =
    let s = rows_alike asked.argument asked.address asked.ocr asked.wins mine asked.index h in
    subst (λ (row : RowInMmc). Alike (move_of (row_of asked.index) column) (move_in_mmc row column)) (sym s.1)
    (row_alike (row_of asked.index) column s.0)
