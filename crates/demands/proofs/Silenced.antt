-- Demand 1, silenced: what checks 1, 3 and 4 stop in MMC mode leaves the record as it was, but for bit 22 where document 01 names it, and
-- sends nothing. For every record, and whether or not a card would win the line. (AnsweredInSpi has commands in SPI.)
--   by_move       a command is what its entry of the table makes of it
--   silenced      every command is taken, or silent and unchanged, or silent with bit 22 in tran, data, rcv or prg: there is nothing else
--   check_1       in Inactive: silent, unchanged
--   check_3       what check 3 passes over: silent, unchanged
--   check_4       no legal move: silent with bit 22 in tran, data, rcv and prg, and elsewhere silent, unchanged
--   deselected    CMD7 for another address outside tran, data and prg, so in rcv too: silent, unchanged
-- Assumes nothing.
use mathlib.Core.Path.{◌≡◌, refl, ap, ◌∙◌}
use mathlib.Core.Bool.{Bool, true, false, not}
use mathlib.Core.List.{[], ◌∷◌}
use Prim.Native.Nat.{ℕ, ◌/◌}
use borrow.Author.Tests.{ne_eqb}
use lib.Bits.{bit_and}
use lib.Dec.{T, eqb, ltb}
use Rattle.base.proofs.Cases.{picked}
use Rattle.base.specs.Choice.{pick}
use Rattle.command.specs.Command.{received_of, moved_by, command_of}
use Rattle.command.specs.declared.Met.{Met}
use Rattle.moves.proofs.Among.{each}
use Rattle.moves.proofs.Laws.{inactive, bit_22_states}
use Rattle.moves.proofs.Numbers.{move_number, moves_numbered}
use Rattle.moves.proofs.Orders.{everywhere}
use Rattle.moves.proofs.Spans.{told}
use Rattle.moves.specs.Moves.{in_state, in_row, legal, unjudged, no_legal_move, move_of}
use Rattle.moves.specs.Rows.{window, row_of}
use Rattle.moves.specs.declared.Received.{Received}
use Rattle.moves.specs.declared.Move.{Move}
use Rattle.moves.specs.declared.Move.TheVariants.{Ignored, Silent, Illegal, To}
use Rattle.moves.specs.declared.Row.{Row}
use Rattle.moves.specs.declared.Row.TheVariants.{OpCondAsked, OpCondShared, OpCondApart, AllSendCidWon, AllSendCidLost, SetRelativeAddr, SetDsr, DeselectCard, OtherAddress}
use Rattle.card_record.specs.declared.Link.{Link}
use Rattle.states.specs.States.{column_of}
use Rattle.states.specs.declared.Column.{Column}
use Rattle.states.specs.declared.Column.TheVariants.{Idle, Ready, Ident, Tran, Data, Rcv, Prg}
use Rattle.states.specs.declared.State.TheVariants as state
use Rattle.demands.specs.Silenced.{none_from, In, Outside, ForAnother, Unchanged, Marked, Judged, PassedOver, NoLegalMove}

holds : (b : Bool) → T b → b ≡ true
holds true t = refl
holds false t = absurd t

-- a test that a computed test holds at wherever another does
given : (a b : Bool) → a ≡ true → T (pick a b true) → T b
given a b h t = rw h at t

-- neither a move nor illegal
abbrev still : Move → Bool
still Ignored = true
still Silent = true
still Illegal = false
still (To column) = false

-- the rows that check 3 stops in a state
abbrev stopped : Row → Column → Bool
stopped row column =
    pick (in_row row (OtherAddress ∷ SetDsr ∷ AllSendCidLost ∷ [])) true
    (pick (in_row row (OpCondAsked ∷ OpCondShared ∷ OpCondApart ∷ [])) (not (in_state column (Idle ∷ [])))
    (pick (in_row row (AllSendCidWon ∷ [])) (not (in_state column (Ready ∷ [])))
    (pick (in_row row (SetRelativeAddr ∷ [])) (not (in_state column (Ident ∷ []))) false)))

stopped_still : (row : Row) (column : Column) → T (pick (stopped row column) (still (move_of row column)) true)
unfolding move_of
stopped_still = everywhere (λ row column. pick (stopped row column) (still (move_of row column)) true) tt

-- CMD7 for another address where it has no move
abbrev deselecting : Row → Column → Bool
deselecting row column = pick (in_row row (DeselectCard ∷ [])) (not (in_state column (Tran ∷ Data ∷ Prg ∷ []))) false

deselecting_still : (row : Row) (column : Column) → T (pick (deselecting row column) (still (move_of row column)) true)
unfolding move_of
deselecting_still = everywhere (λ row column. pick (deselecting row column) (still (move_of row column)) true) tt

-- "No legal move", by the table's column "Move"
abbrev moveless : Row → Column → Bool
moveless row column = pick (in_row row unjudged) false (pick (in_row row (DeselectCard ∷ [])) false (none_from column (legal row)))

moveless_marked : (row : Row) (column : Column) → T (pick (moveless row column) (eqb (move_number (move_of row column)) (move_number (no_legal_move column))) true)
unfolding move_of
moveless_marked =
    everywhere (λ row column. pick (moveless row column) (eqb (move_number (move_of row column)) (move_number (no_legal_move column))) true) tt

module _ (link : Link) (met : Met) (index argument : ℕ) where
  abbrev asked : Received
  asked = received_of link met index argument

  abbrev column : Column
  column = column_of link.state

  -- the command as the table's entry has it
  pub by_move : (move : Move) → move_of (row_of asked) column ≡ move → command_of link met index argument ≡ moved_by link met asked (row_of asked) move
  unfolding command_of
  by_move move e = ap (moved_by link met asked (row_of asked)) e

  pub silenced : Judged link met index argument
  silenced = go (move_of (row_of asked) column) refl
    where
      go : (move : Move) → move_of (row_of asked) column ≡ move → Judged link met index argument
      go Ignored e = Judged.unchanged (by_move Ignored e)
      go Silent e = Judged.unchanged (by_move Silent e)
      go Illegal e = Judged.marked (holds _ (bit_22_states (row_of asked) column e)) (by_move Illegal e)
      go (To there) e = Judged.taken there e

  from_still : T (still (move_of (row_of asked) column)) → Unchanged link met index argument
  from_still t = go (move_of (row_of asked) column) refl t
    where
      go : (move : Move) → move_of (row_of asked) column ≡ move → T (still move) → Unchanged link met index argument
      go Ignored e t = by_move Ignored e
      go Silent e t = by_move Silent e
      go Illegal e t = absurd t
      go (To there) e t = absurd t

  pub check_1 : link.state ≡ state.Ina → Unchanged link met index argument
  check_1 e = by_move Ignored (ap (λ s. move_of (row_of asked) (column_of s)) e ∙ inactive (row_of asked))

  from_stopped : stopped (row_of asked) column ≡ true → Unchanged link met index argument
  from_stopped h = from_still (given (stopped (row_of asked) column) (still (move_of (row_of asked) column)) h (stopped_still (row_of asked) column))

  abbrev StoppedHere : Row → Type 0
  StoppedHere row = stopped row column ≡ true

  other_row : (k : ℕ) → Type 0
  other_row k = StoppedHere (row_of (received_of link met k argument))

  pub check_3 : PassedOver link met index argument → Unchanged link met index argument
  unfolding row_of other_row
  check_3 (PassedOver.another_address listed other) =
      let no : eqb (argument / 65536) link.address ≡ false = ne_eqb (argument / 65536) link.address other in
      from_stopped (each other_row (9 ∷ 10 ∷ 13 ∷ 15 ∷ []) (rw no, (rw no, (rw no, (rw no, tt)))) index listed)
  check_3 (PassedOver.set_dsr i) = from_stopped (rw i)
  check_3 (PassedOver.op_cond i out) =
      from_stopped
      (rw i
      (picked StoppedHere (eqb (window argument) 0) (λ t. rw out)
      (λ t. picked StoppedHere (ltb 0 (bit_and (window argument) (window met.ocr))) (λ u. rw out) (λ u. rw out))))
  check_3 (PassedOver.all_send_cid i out) = from_stopped (rw i (picked StoppedHere met.wins (λ t. rw out) (λ t. refl)))
  check_3 (PassedOver.lost i loses) = from_stopped (rw (i, loses))
  check_3 (PassedOver.relative_address i out) = from_stopped (rw (i, out))

  pub deselected : index ≡ 7 → ForAnother link argument → Outside link (Tran ∷ Data ∷ Prg ∷ []) → Unchanged link met index argument
  unfolding row_of
  deselected i other out =
      from_still
      (given (deselecting (row_of asked) column) (still (move_of (row_of asked) column))
      (rw (i, ne_eqb (argument / 65536) link.address other, out)) (deselecting_still (row_of asked) column))

  -- the table's entry where there is no legal move
  by_mark : NoLegalMove link met index argument → move_of (row_of asked) column ≡ no_legal_move column
  by_mark n =
      told moves_numbered (move_of (row_of asked) column) (no_legal_move column)
      (given (moveless (row_of asked) column) (eqb (move_number (move_of (row_of asked) column)) (move_number (no_legal_move column)))
      (rw (n.judged, n.selects, n.stuck)) (moveless_marked (row_of asked) column))

  pub check_4 : NoLegalMove link met index argument
      → (In link (Tran ∷ Data ∷ Rcv ∷ Prg ∷ []) → Marked link met index argument)
      × (Outside link (Tran ∷ Data ∷ Rcv ∷ Prg ∷ []) → Unchanged link met index argument)
  check_4 n = (
    λ h. by_move Illegal (by_mark n ∙ ap (λ (t : Bool). pick t Illegal Ignored) h),
    λ h. by_move Ignored (by_mark n ∙ ap (λ (t : Bool). pick t Illegal Ignored) h),
  )
