-- Every command of MMC mode keeps a link made: what a taken one does (`acted_made`), with the two parts that are the mode's own.
--   leading      its table of moves is `Leading`
--   reported     the error bits that its answer leaves can wait: what has an error is answered by R1, which clears them
--   link_made    after a command of any index and argument, whatever the OCR, whether the card would win the line or not
-- Assumes nothing.
use mathlib.Core.Path.{◌≡◌, refl}
use mathlib.Core.Bool.{true, false}
use mathlib.Core.List.{[], ◌∷◌}
use Prim.Native.Nat.{ℕ}
use lib.Dec.{eqb}
use Rattle.base.proofs.Cases.{picked}
use Rattle.command.proofs.Faults.{fault_by_r1}
use Rattle.command.specs.Answers.{response_of, left_of, answered}
use Rattle.command.specs.Command.{received_of, taken_of, moved_by, command_of}
use Rattle.command.specs.Obey.{judged_of, reset_told, after_checks, acted_of}
use Rattle.command.specs.declared.Acted.{Acted}
use Rattle.command.specs.declared.Commanded.{Commanded}
use Rattle.command.specs.declared.Met.{Met}
use Rattle.moves.proofs.Among.{each}
use Rattle.moves.proofs.Laws.{listed}
use Rattle.moves.specs.Indices.{among}
use Rattle.moves.specs.Moves.{move_of}
use Rattle.moves.specs.Rows.{own, transfer_row, row_of}
use Rattle.moves.specs.declared.Received.{Received}
use Rattle.moves.specs.declared.Move.{Move}
use Rattle.moves.specs.declared.Move.TheVariants.{Ignored, Silent, Illegal, To}
use Rattle.moves.specs.declared.Row.{Row}
use Rattle.moves.specs.declared.Row.TheVariants.{SendStatus, SetOrTag, OtherAddress}
use Rattle.card_record.specs.declared.Link.{Link}
use Rattle.states.specs.States.{column_of}
use Rattle.states.specs.declared.Column.{Column}
use Rattle.states.specs.declared.Column.TheVariants.{Idle, Ready, Ident, Stby, Tran, Data, Rcv, Prg, Dis, Ina}
use Rattle.status.specs.ErrorBits.{error_bit}
use Rattle.status.specs.Status.{no_errors, with_bit}
use Rattle.tags.specs.declared.Tagging.{Tagging}
use Rattle.made.proofs.Acted.{acted_made}
use Rattle.made.proofs.Links.{errors_made, told_pending, left_pending}
use Rattle.made.proofs.Pending.{none_pending, set_pending}
use Rattle.made.specs.Leading.{Leading}
use Rattle.made.specs.Made.{Pending, MadeLink}
use Rattle.std.specs.Prelude.{Option, Some, None}
use Rattle.status.specs.declared.ErrorBit.{ErrorBit}

-- ---- the table
status_stays : (from there : Column) → move_of SendStatus from ≡ To there → there ≡ from
unfolding move_of
status_stays Idle there e = cc
status_stays Ready there e = cc
status_stays Ident there e = cc
status_stays Stby there e = cc
status_stays Tran there e = cc
status_stays Data there e = cc
status_stays Rcv there e = cc
status_stays Prg there e = cc
status_stays Dis there e = cc
status_stays Ina there e = cc

tran_stays : (from there : Column) → move_of SetOrTag from ≡ To there → there ≡ Tran
unfolding move_of
tran_stays Idle there e = cc
tran_stays Ready there e = cc
tran_stays Ident there e = cc
tran_stays Stby there e = cc
tran_stays Tran there e = cc
tran_stays Data there e = cc
tran_stays Rcv there e = cc
tran_stays Prg there e = cc
tran_stays Dis there e = cc
tran_stays Ina there e = cc

module _ (link : Link) (met : Met) (index argument : ℕ) where
  abbrev asked : Received
  asked = received_of link met index argument

  abbrev on : Column
  on = column_of link.state

  -- the row of a command of another index
  abbrev row_at : ℕ → Row
  row_at k = row_of (received_of link met k argument)

  -- where a row leads from a state, if it does
  abbrev To13 : Column → Row → Type 0
  To13 there row = move_of row on ≡ To there → there ≡ on

  status_row : (there : Column) → To13 there (row_at 13)
  unfolding row_of
  status_row there =
      picked (To13 there) (own (received_of link met 13 argument)) (λ t. status_stays on there) (λ t h. absurd (listed OtherAddress on there h))

  tran_row : among index (16 ∷ 32 ∷ 33 ∷ 35 ∷ 36 ∷ []) ≡ true → row_at index ≡ SetOrTag
  unfolding row_of transfer_row
  tran_row = each (λ (k : ℕ). row_at k ≡ SetOrTag) (16 ∷ 32 ∷ 33 ∷ 35 ∷ 36 ∷ []) (refl, (refl, (refl, (refl, (refl, tt))))) index

  leading : (there : Column) → move_of (row_at index) on ≡ To there → Leading index on there
  leading there h =
      record {
        status = λ i. status_row there (rw i at h);
        tran = λ t. tran_stays on there (rw (tran_row t) at h);
      }

  -- ---- the answer
  module _ (made : MadeLink false met.groups met.locked link) where
    abbrev judged : Tagging
    judged = judged_of link met.groups met.locked index argument

    abbrev Reported : Acted → Type 0
    Reported acted = Pending false (left_of (response_of (row_at index)) acted.errors)

    checked : (column : Column) → move_of (row_at index) on ≡ To column → (error : Option ErrorBit) → judged.error ≡ error
        → Reported (after_checks link index argument column judged.tags error)
    unfolding after_checks
    checked column taken None e = left_pending (response_of (row_at index)) (reset_told link index) (told_pending link index made.errors)
    checked column taken (Some bit) e = rw (fault_by_r1 link met index argument bit e column taken) (none_pending false)

    reported : (column : Column) → move_of (row_at index) on ≡ To column → Reported (acted_of link met index argument column)
    unfolding acted_of
    reported column taken =
        picked Reported (eqb index 0) (λ t. left_pending (response_of (row_at index)) no_errors (none_pending false))
        (λ t. checked column taken judged.error refl)

    -- ---- the moves
    abbrev Kept : Commanded → Type 0
    Kept given = MadeLink false met.groups met.locked given.link

    taken_made : (column : Column) → move_of (row_at index) on ≡ To column → Kept (taken_of link met asked (row_at index) column)
    unfolding taken_of answered
    taken_made column taken =
        errors_made false met.groups met.locked (acted_of link met index argument column).link _
        (acted_made false link met index argument column made (leading column taken)) (reported column taken)

    by_move : (move : Move) → move_of (row_at index) on ≡ move → Kept (moved_by link met asked (row_at index) move)
    by_move Ignored e = made
    by_move Silent e = made
    by_move Illegal e =
        errors_made false met.groups met.locked link (with_bit link.errors (error_bit 22)) made
        (set_pending false link.errors (error_bit 22) refl made.errors)
    by_move (To column) e = taken_made column e

pub link_made : (link : Link) (met : Met) (index argument : ℕ) → MadeLink false met.groups met.locked link
    → MadeLink false met.groups met.locked (command_of link met index argument).link
unfolding command_of
link_made link met index argument made =
    by_move link met index argument made (move_of (row_of (received_of link met index argument)) (column_of link.state)) refl
