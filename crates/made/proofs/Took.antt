-- Every way in which a command can go, as far as what is lent is concerned: one list, and each command is on it, whatever the record is. What an
-- answer does to the error bits is no part of it: a second mode that answers in its own way shows `took` of its commands by `acted_took` and
-- `answered_took`, as MMC mode does.
--   Took            stopped on the way; CMD0; obeyed, no error being found, with the block length that the command leaves
--   unfaulted       a command without an error passed the lock, and its argument is right
--   acted_took      what a taken command does is one of these, in any mode
--   answered_took   and so it is with other error bits
--   took            each command of MMC mode is one of these
--   heard_took      and so is each command that a card hears, in either mode
--   took_nothing, heard_nothing    one that sets no group, clears none and erases nothing changes nothing that is lent
-- Assumes nothing.
use mathlib.Core.Path.{◌≡◌, refl}
use mathlib.Core.Bool.{Bool, true, false}
use Prim.Native.Nat.{ℕ}
use borrow.Author.Tests.{eqb-true}
use lib.Dec.{eqb}
use Rattle.base.proofs.Cases.{picked, clash}
use Rattle.base.specs.Choice.{unless}
use Rattle.command.specs.Answers.{answered}
use Rattle.command.specs.Command.{received_of, taken_of, moved_by, command_of}
use Rattle.command.specs.Obey.{passes_lock, tagging_of, judged_of, length_after, obeyed as obeyed_link, change_of, after_checks, acted_of}
use Rattle.command.specs.declared.Acted.{Acted}
use Rattle.command.specs.declared.Change.{Change}
use Rattle.command.specs.declared.Change.TheVariants.{Nothing}
use Rattle.command.specs.declared.Commanded.{Commanded}
use Rattle.command.specs.declared.Met.{Met}
use Rattle.moves.specs.Moves.{move_of}
use Rattle.moves.specs.Rows.{row_of}
use Rattle.moves.specs.declared.Move.{Move}
use Rattle.moves.specs.declared.Move.TheVariants.{Ignored, Silent, Illegal, To}
use Rattle.moves.specs.declared.Row.{Row}
use Rattle.card_record.specs.Power.{fresh_link}
use Rattle.card_record.specs.Record.{size_of, with_errors, with_tags}
use Rattle.card_record.specs.declared.Link.{Link}
use Rattle.card_record.specs.declared.Mode.{Mode}
use Rattle.spi.specs.Answers.{answered_in, faulted}
use Rattle.spi.specs.Hearing.{unheard, taken_in, moved_in, spi_heard, as_spi, heard_of}
use Rattle.spi.specs.declared.Heard.{Heard}
use Rattle.spi_moves.specs.Moves.{row_of as row_in_spi, move_of as move_in_spi}
use Rattle.states.specs.States.{column_of}
use Rattle.states.specs.declared.Column.{Column}
use Rattle.status.specs.ErrorBits.{error_bit}
use Rattle.status.specs.Status.{no_errors}
use Rattle.status.specs.declared.ErrorBit.{ErrorBit}
use Rattle.status.specs.declared.Errors.{Errors}
use Rattle.tags.specs.Tagging.{tag_failed}
use Rattle.tags.specs.declared.Tagging.{Tagging}
use Rattle.tags.specs.declared.Tags.{Tags}
use Rattle.std.specs.Prelude.{Option, Some, None}

module _ (link : Link) (met : Met) (index argument : ℕ) where
  -- the link that a command leaves, and what it changes in what is lent
  pub data Took : Link → Change → Type 0 where
    stopped : (tags : Tags) (errors : Errors) → Took (with_errors (with_tags link tags) errors) Nothing
    reset : (errors : Errors) → index ≡ 0 → Took (with_errors fresh_link errors) Nothing
    obeyed : (next : Link) → next.length ≡ length_after index argument link.length
        → (judged_of link met.groups met.locked index argument).error ≡ None → Took next (change_of index argument)

  -- ---- any mode
  no_error : (t : Bool) (bit : ErrorBit) (rest : Tagging) → (unless t (tag_failed bit) rest).error ≡ None → (t ≡ true) × (rest.error ≡ None)
  no_error true bit rest e = (refl, e)
  no_error false bit rest e = clash cc

  pub unfaulted : (judged_of link met.groups met.locked index argument).error ≡ None
      → (passes_lock met.locked index ≡ true) × ((tagging_of link (size_of met.groups) index argument).error ≡ None)
  unfolding judged_of
  unfaulted = no_error (passes_lock met.locked index) (error_bit 24) (tagging_of link (size_of met.groups) index argument)

  abbrev Acting : Acted → Type 0
  Acting acted = Took acted.link acted.change

  checked : (column : Column) (tags : Tags) (fault : Option ErrorBit) → (judged_of link met.groups met.locked index argument).error ≡ fault
      → Acting (after_checks link index argument column tags fault)
  unfolding after_checks obeyed_link
  checked column tags None e = obeyed _ refl e
  checked column tags (Some bit) e = stopped tags link.errors

  pub acted_took : (column : Column) → Acting (acted_of link met index argument column)
  unfolding acted_of fresh_link
  acted_took column = picked Acting (eqb index 0) (λ t. reset no_errors (eqb-true index 0 t)) (λ t. checked column _ _ refl)

  pub answered_took : {next : Link} {change : Change} (errors : Errors) → Took next change → Took (with_errors next errors) change
  answered_took errors (stopped tags e) = stopped tags errors
  answered_took errors (reset e i) = reset errors i
  answered_took errors (obeyed next l e) = obeyed (with_errors next errors) l e

  -- ---- MMC mode
  abbrev Commands : Commanded → Type 0
  Commands given = Took given.link given.change

  moves : (row : Row) (move : Move) → Commands (moved_by link met (received_of link met index argument) row move)
  unfolding taken_of answered
  moves row Ignored = stopped link.tags link.errors
  moves row Silent = stopped link.tags link.errors
  moves row Illegal = stopped link.tags _
  moves row (To column) = answered_took _ (acted_took column)

  pub took : Commands (command_of link met index argument)
  unfolding command_of
  took =
      let row : Row = row_of (received_of link met index argument) in
      moves row (move_of row (column_of link.state))

  -- ---- SPI, and either mode
  abbrev Hears : Heard → Type 0
  Hears heard = Took heard.link heard.change

  unheard_took : (mode : Mode) → Hears (unheard mode link)
  unheard_took mode = stopped link.tags link.errors

  moved_took : (mode : Mode) (move : Move) → Hears (moved_in mode link met index argument move)
  unfolding faulted answered_in taken_in
  moved_took mode Ignored = unheard_took mode
  moved_took mode Silent = unheard_took mode
  moved_took mode Illegal = stopped link.tags _
  moved_took mode (To column) = answered_took _ (acted_took column)

  pub heard_took : (mode : Mode) (selected : Bool) → Hears (heard_of mode selected link met index argument)
  unfolding heard_of spi_heard
  heard_took mode selected =
      picked Hears (as_spi mode selected index) (λ t. moved_took mode (move_in_spi (row_in_spi index) (column_of link.state)))
      (λ t. picked Hears mode.spi (λ u. unheard_took mode) (λ u. took))

  nothing : change_of index argument ≡ Nothing → {next : Link} {change : Change} → Took next change → change ≡ Nothing
  nothing none (stopped tags errors) = refl
  nothing none (reset errors i) = refl
  nothing none (obeyed next l e) = none

  pub took_nothing : change_of index argument ≡ Nothing → (command_of link met index argument).change ≡ Nothing
  took_nothing none = nothing none took

  pub heard_nothing : change_of index argument ≡ Nothing → (mode : Mode) (selected : Bool) → (heard_of mode selected link met index argument).change ≡ Nothing
  heard_nothing none mode selected = nothing none (heard_took mode selected)
