-- What is decided, done and answered is the command as Hearing has it.
--   mmc_replied, spi_replied   an answer of either mode, by its name in the list of both
--   spi_mode_lem                   R2 and R3 of SPI answer commands that change no mode
--   heard_decided              a command at a card, from what was decided
-- Assumes nothing.
use mathlib.Core.Path.{◌≡◌, refl, sym, ap, ap₂, ◌∙◌, subst}
use mathlib.Core.Bool.{Bool, true, false}
use Prim.Native.Nat.{ℕ}
use borrow.Author.Tests.{eqb-true}
use lib.Dec.{eqb}
use Rattle.base.specs.Choice.{pick}
use Rattle.card_record.specs.declared.Link.{Link}
use Rattle.card_record.specs.declared.Mode.{Mode}
use Rattle.command.specs.Answers.{response_of as response_in_mmc, answered}
use Rattle.command.specs.Command.{received_of, taken_of, moved_by, decided_of, command_of}
use Rattle.command.specs.Obey.{acted_of}
use Rattle.command.specs.declared.Acted.{Acted}
use Rattle.command.specs.declared.Met.{Met}
use Rattle.command.specs.declared.Response.{Response as MmcResponse}
use Rattle.command.specs.declared.Response.TheVariants.{Nothing as NoneInMmc, R1 as R1InMmc, R2 as R2InMmc, R3 as R3InMmc}
use Rattle.moves.specs.declared.Move.{Move}
use Rattle.moves.specs.declared.Move.TheVariants.{Ignored, Silent, Illegal, To}
use Rattle.moves.specs.declared.Row.{Row}
use Rattle.spi_moves.specs.Moves.{row_of, move_of}
use Rattle.states.specs.States.{column_of}
use Rattle.status.specs.ErrorBits.{error_bit}
use Rattle.status.specs.Status.{with_bit}
use Rattle.spi.specs.Answering.{in_mmc, in_spi, mode_by, decision_of, replied_by, taken_by, untaken}
use Rattle.spi.specs.Answers.{response_of, answered_in, faulted}
use Rattle.spi.specs.Hearing.{unheard, heard_in_mmc, mode_after, taken_in, moved_in, spi_heard, as_spi, heard_of}
use Rattle.spi.specs.declared.Answering.{Answering}
use Rattle.spi.specs.declared.Answering.TheVariants.{Nothing}
use Rattle.spi.specs.declared.Decision.{Decision}
use Rattle.spi.specs.declared.Heard.{Heard}
use Rattle.spi.specs.declared.Response.{Response}
use Rattle.spi.specs.declared.Response.TheVariants.{R1, R2, R3}

module _ (mode : Mode) (link : Link) (met : Met) (index argument : ℕ) where
  mmc_replied : (acted : Acted) (response : MmcResponse)
      → heard_in_mmc mode (answered acted response index met.locked (column_of link.state))
      ≡ replied_by mode link met.locked index argument (in_mmc response) acted
  unfolding answered
  mmc_replied acted NoneInMmc = refl
  mmc_replied acted R1InMmc = refl
  mmc_replied acted R2InMmc = refl
  mmc_replied acted R3InMmc = refl

  spi_replied : (acted : Acted) (response : Response)
      → answered_in (mode_by (in_spi response) mode index argument) acted response met.locked
      ≡ replied_by mode link met.locked index argument (in_spi response) acted
  unfolding answered_in
  spi_replied acted R1 = refl
  spi_replied acted R2 = refl
  spi_replied acted R3 = refl

  abbrev AtIndex : ℕ → Type 0
  AtIndex i = mode_by (in_spi (response_of i)) mode i argument ≡ mode_after mode i argument

  by_ocr : (is : Bool) → eqb index 13 ≡ false → eqb index 58 ≡ is → AtIndex index
  by_ocr true other e = subst AtIndex (sym (eqb-true index 58 e)) refl
  by_ocr false other e = ap₂ (λ (a b : Bool). mode_by (in_spi (pick a R2 (pick b R3 R1))) mode index argument) other e

  by_status : (is : Bool) → eqb index 13 ≡ is → AtIndex index
  by_status true e = subst AtIndex (sym (eqb-true index 13 e)) refl
  by_status false e = by_ocr (eqb index 58) e refl

  spi_mode_lem : AtIndex index
  spi_mode_lem = by_status (eqb index 13) refl

  -- a command by its move, from what was decided: the second column of `hear`
  abbrev pub moved_as : Bool → Answering → Move → Heard
  moved_as spi answering Ignored = unheard mode link
  moved_as spi answering Silent = unheard mode link
  moved_as spi answering Illegal = untaken mode link (with_bit link.errors (error_bit 22)) spi
  moved_as spi answering (To column) = taken_by mode link met index argument answering column

  spi_moved : (move : Move) → moved_in mode link met index argument move ≡ moved_as true (in_spi (response_of index)) move
  unfolding faulted untaken taken_in
  spi_moved Ignored = refl
  spi_moved Silent = refl
  spi_moved Illegal = refl
  spi_moved (To column) =
      ap (λ (m : Mode). answered_in m (acted_of link met index argument column) (response_of index) met.locked) (sym spi_mode_lem)
      ∙ spi_replied (acted_of link met index argument column) (response_of index)

  mmc_moved : (row : Row) (move : Move)
      → heard_in_mmc mode (moved_by link met (received_of link met index argument) row move) ≡ moved_as false (in_mmc (response_in_mmc row)) move
  unfolding untaken taken_of
  mmc_moved row Ignored = refl
  mmc_moved row Silent = refl
  mmc_moved row Illegal = refl
  mmc_moved row (To column) = mmc_replied (acted_of link met index argument column) (response_in_mmc row)

  -- what is decided, by what the two tests found
  abbrev pub decision : Bool → Bool → Decision
  decision spi here =
      pick spi (record { answering = in_spi (response_of index); next = move_of (row_of index) (column_of link.state) })
      (pick here (record { answering = Nothing; next = Ignored })
      (record { answering = in_mmc (response_in_mmc (decided_of link met index argument).row); next = (decided_of link met index argument).next }))

  pub way : (selected : Bool) {spi here : Bool} → as_spi mode selected index ≡ spi → mode.spi ≡ here
      → decision spi here ≡ decision_of mode selected link met index argument
  way selected es eh = sym (ap₂ decision es eh)

  decides : (spi here : Bool) → moved_as spi (decision spi here).answering (decision spi here).next
      ≡ pick spi (spi_heard mode link met index argument) (pick here (unheard mode link) (heard_in_mmc mode (command_of link met index argument)))
  unfolding spi_heard command_of
  decides true here = sym (spi_moved (move_of (row_of index) (column_of link.state)))
  decides false true = refl
  decides false false = sym (mmc_moved (decided_of link met index argument).row (decided_of link met index argument).next)

  pub heard_decided : (selected : Bool)
      → moved_as (as_spi mode selected index) (decision_of mode selected link met index argument).answering (decision_of mode selected link met index argument).next
      ≡ heard_of mode selected link met index argument
  unfolding heard_of
  heard_decided selected = decides (as_spi mode selected index) mode.spi
