-- What follows from how a card takes a command, in MMC mode and in SPI.
--   mmc_heard      in MMC mode a command is heard as document 01 has it, but for a CMD0 with the select line low
--   line_unread    so the line is read for CMD0 alone
--   spi_high       in SPI a command with the line high is not heard
--   stays_in_spi   no command leads out of SPI
--   in_spi_lem         a card in SPI takes a command as SPI has it, or does not hear it
--   enters         a card that is not in SPI is so after a command exactly if that was CMD0 with its line low, and it is not Inactive
--   reset, reset_inactive   CMD0 with the line low, wherever it is not Inactive: as after power-on but for the lock flag, in SPI, checking off, answer 01
--   one_act        where SPI and MMC mode both lead a command to a state, both leave the same link, but for its error bits, and the same change
--   damage_unchanged, damage_keeps_mode, damage_errors   a frame refused 3 changes nothing in what is lent, no mode, and of the link its error bits alone
--   damage_answered, damage_unanswered   a frame refused 3 is answered, by R1 with bit 23, exactly if the card is in SPI, selected and not Inactive
-- Assumes nothing.
use mathlib.Core.Path.{◌≡◌, refl, sym, ap, ap₂, ◌∙◌, subst}
use mathlib.Core.Bool.{Bool, true, false, not, ◌&&◌, ◌||◌}
use Prim.Native.Nat.{ℕ}
use borrow.Author.Tests.{eqb-true}
use lib.Dec.{eqb}
use Rattle.base.proofs.Cases.{picked, opposite}
use Rattle.base.specs.Choice.{pick}
use Rattle.card_record.specs.Power.{fresh_link}
use Rattle.card_record.specs.Record.{with_errors}
use Rattle.card_record.specs.declared.Link.{Link}
use Rattle.card_record.specs.declared.Mode.{Mode}
use Rattle.card_record.specs.declared.Sent.TheVariants.{Nothing, SpiR1}
use Rattle.command.specs.Answers.{answered}
use Rattle.command.specs.Command.{received_of, damaged_link, taken_of, moved_by, command_of}
use Rattle.command.specs.Obey.{acted_of}
use Rattle.command.specs.declared.Change.TheVariants.{Nothing as Unchanged}
use Rattle.command.specs.declared.Met.{Met}
use Rattle.moves.specs.Moves.{move_of as move_in_mmc}
use Rattle.moves.specs.Rows.{row_of as row_in_mmc}
use Rattle.moves.specs.declared.Move.{Move}
use Rattle.moves.specs.declared.Received.{Received}
use Rattle.moves.specs.declared.Move.TheVariants.{Ignored, Silent, Illegal, To}
use Rattle.spi_answers.specs.Answers.{r1_of, cleared_r1}
use Rattle.spi_moves.specs.Moves.{row_of, move_of}
use Rattle.states.specs.States.{column_of, column_number}
use Rattle.states.specs.declared.Column.{Column}
use Rattle.states.specs.declared.Column.TheVariants.{Idle, Ready, Ident, Stby, Tran, Data, Rcv, Prg, Dis, Ina}
use Rattle.status.specs.ErrorBits.{error_bit}
use Rattle.status.specs.Status.{no_errors}
use Rattle.spi.specs.Answers.{answered_in, faulted}
use Rattle.spi.specs.Hearing.{unheard, heard_in_mmc, mode_after, taken_in, moved_in, spi_heard, as_spi, heard_of, damaged_of}
use Rattle.spi.specs.declared.Heard.{Heard}

module _ (mode : Mode) (link : Link) (met : Met) (index argument : ℕ) where
  -- a command at this card, with its line low or high
  abbrev heard : Bool → Heard
  heard selected = heard_of mode selected link met index argument

  pub mmc_heard : (selected : Bool) → mode.spi ≡ false → as_spi mode selected index ≡ false
      → heard selected ≡ heard_in_mmc mode (command_of link met index argument)
  unfolding heard_of
  mmc_heard selected here e =
      ap₂ (λ (s h : Bool).
      pick s (spi_heard mode link met index argument) (pick h (unheard mode link) (heard_in_mmc mode (command_of link met index argument)))) e here

  pub line_unread : mode.spi ≡ false → eqb index 0 ≡ false → heard true ≡ heard false
  line_unread here e =
      let low : as_spi mode true index ≡ false = ap₂ (λ (s i : Bool). s || i) here e in
      mmc_heard true here low ∙ sym (mmc_heard false here refl)

  pub spi_high : mode.spi ≡ true → heard false ≡ unheard mode link
  unfolding heard_of
  spi_high here = ap (λ (h : Bool). pick h (unheard mode link) (heard_in_mmc mode (command_of link met index argument))) here

  -- ---- in SPI and out of it
  mode_stays : mode.spi ≡ true → (mode_after mode index argument).spi ≡ true
  mode_stays here =
      picked (λ (m : Mode). m.spi ≡ true) (eqb index 0) (λ t. refl) (λ t. picked (λ (m : Mode). m.spi ≡ true) (eqb index 59) (λ u. here) (λ u. here))

  moved_stays : mode.spi ≡ true → (move : Move) → (moved_in mode link met index argument move).mode.spi ≡ true
  unfolding faulted answered_in taken_in
  moved_stays here Ignored = here
  moved_stays here Silent = here
  moved_stays here Illegal = here
  moved_stays here (To column) = mode_stays here

  -- a property of what SPI makes of a command, and of one that is not heard, is one of what a card in SPI makes of it
  pub in_spi_lem : (P : Heard → Type 0) (selected : Bool) → mode.spi ≡ true → P (spi_heard mode link met index argument) → P (unheard mode link) → P (heard selected)
  unfolding heard_of
  in_spi_lem P true here low high = subst (λ (h : Bool). P (pick (h || eqb index 0) (spi_heard mode link met index argument)
      (pick h (unheard mode link) (heard_in_mmc mode (command_of link met index argument))))) (sym here) low
  in_spi_lem P false here low high = subst P (sym (spi_high here)) high

  pub stays_in_spi : (selected : Bool) → mode.spi ≡ true → (heard selected).mode.spi ≡ true
  unfolding spi_heard
  stays_in_spi selected here = in_spi_lem (λ (h : Heard). h.mode.spi ≡ true) selected here (moved_stays here (move_of (row_of index) (column_of link.state))) here

  -- ---- one act
  -- a link but for its error bits, which are an answer's to clear
  abbrev pub unreported : Link → Link
  unreported l = with_errors l no_errors

  pub spi_acts : (column : Column) → move_of (row_of index) (column_of link.state) ≡ To column
      → (unreported (spi_heard mode link met index argument).link ≡ unreported (acted_of link met index argument column).link)
      × ((spi_heard mode link met index argument).change ≡ (acted_of link met index argument column).change)
  unfolding spi_heard taken_in answered_in
  spi_acts column e =
      subst (λ (m : Move). (unreported (moved_in mode link met index argument m).link ≡ unreported (acted_of link met index argument column).link)
      × ((moved_in mode link met index argument m).change ≡ (acted_of link met index argument column).change)) (sym e) (refl, refl)

  abbrev received : Received
  received = received_of link met index argument

  pub mmc_acts : (column : Column) → move_in_mmc (row_in_mmc received) (column_of link.state) ≡ To column
      → (unreported (command_of link met index argument).link ≡ unreported (acted_of link met index argument column).link)
      × ((command_of link met index argument).change ≡ (acted_of link met index argument column).change)
  unfolding command_of taken_of answered
  mmc_acts column e =
      subst (λ (m : Move). (unreported (moved_by link met received (row_in_mmc received) m).link ≡ unreported (acted_of link met index argument column).link)
      × ((moved_by link met received (row_in_mmc received) m).change ≡ (acted_of link met index argument column).change)) (sym e) (refl, refl)

  pub one_act : (column : Column) → move_of (row_of index) (column_of link.state) ≡ To column
      → move_in_mmc (row_in_mmc received) (column_of link.state) ≡ To column
      → (unreported (spi_heard mode link met index argument).link ≡ unreported (command_of link met index argument).link)
      × ((spi_heard mode link met index argument).change ≡ (command_of link met index argument).change)
  one_act column s m =
      let a = spi_acts column s in
      let b = mmc_acts column m in
      (a.0 ∙ sym b.0, a.1 ∙ sym b.1)

-- ---- CMD0
-- "Inactive: silent, unchanged" comes before all
abbrev pub is_inactive : Link → Bool
is_inactive link = eqb (column_number (column_of link.state)) 9

zero_move : (column : Column) → move_of (row_of 0) column ≡ pick (eqb (column_number column) 9) Ignored (To Idle)
unfolding move_of row_of
zero_move Idle = refl
zero_move Ready = refl
zero_move Ident = refl
zero_move Stby = refl
zero_move Tran = refl
zero_move Data = refl
zero_move Rcv = refl
zero_move Prg = refl
zero_move Dis = refl
zero_move Ina = refl

-- what CMD0 leaves, with the line low: as after power-on, in SPI, with checking off, and R1 with the idle bit alone
abbrev pub gone : Heard
gone = record { mode = record { spi = true; checks = false }; link = fresh_link; sent = SpiR1 1; change = Unchanged }

or_true : (b : Bool) → (b || true) ≡ true
or_true true = refl
or_true false = refl

module _ (mode : Mode) (link : Link) (met : Met) (argument : ℕ) where
  zero_heard : heard_of mode true link met 0 argument ≡ moved_in mode link met 0 argument (pick (is_inactive link) Ignored (To Idle))
  unfolding heard_of spi_heard
  zero_heard =
      ap (λ (b : Bool). pick b (spi_heard mode link met 0 argument) (pick mode.spi (unheard mode link) (heard_in_mmc mode (command_of link met 0 argument))))
      (or_true mode.spi)
      ∙ ap (moved_in mode link met 0 argument) (zero_move (column_of link.state))

  pub reset : is_inactive link ≡ false → heard_of mode true link met 0 argument ≡ gone
  unfolding taken_in answered_in acted_of fresh_link cleared_r1 r1_of
  reset e = zero_heard ∙ ap (λ (b : Bool). moved_in mode link met 0 argument (pick b Ignored (To Idle))) e

  pub reset_inactive : is_inactive link ≡ true → heard_of mode true link met 0 argument ≡ unheard mode link
  reset_inactive e = zero_heard ∙ ap (λ (b : Bool). moved_in mode link met 0 argument (pick b Ignored (To Idle))) e

-- ---- entering
module _ (mode : Mode) (link : Link) (met : Met) (index argument : ℕ) (here : mode.spi ≡ false) where
  abbrev in_spi : Bool → ℕ → Bool
  in_spi selected i = (heard_of mode selected link met i argument).mode.spi

  unentered : (selected : Bool) → as_spi mode selected index ≡ false → in_spi selected index ≡ false
  unentered selected e = ap (λ (h : Heard). h.mode.spi) (mmc_heard mode link met index argument selected here e) ∙ here

  by_state : (inactive : Bool) → is_inactive link ≡ inactive → in_spi true 0 ≡ not inactive
  by_state true e = ap (λ (h : Heard). h.mode.spi) (reset_inactive mode link met argument e) ∙ here
  by_state false e = ap (λ (h : Heard). h.mode.spi) (reset mode link met argument e)

  by_index : (zero : Bool) → eqb index 0 ≡ zero → in_spi true index ≡ (zero && not (is_inactive link))
  by_index true e = ap (in_spi true) (eqb-true index 0 e) ∙ by_state (is_inactive link) refl
  by_index false e = unentered true (ap₂ (λ (s i : Bool). s || i) here e)

  pub enters : (selected : Bool) → in_spi selected index ≡ (selected && (eqb index 0 && not (is_inactive link)))
  enters true = by_index (eqb index 0) refl
  enters false = unentered false refl

-- ---- a frame refused 3
pub damage_unchanged : (mode : Mode) (selected : Bool) (link : Link) → (damaged_of mode selected link).change ≡ Unchanged
unfolding damaged_of faulted answered_in
damage_unchanged mode selected link =
    picked (λ (h : Heard). h.change ≡ Unchanged) mode.spi
    (λ here. picked (λ (h : Heard). h.change ≡ Unchanged) (selected && not (is_inactive link)) (λ low. refl) (λ low. refl)) (λ here. refl)

pub damage_keeps_mode : (mode : Mode) (selected : Bool) (link : Link) → (damaged_of mode selected link).mode ≡ mode
unfolding damaged_of faulted answered_in
damage_keeps_mode mode selected link =
    picked (λ (h : Heard). h.mode ≡ mode) mode.spi
    (λ here. picked (λ (h : Heard). h.mode ≡ mode) (selected && not (is_inactive link)) (λ low. refl) (λ low. refl)) (λ here. refl)

pub damage_errors : (mode : Mode) (selected : Bool) (link : Link) → (damaged_of mode selected link).link ≡ with_errors link (damaged_of mode selected link).link.errors
unfolding damaged_of faulted answered_in damaged_link
damage_errors mode selected link =
    picked (λ (h : Heard). h.link ≡ with_errors link h.link.errors) mode.spi
    (λ here. picked (λ (h : Heard). h.link ≡ with_errors link h.link.errors) (selected && not (is_inactive link)) (λ low. refl) (λ low. refl))
    (λ here. picked (λ (l : Link). l ≡ with_errors link l.errors) (is_inactive link) (λ inactive. refl) (λ active. refl))

pub damage_answered : (mode : Mode) (link : Link) → mode.spi ≡ true → is_inactive link ≡ false → damaged_of mode true link ≡ faulted mode link (error_bit 23)
unfolding damaged_of
damage_answered mode link here e =
    ap₂ (λ (h i : Bool). pick h (pick (not i) (faulted mode link (error_bit 23)) (unheard mode link)) (unheard mode (damaged_link link))) here e

pub damage_unanswered : (mode : Mode) (selected : Bool) (link : Link) → (mode.spi && (selected && not (is_inactive link))) ≡ false
    → (damaged_of mode selected link).sent ≡ Nothing
unfolding damaged_of
damage_unanswered mode selected link e =
    picked (λ (h : Heard). h.sent ≡ Nothing) mode.spi
    (λ (here : mode.spi ≡ true). picked (λ (h : Heard). h.sent ≡ Nothing) (selected && not (is_inactive link))
    (λ (low : (selected && not (is_inactive link)) ≡ true). opposite (mode.spi && (selected && not (is_inactive link))) (ap₂ (λ (a b : Bool). a && b) here low) e) (λ low. refl))
    (λ here. refl)
