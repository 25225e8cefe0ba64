-- A command at one card of a bus: what holds of it in MMC mode holds on a bus too, where a card in SPI ignores it.
--   carried_out_lem   what was decided, carried out, is the command
--   taken_alone   one that is left alone is as it was and sends nothing
--   taken_sends   what is sent has an index that an R1 can have
--   taken_any     but for CMD2, who wins is not asked
--   taken_lost    a loser of CMD2 is as it was and sends nothing
--   taken_won     a Ready card that wins CMD2 sends its CID
-- Assumes nothing.
use mathlib.Core.Path.{◌≡◌, refl, ap, ◌∙◌}
use mathlib.Core.Bool.{Bool, true, false, not}
use Prim.Native.Nat.{ℕ, ◌≤◌}
use borrow.Author.Tests.{not-true}
use lib.Dec.{eqb}
use Rattle.base.proofs.Cases.{cases, picked, first, last}
use Rattle.base.specs.Choice.{pick}
use Rattle.card_record.specs.Sending.{Sendable}
use Rattle.card_record.specs.declared.Card.{Card}
use Rattle.card_record.specs.declared.Sent.TheVariants.{Cid}
use Rattle.command.proofs.Alone.{left_alone}
use Rattle.command.proofs.Sends.{sendable}
use Rattle.command.proofs.Verdict.{any_wins, lost_unchanged}
use Rattle.command.specs.Answers.{silent}
use Rattle.command.specs.Command.{met_by, received_of, decided_of, moved_by, command_of, leaves_alone}
use Rattle.command.specs.declared.Commanded.{Commanded}
use Rattle.command.specs.declared.Decided.{Decided}
use Rattle.moves.specs.declared.Move.TheVariants.{Ignored}
use Rattle.moves.specs.declared.Row.TheVariants.{Unsupported}
use Rattle.states.specs.States.{column_of, column_number}
use Rattle.bus.proofs.InSpi.{spi_unheard, mmc_heard}
use Rattle.bus.proofs.Sending.{cid_won}
use Rattle.bus.specs.Bus.{is_ready, command_on}
use Rattle.bus.specs.Hearing.{decided_at}

module _ (card : Card) (wins : Bool) (index argument : ℕ) where
  abbrev carried_out : Decided → Commanded
  carried_out decided =
      moved_by card.link (met_by card wins) (received_of card.link (met_by card wins) index argument) decided.row decided.next

  abbrev ignored : Decided
  ignored = record { row = Unsupported; next = Ignored }

  abbrev decided : Decided
  decided = decided_of card.link (met_by card wins) index argument

  by_mode : (spi : Bool) → carried_out (pick spi ignored decided) ≡ pick spi (silent card.link) (carried_out decided)
  by_mode true = refl
  by_mode false = refl

  pub carried_out_lem : carried_out (decided_at card wins index argument) ≡ command_on card wins index argument
  unfolding command_on command_of
  carried_out_lem = by_mode card.mode.spi

  pub taken_alone : leaves_alone (decided_at card wins index argument) ≡ true → command_on card wins index argument ≡ silent card.link
  taken_alone e =
      cases card.mode.spi
      (λ (t : card.mode.spi ≡ true). spi_unheard card t wins index argument)
      (λ (t : card.mode.spi ≡ false). mmc_heard card wins index argument t ∙ left_alone card.link (met_by card wins) index argument (rw t at e))

  pub taken_sends : index ≤ 63 → Sendable (command_on card wins index argument).sent
  unfolding command_on
  taken_sends small =
      picked (λ (given : Commanded). Sendable given.sent) card.mode.spi
      (λ t. tt)
      (λ t. sendable card.link (met_by card wins) index argument small)

module _ (card : Card) where
  pub taken_any : (v w : Bool) (index argument : ℕ) → eqb index 2 ≡ false → command_on card v index argument ≡ command_on card w index argument
  unfolding command_on
  taken_any v w index argument t =
      ap (λ (given : Commanded). pick card.mode.spi (silent card.link) given) (any_wins card v w index argument t)

  pub taken_lost : (argument : ℕ) → command_on card false 2 argument ≡ silent card.link
  taken_lost argument =
      cases card.mode.spi
      (λ (t : card.mode.spi ≡ true). spi_unheard card t false 2 argument)
      (λ (t : card.mode.spi ≡ false). mmc_heard card false 2 argument t ∙ lost_unchanged card argument)

  pub taken_won : (argument : ℕ) → is_ready card ≡ true → (command_on card true 2 argument).sent ≡ Cid
  taken_won argument ready =
      let on : Bool = eqb (column_number (column_of card.link.state)) 1 in
      let mmc : card.mode.spi ≡ false = not-true card.mode.spi (first (not card.mode.spi) on ready) in
      ap (λ (given : Commanded). given.sent) (mmc_heard card true 2 argument mmc) ∙ cid_won card argument (last (not card.mode.spi) on ready)
