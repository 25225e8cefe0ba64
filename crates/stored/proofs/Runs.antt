-- What the commands of a run that reads do to a card, in MMC mode with the select line high and in SPI with it low.
--   Leaves            the state, the block length and the mode that a command leaves, and that nothing changes in what is lent
--   leaves_16            CMD16 of 512 in tran, of a card that is locked or is not
--   leaves_12, leaves_17    of one that is not: CMD12 in rcv (in MMC mode), CMD17 in tran at an aligned address in range
-- Assumes nothing.
use mathlib.Core.Path.{◌≡◌, refl, sym, ap, ◌∙◌, subst}
use mathlib.Core.Bool.{Bool, true, false}
use Prim.Native.Nat.{ℕ, ◌+◌, ◌%◌, ◌≤◌}
use native.Mathlib.Omega.{arith}
use borrow.Author.Tests.{le-leb, le-ltb}
use Rattle.command.specs.Answers.{answered}
use Rattle.command.specs.Arguments.{argument_fault}
use Rattle.command.specs.Command.{met_by, taken_of, command_of}
use Rattle.command.specs.Obey.{leaving, tagging_of, judged_of, awaited_by, obeyed, change_of, after_checks, acted_of}
use Rattle.command.specs.declared.Change.TheVariants.{Nothing}
use Rattle.command.specs.declared.Met.{Met}
use Rattle.moves.specs.Moves.{move_of}
use Rattle.moves.specs.Rows.{transfer_row, row_of}
use Rattle.lock.specs.Passwords.{flagged}
use Rattle.card_record.specs.Record.{size_of, with_state, with_lock}
use Rattle.card_record.specs.declared.Card.{Card}
use Rattle.card_record.specs.declared.Mode.{Mode}
use Rattle.spi.specs.Answers.{answered_in}
use Rattle.spi.specs.Hearing.{taken_in, spi_heard, heard_of}
use Rattle.spi.specs.declared.Heard.{Heard}
use Rattle.spi_moves.specs.Moves.{row_of as row_in_spi, move_of as move_in_spi}
use Rattle.states.specs.declared.Incoming.{Incoming}
use Rattle.states.specs.declared.Outgoing.TheVariants.{One}
use Rattle.states.specs.declared.State.{State}
use Rattle.states.specs.declared.State.TheVariants.{Tran, Data, Rcv, Prg}
use Rattle.tags.specs.Tagging.{no_tags}
use Rattle.stored.proofs.InTran.{length_heard}

pub record Leaves (spi : Bool) (state : State) (length : ℕ) (heard : Heard) : Type 0 where
  pub mode_is : heard.mode.spi ≡ spi
  pub state_is : heard.link.state ≡ state
  pub length_is : heard.link.length ≡ length
  pub unchanged : heard.change ≡ Nothing

-- a command as a card hears it, its select line being low (`spi`) or high
abbrev pub heard_at : Bool → Card → ℕ → ℕ → Heard
heard_at spi card index argument = heard_of card.mode spi card.link (met_by card true) index argument

-- what a command meets at an unlocked card, and such a card's mode
abbrev open_met : Card → Bool → Met
open_met card locked = met_by (with_lock card (flagged card.lock locked)) true

abbrev mode_of : Card → Bool → Mode
mode_of card spi = record { spi = spi; checks = card.mode.checks }

-- the same where the mode is known, the card is unlocked, and the state is this one
abbrev openly : Bool → Card → State → ℕ → ℕ → Heard
openly spi card s index argument = heard_of (mode_of card spi) spi (with_state card.link s) (open_met card false) index argument

at_open : (P : Heard → Type 0) (spi : Bool) (card : Card) (index argument : ℕ) (s : State) → card.mode.spi ≡ spi → card.lock.locked ≡ false
    → card.link.state ≡ s → P (openly spi card s index argument) → P (heard_at spi card index argument)
at_open P spi card index argument s m l e h =
    subst (λ (b : Bool). P (heard_of (mode_of card b) spi card.link (met_by card true) index argument)) (sym m)
    (subst (λ (b : Bool). P (heard_of (mode_of card spi) spi card.link (open_met card b) index argument)) (sym l)
    (subst (λ (x : State). P (heard_of (mode_of card spi) spi (with_state card.link x) (open_met card false) index argument)) (sym e) h))

pub leaves_16 : (card : Card) (spi : Bool) → card.mode.spi ≡ spi → card.link.state ≡ Tran → Leaves spi Tran 512 (heard_at spi card 16 512)
leaves_16 card spi mode on =
    let heard = length_heard spi card true spi (record { mode_is = mode; tran = on; low = λ here. sym mode ∙ here }) 512 (omega arith) (omega arith) in
    record {
      mode_is = ap (λ (h : Heard). h.mode.spi) heard ∙ mode;
      state_is = ap (λ (h : Heard). h.link.state) heard;
      length_is = ap (λ (h : Heard). h.link.length) heard;
      unchanged = ap (λ (h : Heard). h.change) heard;
    }

module _ (card : Card) (unlocked : card.lock.locked ≡ false) where
  stop : (incoming : Incoming) → Leaves false Prg card.link.length (openly false card (Rcv incoming) 12 0)
  unfolding heard_of command_of row_of move_of taken_of acted_of judged_of tagging_of argument_fault after_checks answered obeyed awaited_by change_of
  stop incoming = record { mode_is = refl; state_is = refl; length_is = refl; unchanged = refl }

  pub leaves_12 : (incoming : Incoming) → card.mode.spi ≡ false → card.link.state ≡ Rcv incoming
      → Leaves false Prg card.link.length (heard_at false card 12 0)
  leaves_12 incoming m e =
      at_open (Leaves false Prg card.link.length) false card 12 0 (Rcv incoming) m unlocked e (stop incoming)

  module _ (spi : Bool) (mode : card.mode.spi ≡ spi) where
    module _ (at : ℕ) (in_range : at + 512 ≤ size_of card.registers.groups) (aligned : at % 512 ≡ 0) where
      no_fault : card.link.length ≡ 512 → judged_of (with_state card.link Tran) card.registers.groups false 17 at ≡ leaving no_tags
      unfolding judged_of tagging_of argument_fault
      no_fault n = rw n (simp (le-leb (at + 512) (size_of card.registers.groups) in_range, le-ltb 2048 (at % 2048 + 512) (omega arith)))

      read : (b : Bool) → card.link.length ≡ 512 → Leaves b (Data (One at)) 512 (openly b card Tran 17 at)
      unfolding heard_of spi_heard row_in_spi move_in_spi taken_in answered_in command_of row_of transfer_row move_of taken_of acted_of after_checks answered obeyed awaited_by change_of
      read true n = rw (no_fault n) (record { mode_is = refl; state_is = refl; length_is = n; unchanged = refl })
      read false n = rw (no_fault n) (record { mode_is = refl; state_is = refl; length_is = n; unchanged = refl })

      pub leaves_17 : card.link.state ≡ Tran → card.link.length ≡ 512 → Leaves spi (Data (One at)) 512 (heard_at spi card 17 at)
      leaves_17 e n = at_open (Leaves spi (Data (One at)) 512) spi card 17 at Tran mode unlocked e (read spi n)
