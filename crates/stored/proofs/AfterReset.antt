-- After a reset no block is written before a CMD16 of 512 was taken, whatever calls come meanwhile, in both modes.
--   reset_leaves   a make that is not refused, power-on and CMD0 leave the link of a reset, whatever the CSD is
--   reset_made     and a made card
--   until_set      from there on, along any calls none of which is a CMD16 of 512 that the card takes, no block can be written
-- Assumes nothing.
use mathlib.Core.Path.{◌≡◌, refl, ap, ◌∙◌, subst}
use mathlib.Core.Bool.{Bool, true, false, not}
use mathlib.Core.List.{List, [], ◌∷◌}
use mathlib.Core.Logic.{inl, inr}
use Prim.Native.Nat.{ℕ, ◌/◌}
use native.Mathlib.Omega.{arith}
use borrow.Author.Tests.{ne_eqb}
use lib.Dec.{eqb}
use lib.ListN.{length}
use Rattle.base.proofs.Cases.{guarded, clash}
use Rattle.card.specs.declared.Call.TheVariants.{Frame, PowerOn}
use Rattle.card_blocks.specs.declared.Stepped.{Stepped}
use Rattle.card_record.specs.Making.{locked_by, password_made, made_of}
use Rattle.card_record.specs.Power.{fresh_link, powered_on}
use Rattle.card_record.specs.Record.{size_of, length_read}
use Rattle.card_record.specs.declared.Card.{Card}
use Rattle.card_record.specs.declared.Link.{Link}
use Rattle.card_record.specs.declared.Made.{Made as MadeOf}
use Rattle.card_record.specs.declared.Registers.{Registers}
use Rattle.command.specs.Arguments.{write_fault, argument_fault}
use Rattle.command.specs.Command.{met_by, command_of}
use Rattle.command.specs.Obey.{tagging_of, judged_of, change_of}
use Rattle.demands.proofs.AnsweredInSpi.{faulted_in_spi}
use Rattle.demands.proofs.Faulted.{faulted}
use Rattle.demands.proofs.Frames.{unlent}
use Rattle.demands.specs.Faulted.{fault, Faulted}
use Rattle.demands.specs.InSpi.{TakenInSpi, FaultedInSpi}
use Rattle.demands.specs.Silenced.{Taken, Reads}
use Rattle.lock.specs.Passwords.{lock_made as lock_made_of}
use Rattle.lock.specs.declared.Lock.{Lock}
use Rattle.made.proofs.BlockLength.{length_left, reset_link}
use Rattle.made.proofs.Links.{length_as}
use Rattle.made.proofs.Run.{run_made}
use Rattle.made.proofs.Stays.{make_made, step_made}
use Rattle.made.proofs.Took.{heard_nothing}
use Rattle.made.specs.BlockLength.{Sets, LengthLeft, kept, powered as by_power, idled as by_idle, set}
use Rattle.made.specs.Made.{Made}
use Rattle.made.specs.Run.{World, Input, given, next, run_of}
use Rattle.moves.proofs.Among.{each}
use Rattle.moves.specs.Indices.{among}
use Rattle.moves.specs.Moves.{move_of}
use Rattle.moves.specs.Rows.{transfer_row, row_of, window}
use Rattle.spi.proofs.Laws.{is_inactive}
use Rattle.spi_moves.specs.Moves.{row_of as row_in_spi, move_of as move_in_spi}
use Rattle.states.specs.declared.Column.TheVariants.{Rcv as ToRcv}
use Rattle.states.specs.declared.Incoming.TheVariants.{One, Many}
use Rattle.states.specs.declared.State.{State}
use Rattle.states.specs.declared.State.TheVariants.{Idle, Ready, Ident, Stby, Tran, Data, Rcv, Prg, Dis, Ina}
use Rattle.status.specs.ErrorBits.{error_bit}
use Rattle.store.specs.Lent.{seen}
use Rattle.store.specs.Map.{map_right}
use Rattle.store.specs.Memory.{size_allowed}
use Rattle.wire.specs.Responses.{register_right}
use Rattle.stored.specs.AfterReset.{AfterReset, made, powered, idled, Unset, Unwritable}
use Rattle.stored.specs.Changes.{AwaitsWrite}
use Rattle.stored.proofs.FromMade.{work}
use Rattle.std.specs.Prelude.{Result, Ok, Err, Some}
use Rattle.base.specs.declared.Refusal.{Refusal}

-- ---- a make
-- one that is refused makes nothing
abbrev Fresh : MadeOf → Type 0
Fresh given = given.making ≡ Ok tt → given.card.link ≡ fresh_link

locked_fresh : (registers : Registers) (made : Result Lock Refusal) → Fresh (locked_by registers made)
locked_fresh registers (Ok lock) e = refl
locked_fresh registers (Err refusal) e = clash cc

make_fresh : (cid csd : List ℕ) (ocr : ℕ) (password : List ℕ) (memory : ℕ) (map : List ℕ) → Fresh (made_of cid csd ocr password memory map)
unfolding made_of password_made
make_fresh cid csd ocr password memory map =
    guarded Fresh (size_allowed memory) (λ t e. clash cc)
    (λ t. guarded Fresh (map_right map (memory / 8192)) (λ t e. clash cc)
    (λ t. guarded Fresh (register_right cid) (λ t e. clash cc)
    (λ t. guarded Fresh (register_right csd) (λ t e. clash cc)
    (λ t. guarded Fresh (not (eqb (window ocr) 0)) (λ t e. clash cc)
    (λ t. locked_fresh _ (lock_made_of password))))))

-- ---- CMD0
awake : (link : Link) (state : State) → link.state ≡ state → (state ≡ Ina → ⊥) → is_inactive link ≡ false
awake link Idle e n = rw e refl
awake link Ready e n = rw e refl
awake link Ident e n = rw e refl
awake link Stby e n = rw e refl
awake link Tran e n = rw e refl
awake link (Data outgoing) e n = rw e refl
awake link (Rcv incoming) e n = rw e refl
awake link Prg e n = rw e refl
awake link Dis e n = rw e refl
awake link Ina e n = absurd (n refl)

module _ (world : World) (wins selected : Bool) (frame : List ℕ) (argument : ℕ) (reads : Reads world.card frame world.lent 0 argument)
    (active : world.card.link.state ≡ Ina → ⊥) (low : world.card.mode.spi ≡ true → selected ≡ true) where
  abbrev card : Card
  card = world.card

  idle_fresh : (next world (given (Frame wins selected) frame)).card.link ≡ fresh_link
  unfolding next change_of
  idle_fresh =
      let unchanged = heard_nothing card.link (met_by card wins) 0 argument refl card.mode selected in
      ap (λ (s : Stepped). s.card.link) (unlent card wins selected frame world.lent [] 0 argument reads unchanged).step
      ∙ reset_link card.mode card.link (met_by card wins) argument (awake card.link card.link.state refl active) selected low

-- ---- every reset
pub reset_leaves : {world : World} → AfterReset world → world.card.link ≡ fresh_link
unfolding next powered_on
reset_leaves (made cid csd ocr password lent done) = make_fresh cid csd ocr password (length lent.memory) lent.map done
reset_leaves (powered world bytes right) = refl
reset_leaves (idled world wins selected frame argument right reads active low) = idle_fresh world wins selected frame argument reads active low

pub reset_made : {world : World} → AfterReset world → Made world.card
unfolding next
reset_made (made cid csd ocr password lent done) = make_made cid csd ocr password (length lent.memory) lent.map done
reset_made (powered world bytes right) = step_made world.card PowerOn bytes (seen world.lent) 0 right
reset_made (idled world wins selected frame argument right reads active low) =
    step_made world.card (Frame wins selected) frame (seen world.lent) 0 right

-- ---- until CMD16 of 512
abbrev Unsized : ℕ → Type 0
Unsized length = length ≡ 512 → ⊥

left_unsized : (card : Card) (input : Input) {length : ℕ} → LengthLeft card input length → (Sets card input 512 → ⊥)
    → Unsized card.link.length → Unsized length
left_unsized card input kept other unsized = unsized
left_unsized card input (by_power e) other unsized = λ n. omega arith
left_unsized card input (by_idle argument frame) other unsized = λ n. omega arith
left_unsized card input (set n taken) other unsized = λ e. other (subst (Sets card input) e taken)

run_unsized : (world : World) (inputs : List Input) → Unset world inputs → Unsized world.card.link.length → Unsized (run_of world inputs).card.link.length
unfolding run_of next
run_unsized world [] unset unsized = unsized
run_unsized world (input ∷ inputs) unset unsized =
    run_unsized (next world input) inputs unset.1
    (left_unsized world.card input (length_left world.card input (seen world.lent) (length input.output)) unset.0 unsized)

-- ---- what a made card of another block length does
module _ (card : Card) (right : Made card) (unsized : Unsized card.link.length) where
  awaits_none : (at : ℕ) → AwaitsWrite card at → ⊥
  awaits_none at (inl on) = unsized (work card right (One at) on).1.1.1
  awaits_none at (inr on) = unsized (work card right (Many at) on).1.1.1

  length_fault_lem : (argument size : ℕ) → write_fault argument (length_read card.link.length) size ≡ Some (error_bit 29)
  length_fault_lem argument size = rw (length_as card.link.length right.link.block) (simp (ne_eqb card.link.length 512 unsized))

  module _ (wins : Bool) (argument : ℕ) (unlocked : card.lock.locked ≡ false) where
    abbrev Told : ℕ → Type 0
    Told index = fault card.link (met_by card wins) index argument ≡ Some (error_bit 29)

    told_24 : Told 24
    unfolding judged_of tagging_of argument_fault
    told_24 = rw unlocked (length_fault_lem argument (size_of card.registers.groups))

    told_25 : Told 25
    unfolding judged_of tagging_of argument_fault
    told_25 = rw unlocked (length_fault_lem argument (size_of card.registers.groups))

    module _ (on : card.link.state ≡ Tran) where
      -- "24, 25, 42: tran to rcv"
      abbrev Goes : ℕ → Type 0
      Goes index = Taken card.link (met_by card wins) index argument ToRcv

      goes_24 : Goes 24
      unfolding row_of transfer_row move_of
      goes_24 = rw on refl

      goes_25 : Goes 25
      unfolding row_of transfer_row move_of
      goes_25 = rw on refl

      goes_in_spi : TakenInSpi card wins 24 argument ToRcv
      unfolding row_in_spi move_in_spi
      goes_in_spi = rw on refl

      answers_so : (index : ℕ) → among index (24 ∷ 25 ∷ []) ≡ true
          → Faulted card.link (met_by card wins) index argument (error_bit 29) (command_of card.link (met_by card wins) index argument)
      answers_so =
          each (λ (index : ℕ). Faulted card.link (met_by card wins) index argument (error_bit 29) (command_of card.link (met_by card wins) index argument))
          (24 ∷ 25 ∷ []) (
            faulted card.link (met_by card wins) 24 argument ToRcv (error_bit 29) goes_24 told_24,
            (faulted card.link (met_by card wins) 25 argument ToRcv (error_bit 29) goes_25 told_25, tt),
          )

      answers_low : card.mode.spi ≡ true → FaultedInSpi card wins 24 argument (error_bit 29)
      answers_low here = faulted_in_spi card here wins 24 argument ToRcv (error_bit 29) goes_in_spi told_24

  unwritable : Unwritable card
  unwritable =
      record {
        unset = unsized;
        no_write = awaits_none;
        answers = λ wins index argument listed on unlocked. answers_so wins argument unlocked on index listed;
        answers_in_spi = λ wins argument here on unlocked. answers_low wins argument unlocked on here;
      }

pub until_set : {world : World} → AfterReset world → (inputs : List Input) → Unset world inputs → Unwritable (run_of world inputs).card
unfolding fresh_link
until_set {world} reset inputs unset =
    unwritable (run_of world inputs).card (run_made world inputs (reset_made reset))
    (run_unsized world inputs unset (λ e. let long : world.card.link.length ≡ 2048 = ap (λ (l : Link). l.length) (reset_leaves reset) in omega arith))
