-- A made card stays made.
--   make_made       a make that is not refused gives a made card
--   step_made       every call keeps a card made, whatever comes in and whatever is lent
--   command_made    so does every command that reaches a card in MMC mode on the bus, whether it would win the line or not
--   damage_made     and every damaged frame there
--   whole_groups    an allowed size is one of whole protection groups
-- Assumes nothing.
use mathlib.Core.Path.{◌≡◌, refl, ap, ◌∙◌, subst, subst⁻¹}
use mathlib.Core.Bool.{Bool, true, false, not}
use mathlib.Core.List.{List}
use Prim.Native.Nat.{ℕ, ◌/◌}
use native.Mathlib.Omega.{arith}
use borrow.Author.Tests.{eqb-false, not-true}
use lib.Dec.{eqb}
use lib.ListN.{length}
use Rattle.base.proofs.Cases.{guarded, clash, never, opposite}
use Rattle.base.specs.Refusals.{by}
use Rattle.base.specs.declared.Refusal.{Refusal}
use Rattle.card.proofs.Outcomes.{FrameOutcome, unheard, damaged, commands, frame_outcome, told}
use Rattle.card.specs.Frame.{FrameJudged, hearing, frame_judged, spares, spared_told, frame_stepped}
use Rattle.card.specs.Step.{step_of}
use Rattle.card.specs.declared.Call.{Call}
use Rattle.card.specs.declared.Call.TheVariants.{Frame, BlockIn, BlockOut, WorkDone, PowerOn}
use Rattle.card_blocks.specs.declared.Stepped.{Stepped}
use Rattle.command.specs.Command.{met_by, damaged_link, command_of}
use Rattle.lock.specs.Passwords.{powered_of, lock_made as lock_made_of}
use Rattle.lock.specs.declared.Lock.{Lock}
use Rattle.moves.specs.Moves.{in_state}
use Rattle.moves.specs.Rows.{window}
use Rattle.spi.specs.Hearing.{heard_of, damaged_of}
use Rattle.spi.specs.declared.Heard.{Heard}
use Rattle.spi_moves.specs.Moves.{five}
use Rattle.states.specs.States.{column_of}
use Rattle.card_record.specs.Making.{failed_make, locked_by, password_made, made_of}
use Rattle.card_record.specs.Power.{fresh_link, mmc_mode, powered_on, worked_state, worked}
use Rattle.card_record.specs.Record.{size_of, with_link}
use Rattle.card_record.specs.declared.Card.{Card}
use Rattle.card_record.specs.declared.Link.{Link}
use Rattle.card_record.specs.declared.Made.{Made as MadeOf}
use Rattle.card_record.specs.declared.Registers.{Registers}
use Rattle.states.specs.declared.State.{State}
use Rattle.states.specs.declared.State.TheVariants.{Idle, Ready, Ident, Stby, Tran, Data, Rcv, Prg, Dis, Ina}
use Rattle.status.specs.ErrorBits.{error_bit}
use Rattle.status.specs.Status.{with_bit}
use Rattle.store.proofs.Sectors.{allowed_size}
use Rattle.store.specs.Lent.{Seen}
use Rattle.store.specs.Map.{map_right}
use Rattle.store.specs.Memory.{size_allowed}
use Rattle.wire.specs.Responses.{register_right}
use Rattle.made.proofs.Blocks.{block_in_made, block_out_made}
use Rattle.made.proofs.Commands.{link_made}
use Rattle.made.proofs.InSpi.{MadeHeard, heard_made, damaged_heard_made}
use Rattle.made.proofs.Links.{fresh_made, errors_made, damaged_made}
use Rattle.made.proofs.Locks.{made_made, powered_made}
use Rattle.made.proofs.Pending.{set_either}
use Rattle.made.specs.Made.{Waits, MadeRegisters, MadeLock, MadeLink, MadeMode, Made}
use Rattle.std.specs.Prelude.{Result, Ok, Err, IfOk}

-- ---- commands on a bus, which reach cards in MMC mode alone
module _ (card : Card) (here : card.mode.spi ≡ false) (made : Made card) where
  -- the card with another link that is made in MMC mode
  relinked : (link : Link) → MadeLink false card.registers.groups card.lock.locked link → Made (with_link card link)
  relinked link right =
      record {
        registers = made.registers;
        lock = made.lock;
        link = subst⁻¹ (λ (spi : Bool). MadeLink spi card.registers.groups card.lock.locked link) here right;
        mode = record { checks = made.mode.checks; reached = λ s. opposite card.mode.spi s here };
      }

  own : MadeLink false card.registers.groups card.lock.locked card.link
  own = subst (λ (spi : Bool). MadeLink spi card.registers.groups card.lock.locked card.link) here made.link

  pub command_made : (wins : Bool) (index argument : ℕ) → Made (with_link card (command_of card.link (met_by card wins) index argument).link)
  command_made wins index argument =
      relinked (command_of card.link (met_by card wins) index argument).link (link_made card.link (met_by card wins) index argument own)

  pub damage_made : Made (with_link card (damaged_link card.link))
  damage_made = relinked (damaged_link card.link) (damaged_made card.registers.groups card.lock.locked card.link own)

-- ---- frames
module _ (card : Card) (made : Made card) where
  heard_kept : (heard : Heard) → MadeHeard card.registers.groups card.lock.locked heard → Made (hearing card heard)
  heard_kept heard right = record { registers = made.registers; lock = made.lock; link = right.link; mode = right.mode }

  judged_made : (wins selected : Bool) (frame : List ℕ) (seen : Seen) {judged : FrameJudged} → FrameOutcome card wins selected frame seen judged
      → Made judged.stepped.card
  judged_made wins selected frame seen (unheard n listed) = made
  judged_made wins selected frame seen (damaged index argument is fails) =
      heard_kept (damaged_of card.mode selected card.link)
      (damaged_heard_made card.mode card.link (met_by card wins) index argument made.link made.mode selected)
  judged_made wins selected frame seen (commands index argument right is passes lent) =
      heard_kept (heard_of card.mode selected card.link (met_by card wins) index argument)
      (heard_made card.mode card.link (met_by card wins) index argument made.link made.mode selected)

  -- with bit 15, where an erase spared a sector
  spared_made : (stepped : Stepped) → Made stepped.card → Made (spared_told stepped true).card
  spared_made stepped m =
      let next : Card = stepped.card in
      record {
        registers = m.registers;
        lock = m.lock;
        link = errors_made next.mode.spi next.registers.groups next.lock.locked next.link (with_bit next.link.errors (error_bit 15)) m.link
            (set_either next.mode.spi next.link.errors (error_bit 15) refl refl m.link.errors);
        mode = m.mode;
      }

  frame_made : (wins selected : Bool) (frame : List ℕ) (seen : Seen) → Made (frame_stepped card wins selected frame seen).card
  unfolding frame_stepped
  frame_made wins selected frame seen =
      let stepped : Stepped = (frame_judged card wins selected frame seen).stepped in
      let m : Made stepped.card = judged_made wins selected frame seen (frame_outcome card wins selected frame seen) in
      told (λ (s : Stepped). Made s.card) stepped (spares card seen (frame_judged card wins selected frame seen).change) (spared_made stepped m) m

-- ---- work done and power-on
worked_waits : (groups length : ℕ) (locked : Bool) (state : State) → Waits groups length locked state → Waits groups length locked (worked_state state)
worked_waits groups length locked Idle w = tt
worked_waits groups length locked Ready w = tt
worked_waits groups length locked Ident w = tt
worked_waits groups length locked Stby w = tt
worked_waits groups length locked Tran w = tt
worked_waits groups length locked (Data outgoing) w = w
worked_waits groups length locked (Rcv incoming) w = w
worked_waits groups length locked Prg w = tt
worked_waits groups length locked Dis w = tt
worked_waits groups length locked Ina w = tt

-- in SPI prg goes to tran, and dis is not reached
worked_five : (state : State) → in_state (column_of state) five ≡ true → in_state (column_of (worked_state state)) five ≡ true
worked_five Idle h = h
worked_five Ready h = h
worked_five Ident h = h
worked_five Stby h = h
worked_five Tran h = h
worked_five (Data outgoing) h = h
worked_five (Rcv incoming) h = h
worked_five Prg h = refl
worked_five Dis h = never h
worked_five Ina h = h

worked_made : (card : Card) → Made card → Made (worked card)
unfolding worked
worked_made card made =
    record {
      registers = made.registers;
      lock = made.lock;
      link = record {
        address = made.link.address;
        block = made.link.block;
        tags = made.link.tags;
        tagged = λ e. (ap worked_state (made.link.tagged e).0, (made.link.tagged e).1);
        work = worked_waits card.registers.groups card.link.length card.lock.locked card.link.state made.link.work;
        errors = made.link.errors;
      };
      mode = record { checks = made.mode.checks; reached = λ s. worked_five card.link.state (made.mode.reached s) };
    }

-- a card that was not brought into SPI
mmc_made : (state : State) → MadeMode mmc_mode state
mmc_made state = record { checks = λ c. never c; reached = λ s. never s }

powered_on_made : (card : Card) → Made card → Made (powered_on card)
unfolding powered_on
powered_on_made card made =
    record {
      registers = made.registers;
      lock = powered_made card.lock made.lock;
      link = fresh_made false card.registers.groups (powered_of card.lock).locked;
      mode = mmc_made fresh_link.state;
    }

-- ---- every call
pub step_made : (card : Card) (call : Call) (input : List ℕ) (seen : Seen) (room : ℕ) → Made card → Made (step_of card call input seen room).card
step_made card (Frame wins selected) input seen room made = frame_made card made wins selected input seen
step_made card BlockIn input seen room made = block_in_made card made input seen
step_made card BlockOut input seen room made = block_out_made card made seen room
step_made card WorkDone input seen room made = worked_made card made
step_made card PowerOn input seen room made = powered_on_made card made

-- ---- making
module _ (registers : Registers) (right : MadeRegisters registers) where
  locked_by_made : (made : Result Lock Refusal) → IfOk made MadeLock → (locked_by registers made).making ≡ Ok tt → Made (locked_by registers made).card
  locked_by_made (Ok lock) m e = record { registers = right; lock = m; link = fresh_made false registers.groups lock.locked; mode = mmc_made fresh_link.state }
  locked_by_made (Err refusal) m e = clash cc

  password_made_lem : (password : List ℕ) → (password_made registers password).making ≡ Ok tt → Made (password_made registers password).card
  unfolding password_made
  password_made_lem password = locked_by_made (lock_made_of password) (made_made password)

-- a make that is refused makes nothing
abbrev Makes : MadeOf → Type 0
Makes made = made.making ≡ Ok tt → Made made.card

refused_makes : (refusal : Refusal) → Makes (failed_make refusal)
refused_makes refusal e = clash cc

-- an allowed size is one of whole protection groups
pub whole_groups : (memory : ℕ) → size_allowed memory ≡ true → size_of (memory / 8192) ≡ memory
whole_groups memory allowed = omega (arith, (allowed_size memory allowed).2)

pub make_made : (cid csd : List ℕ) (ocr : ℕ) (password : List ℕ) (memory : ℕ) (map : List ℕ)
    → (made_of cid csd ocr password memory map).making ≡ Ok tt → Made (made_of cid csd ocr password memory map).card
unfolding made_of
make_made cid csd ocr password memory map =
    guarded Makes (size_allowed memory) (λ e. refused_makes (by 7))
    (λ allowed.
    guarded Makes (map_right map (memory / 8192)) (λ e. refused_makes (by 8))
    (λ e.
    guarded Makes (register_right cid) (λ e. refused_makes (by 9))
    (λ cid_right.
    guarded Makes (register_right csd) (λ e. refused_makes (by 9))
    (λ csd_right.
    guarded Makes (not (eqb (window ocr) 0)) (λ e. refused_makes (by 10))
    (λ some.
    let windowed : window ocr ≡ 0 → ⊥ = eqb-false (window ocr) 0 (not-true (eqb (window ocr) 0) some) in
    password_made_lem (record { cid = cid; csd = csd; ocr = ocr; groups = memory / 8192 })
    (record { size = ap size_allowed (whole_groups memory allowed) ∙ allowed; cid = cid_right; csd = csd_right; ocr = omega arith })
    password)))))
