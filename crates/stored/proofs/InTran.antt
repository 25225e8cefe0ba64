-- CMD16 and CMD42 at a card in tran, in MMC mode and in SPI, locked or not, whatever else is in the record.
--   Heeds            such a card, which hears the command: in SPI its select line is low
--   length_heard     CMD16 of 1 to 2,048: the block length is the one that it asks for
--   request_heard    CMD42: a lock request is awaited
--   carries_heard    so a frame that brings such a command does that, and changes nothing that is lent
--   sets_length      CMD16 that a card takes sets its block length, of a locked card too
--   length_faulted, length_faulted_low    CMD16 of 0 or over 2,048 answers bit 29, and sets nothing: of a locked card too, in MMC mode and in SPI
-- Assumes nothing.
use mathlib.Core.Path.{◌≡◌, refl, sym, ap, ap₂, ◌∙◌, subst, subst⁻¹}
use mathlib.Core.Bool.{Bool, true, false}
use mathlib.Core.Logic.{◌⊎◌, inl, inr}
use Prim.Native.Nat.{ℕ, ◌%◌, ◌≤◌, ◌<◌}
use native.Mathlib.Omega.{arith}
use borrow.Author.Tests.{le-leb, lt-leb}
use Rattle.base.proofs.Cases.{never}
use Rattle.base.specs.Choice.{unless}
use Rattle.base.specs.Refusals.{by}
use Rattle.card.specs.Frame.{commanded, hearing, frame_judged}
use Rattle.card_blocks.specs.declared.Stepped.{Stepped}
use Rattle.card_record.specs.Record.{size_of, with_state}
use Rattle.card_record.specs.declared.Card.{Card}
use Rattle.card_record.specs.declared.Link.{Link}
use Rattle.card_record.specs.declared.Mode.{Mode}
use Rattle.command.specs.Answers.{response_of, answered}
use Rattle.command.specs.Arguments.{argument_fault}
use Rattle.command.specs.Command.{met_by, taken_of, command_of}
use Rattle.command.specs.Obey.{passes_lock, leaving, tagging_of, judged_of, reset_told, awaited_by, obeyed, change_of, after_checks, acted_of}
use Rattle.command.specs.declared.Change.TheVariants.{Nothing}
use Rattle.command.specs.declared.Met.{Met}
use Rattle.demands.proofs.AnsweredInSpi.{faulted_in_spi}
use Rattle.demands.proofs.Faulted.{faulted}
use Rattle.demands.proofs.Frames.{judged_as, unlent_judged}
use Rattle.demands.specs.Faulted.{fault, Faulted}
use Rattle.demands.specs.InSpi.{TakenInSpi, FaultedInSpi}
use Rattle.demands.specs.Silenced.{Taken}
use Rattle.made.proofs.Faults.{passes}
use Rattle.made.specs.BlockLength.{Brings, Sets}
use Rattle.made.specs.Run.{World, Input, next}
use Rattle.moves.specs.Classes.{class_of}
use Rattle.moves.specs.Moves.{move_of}
use Rattle.moves.specs.Rows.{transfer_row, row_of}
use Rattle.spi.specs.Answers.{answered_in}
use Rattle.spi.specs.Hearing.{taken_in, spi_heard, heard_of, damaged_of}
use Rattle.spi.specs.declared.Heard.{Heard}
use Rattle.spi_moves.specs.Moves.{row_of as row_in_spi, move_of as move_in_spi}
use Rattle.states.specs.declared.Column.TheVariants.{Tran as ToTran}
use Rattle.states.specs.declared.Incoming.TheVariants.{LockRequest}
use Rattle.states.specs.declared.State.{State}
use Rattle.states.specs.declared.State.TheVariants.{Tran, Rcv}
use Rattle.status.specs.ErrorBits.{error_bit}
use Rattle.store.specs.Lent.{Lent, seen, lending_of}
use Rattle.tags.specs.Tagging.{no_tags}
use Rattle.tags.specs.declared.Tagging.{Tagging}
use Rattle.wire.specs.Blocks.{longest_block}
use Rattle.stored.specs.Opening.{Carries, r1_in, behind_r1}
use Rattle.std.specs.Prelude.{Ok, Err, Some, None}
use Rattle.wire.specs.Frames.{as_fields}

-- ---- check 5
-- "class 0, CMD16 and CMD42": a command that passes the lock is judged by its argument alone
past_lock : (link : Link) (groups : ℕ) (locked : Bool) (index argument : ℕ) → passes_lock true index ≡ true
    → judged_of link groups locked index argument ≡ tagging_of link (size_of groups) index argument
unfolding judged_of
past_lock link groups locked index argument e = rw (passes locked index e) refl

module _ (link : Link) (groups : ℕ) (locked : Bool) where
  length_unfaulted : (n : ℕ) → 1 ≤ n → n ≤ longest_block → judged_of link groups locked 16 n ≡ leaving no_tags
  unfolding tagging_of argument_fault class_of
  length_unfaulted n some few = past_lock link groups locked 16 n refl ∙ simp (le-leb 1 n some, le-leb n 2048 few)

  request_unfaulted : (argument : ℕ) → judged_of link groups locked 42 argument ≡ leaving no_tags
  unfolding tagging_of argument_fault class_of
  request_unfaulted argument = past_lock link groups locked 42 argument refl

-- ---- the commands
-- what a command of this index leaves that is carried out: the state, and the block length
abbrev left_by : Bool → Mode → Link → Met → ℕ → State → ℕ → Heard
left_by spi mode link met index state n =
    record {
      mode = mode;
      link = record { state = state; address = link.address; length = n; errors = behind_r1 spi (reset_told link index); tags = no_tags };
      sent = r1_in spi index (reset_told link index) met.locked;
      change = Nothing;
    }

-- a mode of which is known whether it is SPI, and below a link of which is known that its state is tran
abbrev mode_in : Bool → Mode → Mode
mode_in spi mode = record { spi = spi; checks = mode.checks }

module _ (mode : Mode) (link : Link) (met : Met) where
  abbrev here : Link
  here = with_state link Tran

  -- a command of this index and argument in which checks 5 and 6 find no error
  abbrev Unfaulted : ℕ → ℕ → Type 0
  Unfaulted index argument = judged_of here met.groups met.locked index argument ≡ leaving no_tags

  sized : (spi selected : Bool) (n : ℕ) → Unfaulted 16 n → n % 65536 ≡ n → (spi ≡ true → selected ≡ true)
      → heard_of (mode_in spi mode) selected here met 16 n ≡ left_by spi (mode_in spi mode) here met 16 Tran n
  unfolding heard_of spi_heard row_in_spi move_in_spi taken_in answered_in command_of row_of transfer_row move_of taken_of acted_of after_checks answered response_of obeyed awaited_by change_of
  sized true true n right whole low = rw (right, whole) refl
  sized true false n right whole low = never (low refl)
  sized false true n right whole low = rw (right, whole) refl
  sized false false n right whole low = rw (right, whole) refl

  requested : (spi selected : Bool) (argument : ℕ) → Unfaulted 42 argument → (spi ≡ true → selected ≡ true)
      → heard_of (mode_in spi mode) selected here met 42 argument ≡ left_by spi (mode_in spi mode) here met 42 (Rcv LockRequest) link.length
  unfolding heard_of spi_heard row_in_spi move_in_spi taken_in answered_in command_of row_of transfer_row move_of taken_of acted_of after_checks answered response_of obeyed awaited_by change_of
  requested true true argument right low = rw right refl
  requested true false argument right low = never (low refl)
  requested false true argument right low = rw right refl
  requested false false argument right low = rw right refl

pub record Heeds (spi : Bool) (card : Card) (selected : Bool) : Type 0 where
  pub mode_is : card.mode.spi ≡ spi
  pub tran : card.link.state ≡ Tran
  pub low : card.mode.spi ≡ true → selected ≡ true

module _ (spi : Bool) (card : Card) (wins selected : Bool) (heeds : Heeds spi card selected) where
  abbrev met : Met
  met = met_by card wins

  abbrev heard_here : ℕ → ℕ → Heard
  heard_here index argument = heard_of card.mode selected card.link met index argument

  low_here : spi ≡ true → selected ≡ true
  low_here e = heeds.low (heeds.mode_is ∙ e)

  at_card : (index argument : ℕ) (state : State) (n : ℕ)
      → heard_of (mode_in spi card.mode) selected (with_state card.link Tran) met index argument
      ≡ left_by spi (mode_in spi card.mode) (with_state card.link Tran) met index state n
      → heard_here index argument ≡ left_by spi card.mode card.link met index state n
  at_card index argument state n e =
      subst (λ (b : Bool).
      heard_of (mode_in b card.mode) selected card.link met index argument ≡ left_by spi (mode_in b card.mode) card.link met index state n)
      (sym heeds.mode_is)
      (subst (λ (s : State).
      heard_of (mode_in spi card.mode) selected (with_state card.link s) met index argument
      ≡ left_by spi (mode_in spi card.mode) (with_state card.link s) met index state n)
      (sym heeds.tran) e)

  pub length_heard : (n : ℕ) → 1 ≤ n → n ≤ longest_block → heard_here 16 n ≡ left_by spi card.mode card.link met 16 Tran n
  length_heard n some few =
      let right = length_unfaulted (with_state card.link Tran) card.registers.groups card.lock.locked n some few in
      at_card 16 n Tran n (sized card.mode card.link met spi selected n right (omega arith) low_here)

  pub request_heard : (argument : ℕ) → heard_here 42 argument ≡ left_by spi card.mode card.link met 42 (Rcv LockRequest) card.link.length
  request_heard argument =
      let right = request_unfaulted (with_state card.link Tran) card.registers.groups card.lock.locked argument in
      at_card 42 argument (Rcv LockRequest) card.link.length (requested card.mode card.link met spi selected argument right low_here)

-- ---- whole calls
module _ (world : World) (input : Input) (index argument : ℕ) (right : lending_of (seen world.lent) world.card.registers.groups ≡ Ok tt)
    (brings : Brings world.card input index argument) (heard : Heard)
    (is : heard_of world.card.mode brings.selected world.card.link (met_by world.card brings.wins) index argument ≡ heard) where
  judged : frame_judged world.card brings.wins brings.selected input.bytes (seen world.lent) ≡ commanded world.card (Ok None) heard
  judged =
      judged_as world.card brings.wins brings.selected input.bytes (seen world.lent) right (Ok (as_fields index argument brings.heard.right))
      brings.heard.framing
      ∙ ap (λ (t : Bool).
      unless t (commanded world.card (Err (by 3)) (damaged_of world.card.mode brings.selected world.card.link))
      (commanded world.card (Ok None) (heard_of world.card.mode brings.selected world.card.link (met_by world.card brings.wins) index argument)))
      brings.heard.crc
      ∙ ap (commanded world.card (Ok None)) is

  pub carries_heard : heard.change ≡ Nothing → Carries world input heard.sent (record { card = hearing world.card heard; lent = world.lent })
  unfolding next
  carries_heard same =
      let unlent = unlent_judged world.card brings.wins brings.selected input.bytes world.lent input.output heard judged same in
      let call = brings.called in
      rw call
      (record {
        reply = ap (λ (s : Stepped). s.reply) unlent.step;
        left = ap₂ (λ (s : Stepped) (l : Lent). record { card = s.card; lent = l }) unlent.step unlent.lent_kept;
      })

pub sets_length : (world : World) (input : Input) (n : ℕ) → lending_of (seen world.lent) world.card.registers.groups ≡ Ok tt → Sets world.card input n
    → (next world input).card.link.length ≡ n
sets_length world input n right sets =
    let brings = sets.brought in
    let heeds : Heeds world.card.mode.spi world.card brings.selected = record { mode_is = refl; tran = sets.tran; low = brings.heard.low } in
    let heard = length_heard world.card.mode.spi world.card brings.wins brings.selected heeds n sets.range.0 sets.range.1 in
    ap (λ (w : World). w.card.link.length) (carries_heard world input 16 n right brings _ heard refl).left

-- ---- a length that no block has
-- "CMD16: length 1 to 2,048 (29)": check 5 lets it on, so that it is check 6 which stops it
abbrev pub NoLength : ℕ → Type 0
NoLength n = (n ≡ 0) ⊎ (longest_block < n)

argument_wrong : (link : Link) (size n : ℕ) → NoLength n → (tagging_of link size 16 n).error ≡ Some (error_bit 29)
unfolding tagging_of argument_fault
argument_wrong link size n (inl none) = subst⁻¹ (λ (k : ℕ). (tagging_of link size 16 k).error ≡ Some (error_bit 29)) none refl
argument_wrong link size n (inr long) = simp (le-leb 1 n (omega arith), lt-leb n 2048 long)

length_wrong : (card : Card) (wins : Bool) (n : ℕ) → NoLength n → fault card.link (met_by card wins) 16 n ≡ Some (error_bit 29)
unfolding class_of
length_wrong card wins n wrong =
    ap (λ (t : Tagging). t.error) (past_lock card.link card.registers.groups card.lock.locked 16 n refl)
    ∙ argument_wrong card.link (size_of card.registers.groups) n wrong

module _ (card : Card) (wins : Bool) (n : ℕ) (wrong : NoLength n) (tran : card.link.state ≡ Tran) where
  goes : Taken card.link (met_by card wins) 16 n ToTran
  unfolding row_of transfer_row move_of
  goes = rw tran refl

  goes_low : TakenInSpi card wins 16 n ToTran
  unfolding row_in_spi move_in_spi
  goes_low = rw tran refl

  pub length_faulted : Faulted card.link (met_by card wins) 16 n (error_bit 29) (command_of card.link (met_by card wins) 16 n)
  length_faulted = faulted card.link (met_by card wins) 16 n ToTran (error_bit 29) goes (length_wrong card wins n wrong)

  pub length_faulted_low : card.mode.spi ≡ true → FaultedInSpi card wins 16 n (error_bit 29)
  length_faulted_low here = faulted_in_spi card here wins 16 n ToTran (error_bit 29) goes_low (length_wrong card wins n wrong)
