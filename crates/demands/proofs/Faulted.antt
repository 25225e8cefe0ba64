-- Demand 1, answered with an error in MMC mode: a taken command that check 5 or 6 stops answers R1 with the error's bit, stays where it is,
-- leaves no error bit pending and no tags, and changes nothing lent. For every record.
--   bit_shown          a status made with an error bit set shows it
--   faulted            the theorem
--   only_passes_lock   of it, check 5: on a locked card a command that is not let through answers with bit 24
--   faulted_frame, locked_frame    whole frames so answered leave every lent byte
-- Assumes nothing.
use mathlib.Core.Path.{◌≡◌, sym, ap, ◌∙◌}
use mathlib.Core.Bool.{Bool, true, false}
use mathlib.Core.List.{List}
use Prim.Native.Nat.{ℕ}
use lib.Dec.{eqb}
use Rattle.base.proofs.Cases.{cases, clash}
use Rattle.base.specs.Choice.{pick, unless}
use Rattle.command.proofs.Faults.{judged_drops, faulty, fault_by_r1}
use Rattle.command.specs.Answers.{response_of, answered}
use Rattle.command.specs.Command.{met_by, received_of, taken_of, command_of}
use Rattle.command.specs.Obey.{passes_lock, tagging_of, judged_of, reset_told, gone_idle, after_checks, acted_of}
use Rattle.command.specs.declared.Acted.{Acted}
use Rattle.command.specs.declared.Change.TheVariants.{Nothing}
use Rattle.command.specs.declared.Commanded.{Commanded}
use Rattle.command.specs.declared.Met.{Met}
use Rattle.command.specs.declared.Response.{Response}
use Rattle.command.specs.declared.Response.TheVariants.{R1}
use Rattle.moves.specs.Rows.{row_of}
use Rattle.moves.specs.declared.Received.{Received}
use Rattle.moves.specs.declared.Move.TheVariants.{To}
use Rattle.card_record.specs.Record.{size_of, with_tags}
use Rattle.card_record.specs.declared.Card.{Card}
use Rattle.card_record.specs.declared.Link.{Link}
use Rattle.spi.specs.Hearing.{heard_in_mmc}
use Rattle.states.specs.States.{column_of}
use Rattle.states.specs.declared.Column.{Column}
use Rattle.status.proofs.ErrorTheorems.{set_shows, named_shown}
use Rattle.status.proofs.WordTheorems.{word_shown}
use Rattle.status.specs.Bits.{bit_at}
use Rattle.status.specs.ErrorBits.{place_of, error_bit}
use Rattle.status.specs.Status.{with_bit, word_of}
use Rattle.status.specs.declared.ErrorBit.{ErrorBit}
use Rattle.status.specs.declared.Errors.{Errors}
use Rattle.store.specs.Lent.{Lent}
use Rattle.tags.specs.Tagging.{no_tags, tag_failed}
use Rattle.tags.specs.declared.Tagging.{Tagging}
use Rattle.tags.specs.declared.Tags.{Tags}
use Rattle.demands.specs.Faulted.{fault, Faulted}
use Rattle.demands.specs.Silenced.{Taken, Reads, InMmc, Unlent}
use Rattle.demands.proofs.Frames.{heard_in_mmc_lem, unlent_as}
use Rattle.demands.proofs.Silenced.{by_move}
use Rattle.std.specs.Prelude.{Option, Some}

-- the bit that is set is shown in the status
pub bit_shown : (e : Errors) (bit : ErrorBit) (locked : Bool) (on : Column) → bit_at (place_of bit) (word_of (with_bit e bit) locked on) ≡ 1
bit_shown e bit locked on =
    sym (named_shown (record { bits = word_of (with_bit e bit) locked on }) bit)
    ∙ ap (bit_at (place_of bit)) (word_shown (with_bit e bit) locked on)
    ∙ set_shows e bit

module _ (link : Link) (met : Met) (index argument : ℕ) (column : Column) (bit : ErrorBit) (taken : Taken link met index argument column)
    (faults : fault link met index argument ≡ Some bit) where
  abbrev asked : Received
  asked = received_of link met index argument

  abbrev tagging : Tagging
  tagging = judged_of link met.groups met.locked index argument

  not_reset : eqb index 0 ≡ false
  not_reset =
      cases (eqb index 0)
      (λ (t : eqb index 0 ≡ true). clash (cc (simp t at (faulty link met index argument bit faults))))
      (λ t. t)

  -- the answer to what the command did, and to these error bits, for a response and tags
  abbrev answer_to : Acted → Response → Commanded
  answer_to acted response = answered acted response index met.locked (column_of link.state)

  abbrev answer : Response → Tags → Commanded
  answer response tags =
      answer_to (record { link = with_tags link tags; errors = with_bit (reset_told link index) bit; change = Nothing }) response

  -- what the command did, by what checks 5 and 6 found
  abbrev checked : Option ErrorBit → Acted
  checked error = after_checks link index argument column tagging.tags error

  checked_is : command_of link met index argument ≡ answer_to (checked tagging.error) (response_of (row_of asked))
  unfolding taken_of acted_of
  checked_is =
      by_move link met index argument (To column) taken
      ∙ ap (λ (t : Bool). answer_to (pick t gone_idle (checked tagging.error)) (response_of (row_of asked))) not_reset

  answer_is : command_of link met index argument ≡ answer R1 no_tags
  unfolding after_checks
  answer_is =
      checked_is
      ∙ ap (λ (f : Option ErrorBit). answer_to (checked f) (response_of (row_of asked))) faults
      ∙ ap (λ (r : Response). answer r tagging.tags) (fault_by_r1 link met index argument bit faults column taken)
      ∙ ap (answer R1) (judged_drops link met.groups met.locked index argument bit faults)

  faulted_so : Faulted link met index argument bit (command_of link met index argument)
  unfolding answered
  faulted_so =
      record {
        answer = ap (λ (c : Commanded). c.sent) answer_is;
        shows = bit_shown (reset_told link index) bit met.locked (column_of link.state);
        state = ap (λ (c : Commanded). c.link.state) answer_is;
        address = ap (λ (c : Commanded). c.link.address) answer_is;
        length = ap (λ (c : Commanded). c.link.length) answer_is;
        errors = ap (λ (c : Commanded). c.link.errors) answer_is;
        tags = ap (λ (c : Commanded). c.link.tags) answer_is;
        change = ap (λ (c : Commanded). c.change) answer_is;
      }

pub faulted : (link : Link) (met : Met) (index argument : ℕ) (column : Column) (bit : ErrorBit)
    → Taken link met index argument column → fault link met index argument ≡ Some bit
    → Faulted link met index argument bit (command_of link met index argument)
faulted = faulted_so

-- check 5 finds bit 24
lock_fault : (link : Link) (met : Met) (index argument : ℕ) → passes_lock met.locked index ≡ false
    → fault link met index argument ≡ Some (error_bit 24)
unfolding judged_of
lock_fault link met index argument stopped =
    ap (λ (t : Bool). (unless t (tag_failed (error_bit 24)) (tagging_of link (size_of met.groups) index argument)).error) stopped

pub only_passes_lock : (link : Link) (met : Met) (index argument : ℕ) (column : Column)
    → Taken link met index argument column → passes_lock met.locked index ≡ false
    → Faulted link met index argument (error_bit 24) (command_of link met index argument)
only_passes_lock link met index argument column taken stopped =
    faulted link met index argument column (error_bit 24) taken (lock_fault link met index argument stopped)

module _ (card : Card) (wins selected : Bool) (frame : List ℕ) (lent : Lent) (out : List ℕ) (index argument : ℕ) (reads : Reads card frame lent index argument)
    (m : InMmc card selected index) (column : Column) (taken : Taken card.link (met_by card wins) index argument column) where
  abbrev in_mmc : Commanded
  in_mmc = command_of card.link (met_by card wins) index argument

  pub faulted_frame : (bit : ErrorBit) → fault card.link (met_by card wins) index argument ≡ Some bit
      → Unlent card wins selected frame lent out (heard_in_mmc card.mode in_mmc)
  faulted_frame bit faults =
      unlent_as card wins selected frame lent out index argument reads (heard_in_mmc card.mode in_mmc)
      (heard_in_mmc_lem card wins selected index argument m) (faulted card.link (met_by card wins) index argument column bit taken faults).change

  pub locked_frame : passes_lock card.lock.locked index ≡ false
      → Unlent card wins selected frame lent out (heard_in_mmc card.mode in_mmc)
  locked_frame stopped = faulted_frame (error_bit 24) (lock_fault card.link (met_by card wins) index argument stopped)
