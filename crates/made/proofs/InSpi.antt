-- Every command of SPI keeps a card made: what a taken one does (`acted_made`), with the two parts that are the mode's own; and so does a
-- command in either mode, with the select line low or high.
--   left_waits    the error bits that an answer in SPI leaves can wait there
--   heard_made    after a command of any index and argument, whatever the line, in MMC mode and in SPI
--   damaged_heard_made   and after a frame whose CRC7 is wrong and counts
-- Assumes nothing.
use mathlib.Core.Path.{◌≡◌, refl, sym, ap, ap₂, ◌∙◌, subst, subst⁻¹}
use mathlib.Core.Bool.{Bool, true, false, not, ◌&&◌, ◌||◌}
use mathlib.Core.List.{[], ◌∷◌}
use Prim.Native.Nat.{ℕ, ◌^◌}
use borrow.Author.Tests.{eqb-true}
use lib.Bits.{bit_and, bit_or}
use lib.Dec.{T, eqb}
use Rattle.base.proofs.Cases.{cases, picked, guarded, opposite}
use Rattle.card_record.specs.Power.{fresh_link}
use Rattle.card_record.specs.Record.{with_errors}
use Rattle.card_record.specs.declared.Link.{Link}
use Rattle.card_record.specs.declared.Mode.{Mode}
use Rattle.command.specs.Command.{damaged_link, command_of}
use Rattle.command.specs.Obey.{drops_tags, judged_of, reset_told, state_at, awaited_by, obeyed, after_checks, acted_of}
use Rattle.command.specs.declared.Acted.{Acted}
use Rattle.command.specs.declared.Met.{Met}
use Rattle.moves.specs.Indices.{among}
use Rattle.moves.specs.Moves.{in_state}
use Rattle.moves.specs.declared.Move.{Move}
use Rattle.moves.specs.declared.Move.TheVariants.{Ignored, Silent, Illegal, To}
use Rattle.spi.proofs.Laws.{mmc_heard, in_spi_lem, is_inactive, gone, reset, reset_inactive}
use Rattle.spi.specs.Answers.{response_of, left_in, answered_in, faulted}
use Rattle.spi.specs.Hearing.{unheard, mode_after, taken_in, moved_in, spi_heard, as_spi, heard_of, damaged_of}
use Rattle.spi.specs.declared.Heard.{Heard}
use Rattle.spi.specs.declared.Response.{Response}
use Rattle.spi.specs.declared.Response.TheVariants.{R1, R2, R3}
use Rattle.spi_answers.proofs.Masks.{masked, r1_mask, r2_mask}
use Rattle.spi_moves.proofs.Laws.{stays_in_five}
use Rattle.spi_moves.specs.Moves.{five, row_of, move_of}
use Rattle.states.specs.States.{column_of}
use Rattle.states.specs.declared.Column.{Column}
use Rattle.states.specs.declared.Column.TheVariants.{Idle, Ready, Ident, Stby, Tran, Data, Rcv, Prg, Dis, Ina}
use Rattle.states.specs.declared.State.{State}
use Rattle.status.proofs.Bits.{and_assoc, and_or}
use Rattle.status.specs.ErrorBits.{place_of, error_bit, word_with}
use Rattle.status.specs.Status.{with_bit}
use Rattle.status.specs.declared.ErrorBit.{ErrorBit}
use Rattle.status.specs.declared.ErrorBit.TheVariants as bit
use Rattle.status.specs.declared.Errors.{Errors}
use Rattle.tags.specs.Tagging.{any_of}
use Rattle.tags.specs.declared.Tagging.{Tagging}
use Rattle.tags.specs.declared.Tags.{Tags}
use Rattle.made.proofs.Acted.{acted_made}
use Rattle.made.proofs.Commands.{link_made}
use Rattle.made.proofs.LeadingInSpi.{leading}
use Rattle.made.proofs.Links.{fresh_made, errors_made, damaged_made}
use Rattle.made.specs.Made.{pending_bits, Pending, MadeLink, MadeMode}
use Rattle.std.specs.Prelude.{Option, Some, None}

-- ---- the answer
-- every error bit that has a name
abbrev named : ℕ
named =
    word_with (error_bit 31 ∷ error_bit 30 ∷ error_bit 29 ∷ error_bit 28 ∷ error_bit 27 ∷ error_bit 26 ∷ error_bit 24 ∷ error_bit 23 ∷ error_bit 22 ∷ error_bit 15 ∷ error_bit 13 ∷ [])

abbrev Named : Errors → Type 0
Named errors = bit_and errors.bits named ≡ errors.bits

one_named : (b : ErrorBit) → bit_and (2 ^ place_of b) named ≡ 2 ^ place_of b
one_named bit.OutOfRange = refl
one_named bit.AddressError = refl
one_named bit.BlockLenError = refl
one_named bit.EraseSeqError = refl
one_named bit.EraseParam = refl
one_named bit.WpViolation = refl
one_named bit.LockUnlockFailed = refl
one_named bit.ComCrcError = refl
one_named bit.IllegalCommand = refl
one_named bit.WpEraseSkip = refl
one_named bit.EraseReset = refl

set_named : (errors : Errors) (b : ErrorBit) → Named errors → Named (with_bit errors b)
set_named errors b h = and_or errors.bits (2 ^ place_of b) named ∙ ap₂ bit_or h (one_named b)

pending_named : (errors : Errors) → Pending true errors → Named errors
pending_named errors h =
    let listed : ℕ = word_with (pending_bits true) in
    ap (λ (b : ℕ). bit_and b named) (sym h) ∙ and_assoc errors.bits listed named ∙ h

-- of named bits, those that a mask leaves can wait, if it leaves none that can't
masked_waits : (errors : Errors) (mask : ℕ) → Named errors → bit_and (bit_and named mask) (word_with (pending_bits true)) ≡ bit_and named mask
    → Pending true (masked errors mask)
masked_waits errors mask h few =
    let b : ℕ = errors.bits in
    let left : bit_and b mask ≡ bit_and b (bit_and named mask) = ap (λ (x : ℕ). bit_and x mask) (sym h) ∙ and_assoc b named mask in
    ap (λ (x : ℕ). bit_and x (word_with (pending_bits true))) left
    ∙ and_assoc b (bit_and named mask) (word_with (pending_bits true))
    ∙ ap (bit_and b) few
    ∙ sym left

left_waits : (response : Response) (errors : Errors) → Named errors → Pending true (left_in response errors)
left_waits R1 errors h = subst (Pending true) (sym (r1_mask errors)) (masked_waits errors 0x0F3FDFFF h refl)
left_waits R2 errors h = subst (Pending true) (sym (r2_mask errors)) (masked_waits errors 0x023F5FFF h refl)
left_waits R3 errors h = subst (Pending true) (sym (r1_mask errors)) (masked_waits errors 0x0F3FDFFF h refl)

-- ---- what a taken command does
module _ (link : Link) (met : Met) (index argument : ℕ) where
  module _ (pending : Pending true link.errors) where
    told_named : Named (reset_told link index)
    unfolding reset_told
    told_named =
        let own : Named link.errors = pending_named link.errors pending in
        guarded Named (drops_tags index) (λ t. own) (λ t. guarded Named (any_of link.tags) (λ u. own) (λ u. set_named link.errors (error_bit 13) own))

    checked_named : (column : Column) (tags : Tags) (error : Option ErrorBit) → Named (after_checks link index argument column tags error).errors
    unfolding after_checks
    checked_named column tags None = told_named
    checked_named column tags (Some b) = set_named (reset_told link index) b told_named

    acted_named : (column : Column) → Named (acted_of link met index argument column).errors
    unfolding acted_of
    acted_named column =
        let judged : Tagging = judged_of link met.groups met.locked index argument in
        picked (λ (a : Acted). Named a.errors) (eqb index 0) (λ t. refl) (λ t. checked_named column judged.tags judged.error)

  -- a state that a card reaches in SPI
  abbrev Reached : State → Type 0
  Reached state = in_state (column_of state) five ≡ true

  module _ (here : Reached link.state) where
    awaited_reached : Reached (awaited_by index argument link.state)
    unfolding awaited_by
    awaited_reached =
        picked Reached (among index (17 ∷ [])) (λ t. refl)
        (λ t.
        picked Reached (among index (18 ∷ [])) (λ t. refl)
        (λ t.
        picked Reached (among index (24 ∷ [])) (λ t. refl)
        (λ t.
        picked Reached (among index (25 ∷ [])) (λ t. refl)
        (λ t.
        picked Reached (among index (30 ∷ [])) (λ t. refl)
        (λ t.
        picked Reached (among index (42 ∷ [])) (λ t. refl)
        (λ t.
        picked Reached (among index (9 ∷ [])) (λ t. refl) (λ t. picked Reached (among index (10 ∷ [])) (λ t. refl) (λ t. here))))))))

    at_reached : (column : Column) → T (in_state column five) → Reached (state_at column (awaited_by index argument link.state))
    at_reached Idle h = refl
    at_reached Ready h = absurd h
    at_reached Ident h = absurd h
    at_reached Stby h = absurd h
    at_reached Tran h = refl
    at_reached Data h = awaited_reached
    at_reached Rcv h = awaited_reached
    at_reached Prg h = refl
    at_reached Dis h = absurd h
    at_reached Ina h = absurd h

    checked_reached : (column : Column) (tags : Tags) (error : Option ErrorBit) → T (in_state column five)
        → Reached (after_checks link index argument column tags error).link.state
    unfolding after_checks obeyed
    checked_reached column tags None h = at_reached column h
    checked_reached column tags (Some b) h = here

    acted_reached : (column : Column) → T (in_state column five) → Reached (acted_of link met index argument column).link.state
    unfolding acted_of fresh_link
    acted_reached column h =
        let judged : Tagging = judged_of link met.groups met.locked index argument in
        picked (λ (a : Acted). Reached a.link.state) (eqb index 0) (λ t. refl) (λ t. checked_reached column judged.tags judged.error h)

-- ---- a command
-- what a command leaves is made: the link in the mode that it leaves, and the mode itself
pub record MadeHeard (groups : ℕ) (locked : Bool) (heard : Heard) : Type 0 where
  pub link : MadeLink heard.mode.spi groups locked heard.link
  pub mode : MadeMode heard.mode heard.link.state

module _ (mode : Mode) (link : Link) (met : Met) (index argument : ℕ) (made : MadeLink mode.spi met.groups met.locked link)
    (right : MadeMode mode link.state) where
  abbrev Kept : Heard → Type 0
  Kept = MadeHeard met.groups met.locked

  unheard_kept : Kept (unheard mode link)
  unheard_kept = record { link = made; mode = right }

  -- ---- in SPI
  module _ (here : mode.spi ≡ true) where
    own : MadeLink true met.groups met.locked link
    own = subst (λ (spi : Bool). MadeLink spi met.groups met.locked link) here made

    mode_kept : (mode_after mode index argument).checks ≡ true → (mode_after mode index argument).spi ≡ true
    mode_kept =
        picked (λ (m : Mode). m.checks ≡ true → m.spi ≡ true) (eqb index 0) (λ t c. refl)
        (λ t. picked (λ (m : Mode). m.checks ≡ true → m.spi ≡ true) (eqb index 59) (λ u c. here) (λ u c. here))

    mode_in_spi : (mode_after mode index argument).spi ≡ true
    mode_in_spi =
        picked (λ (m : Mode). m.spi ≡ true) (eqb index 0) (λ t. refl) (λ t. picked (λ (m : Mode). m.spi ≡ true) (eqb index 59) (λ u. here) (λ u. here))

    fault_kept : (b : ErrorBit) → Kept (faulted mode link b)
    unfolding faulted answered_in
    fault_kept b =
        record {
          link = subst⁻¹ (λ (spi : Bool). MadeLink spi met.groups met.locked (with_errors link (left_in R1 (with_bit link.errors b)))) here
              (errors_made true met.groups met.locked link _ own
              (left_waits R1 (with_bit link.errors b) (set_named link.errors b (pending_named link.errors own.errors))));
          mode = right;
        }

    by_move : (move : Move) → move_of (row_of index) (column_of link.state) ≡ move → Kept (moved_in mode link met index argument move)
    unfolding answered_in taken_in
    by_move Ignored e = unheard_kept
    by_move Silent e = unheard_kept
    by_move Illegal e = fault_kept (error_bit 22)
    by_move (To column) e =
        let acted : Acted = acted_of link met index argument column in
        let there : T (in_state column five) = stays_in_five (row_of index) (column_of link.state) column (right.reached here) e in
        record {
          link = subst⁻¹ (λ (spi : Bool). MadeLink spi met.groups met.locked (with_errors acted.link (left_in (response_of index) acted.errors))) mode_in_spi
              (errors_made true met.groups met.locked acted.link _
              (acted_made true link met index argument column own (leading index (column_of link.state) column e))
              (left_waits (response_of index) acted.errors (acted_named link met index argument own.errors column)));
          mode = record { checks = mode_kept; reached = λ s. acted_reached link met index argument (right.reached here) column there };
        }

    spi_kept : (selected : Bool) → Kept (heard_of mode selected link met index argument)
    unfolding spi_heard
    spi_kept selected =
        in_spi_lem mode link met index argument Kept selected here (by_move (move_of (row_of index) (column_of link.state)) refl) unheard_kept

  -- ---- in MMC mode, and from there into SPI
  module _ (here : mode.spi ≡ false) where
    plain : MadeLink false met.groups met.locked link
    plain = subst (λ (spi : Bool). MadeLink spi met.groups met.locked link) here made

    off : {A : Type 0} → mode.checks ≡ true → A
    off c = opposite mode.spi (right.checks c) here

    mmc_kept : (selected : Bool) → as_spi mode selected index ≡ false → Kept (heard_of mode selected link met index argument)
    mmc_kept selected e =
        subst⁻¹ Kept (mmc_heard mode link met index argument selected here e)
        (record {
          link = subst⁻¹ (λ (spi : Bool). MadeLink spi met.groups met.locked (command_of link met index argument).link) here
              (link_made link met index argument plain);
          mode = record { checks = λ c. off c; reached = λ s. opposite mode.spi s here };
        })

  gone_kept : Kept gone
  unfolding fresh_link
  gone_kept = record { link = fresh_made true met.groups met.locked; mode = record { checks = λ c. refl; reached = λ s. refl } }

  entering_kept : index ≡ 0 → Kept (heard_of mode true link met index argument)
  entering_kept zero =
      subst⁻¹ (λ (i : ℕ). Kept (heard_of mode true link met i argument)) zero
      (cases (is_inactive link)
      (λ (e : is_inactive link ≡ true). subst⁻¹ Kept (reset_inactive mode link met argument e) unheard_kept)
      (λ (e : is_inactive link ≡ false). subst⁻¹ Kept (reset mode link met argument e) gone_kept))

  by_line : mode.spi ≡ false → (selected : Bool) → Kept (heard_of mode selected link met index argument)
  by_line here true =
      cases (eqb index 0)
      (λ (e : eqb index 0 ≡ true). entering_kept (eqb-true index 0 e))
      (λ (e : eqb index 0 ≡ false). mmc_kept here true (ap₂ (λ (s i : Bool). s || i) here e))
  by_line here false = mmc_kept here false refl

  pub heard_made : (selected : Bool) → Kept (heard_of mode selected link met index argument)
  heard_made selected =
      cases mode.spi (λ (here : mode.spi ≡ true). spi_kept here selected) (λ (here : mode.spi ≡ false). by_line here selected)

  -- ---- a frame refused 3
  damaged_plain : mode.spi ≡ false → Kept (unheard mode (damaged_link link))
  damaged_plain here =
      record {
        link = subst⁻¹ (λ (spi : Bool). MadeLink spi met.groups met.locked (damaged_link link)) here
            (damaged_made met.groups met.locked link (plain here));
        mode = record { checks = λ c. off here c; reached = λ s. opposite mode.spi s here };
      }

  pub damaged_heard_made : (selected : Bool) → Kept (damaged_of mode selected link)
  unfolding damaged_of
  damaged_heard_made selected =
      picked Kept mode.spi
      (λ (here : mode.spi ≡ true). picked Kept (selected && not (is_inactive link)) (λ low. fault_kept here (error_bit 23)) (λ low. unheard_kept))
      (λ (here : mode.spi ≡ false). damaged_plain here)
