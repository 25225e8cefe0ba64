-- What a frame at a card leaves in C, by what became of it. In the order of the call's promise: its number; the thirteen numbers, and that
-- they stand for the next record, with the bytes; what else it was lent. (LeftBlocks.antt has that of blocks.)
--   unlent_leaves, unframed_leaves    12, and 1 and 2 of a frame, leave the record
--   lent_by                           what is lent, judged by the number of groups before any record is taken in
--   frame_unlent, frame_unframed      a frame: 12; 1 and 2
--   frame_damaged, frame_heard        3; a command
-- Assumes nothing.
use mathlib.Core.Path.{◌≡◌, refl, sym, ap, ap₂, subst, ◌∙◌}
use mathlib.Core.Bool.{Bool, true, false}
use mathlib.Core.List.{List, ◌++◌}
use Prim.Native.Nat.{ℕ}
use lib.Dec.{eqb}
use lib.ListN.{length, drop, set}
use Rattle.firmware.specs.Numbers.{number_told}
use Rattle.base.proofs.Cases.{guarded, clash}
use Rattle.base.specs.Choice.{unless}
use Rattle.base.specs.Refusals.{number_of, by}
use Rattle.base.specs.declared.Refusal.{Refusal}
use Rattle.card.specs.Frame.{FrameJudged, frame_refused, commanded, framed, frame_judged, spared_told, skip_told, spares, frame_told, changed, changed_by, command_heard}
use Rattle.card_blocks.specs.Replies.{replied}
use Rattle.card.specs.declared.Answered.{Answered}
use Rattle.card_blocks.specs.declared.Stepped.{Stepped}
use Rattle.command.specs.Command.{met_by}
use Rattle.command.specs.declared.Change.{Change}
use Rattle.card_record.specs.Sending.{sent_bytes}
use Rattle.card_record.specs.declared.Sent.{Sent}
use Rattle.card_record.specs.Record.{csd_protects, with_link, with_mode}
use Rattle.card_record.specs.declared.Card.{Card}
use Rattle.card_record.specs.declared.Link.{Link}
use Rattle.card_record.specs.declared.Mode.{Mode}
use Rattle.crc.specs.Bits.{bits}
use Rattle.crossing.proofs.Crossing.{errors_told}
use Rattle.crossing.specs.Record.{groups_of, link_of, mode_of, lock_of, registers_of, card_of, link_numbers, mode_numbers}
use Rattle.spi.proofs.Laws.{damage_unchanged, damage_keeps_mode, damage_errors}
use Rattle.spi.specs.Hearing.{heard_of, crc_passes, damaged_of}
use Rattle.spi.specs.declared.Heard.{Heard}
use Rattle.store.specs.Lent.{Lent, Seen, seen, lent_right, lending_of, once_lent}
use Rattle.wire.specs.Frames.{field, fields_of, framing_of, as_fields}
use Rattle.firmware.specs.Answers.{met_at, byte_sent, leaves_record, frame_numbers, fronted}
use Rattle.firmware.proofs.Sends.{damaged_byte}
use Rattle.firmware.proofs.Told.{frame_left, linked}
use Rattle.std.specs.Prelude.{Result, Option, Ok, Err, None}
use Rattle.wire.specs.declared.Fields.{Fields}

abbrev Unlent : Refusal → Result Unit Refusal → Type 0
Unlent refusal lending = lending ≡ Err refusal → leaves_record (number_of refusal) ≡ true

unlent_by : (of refusal : Refusal) → leaves_record (number_of of) ≡ true → Unlent refusal (Err of)
unlent_by of refusal leaves e =
    let same : refusal ≡ of = cc in
    ap (λ (r : Refusal). leaves_record (number_of r)) same ∙ leaves

pub unlent_leaves : (of : Seen) (groups : ℕ) (refusal : Refusal) → lending_of of groups ≡ Err refusal → leaves_record (number_of refusal) ≡ true
unlent_leaves of groups refusal = guarded (Unlent refusal) (lent_right of groups) (λ t. unlent_by (by 12) refusal refl) (λ t e. clash cc)

abbrev Unheard : Refusal → Result Fields Refusal → Type 0
Unheard refusal framing = framing ≡ Err refusal → leaves_record (number_of refusal) ≡ true

unheard_by : (of refusal : Refusal) → leaves_record (number_of of) ≡ true → Unheard refusal (Err of)
unheard_by of refusal leaves e =
    let same : refusal ≡ of = cc in
    ap (λ (r : Refusal). leaves_record (number_of r)) same ∙ leaves

pub unframed_leaves : (frame : List ℕ) (refusal : Refusal) → framing_of frame ≡ Err refusal → leaves_record (number_of refusal) ≡ true
unfolding framing_of fields_of
unframed_leaves frame refusal =
    guarded (Unheard refusal) (eqb (length frame) 6) (λ t. unheard_by (by 1) refusal refl)
    (λ t.
    guarded (Unheard refusal) (eqb (field (bits frame) 0 1) 0) (λ u. unheard_by (by 2) refusal refl)
    (λ u.
    guarded (Unheard refusal) (eqb (field (bits frame) 1 1) 1) (λ v. unheard_by (by 2) refusal refl)
    (λ v. guarded (Unheard refusal) (eqb (field (bits frame) 47 1) 1) (λ w. unheard_by (by 2) refusal refl) (λ w e. clash cc))))

module _ (numbers cid csd password : List ℕ) where
  abbrev card : Card
  card = card_of numbers cid csd password

  -- what is lent is judged by the number of groups, before any record is taken in
  pub lent_by : (lent : Lent) (groups : ℕ) (lending value : Result Unit Refusal) → groups ≡ groups_of numbers → lending ≡ lending_of (seen lent) groups
      → lending ≡ value → lending_of (seen lent) card.registers.groups ≡ value
  unfolding card_of registers_of
  lent_by lent groups lending value is checked told = ap (lending_of (seen lent)) (sym is) ∙ sym checked ∙ told

  -- ---- a frame
  module _ (wins selected : Bool) (frame : List ℕ) (lent : Lent) where
    abbrev By : Stepped → Lent → ℕ → List ℕ → Lent → List ℕ → List ℕ → ℕ → Type 0
    By stepped left r after now answer told sent =
        (r ≡ number_told stepped.reply.outcome)
        × (((after ≡ frame_numbers r stepped.card numbers) × (card_of after cid csd password ≡ stepped.card))
        × ((now ≡ left)
        × ((told ≡ fronted (sent_bytes card.registers stepped.reply.sent) answer) × (sent ≡ length (sent_bytes card.registers stepped.reply.sent)))))

    abbrev Judged : FrameJudged → ℕ → List ℕ → Lent → List ℕ → List ℕ → ℕ → Type 0
    Judged judged = By (frame_told card (seen lent) judged) (changed_by card judged.change lent)

    abbrev Left : ℕ → List ℕ → Lent → List ℕ → List ℕ → ℕ → Type 0
    Left = Judged (frame_judged card wins selected frame (seen lent))

    judged_by : (lending : Result Unit Refusal) (framing : Result Fields Refusal) → lending_of (seen lent) card.registers.groups ≡ lending → framing_of frame ≡ framing
        → once_lent lending (frame_refused card) (framed card wins selected framing) ≡ frame_judged card wins selected frame (seen lent)
    unfolding frame_judged
    judged_by lending framing e f =
        sym
        (ap (λ (l : Result Unit Refusal). once_lent l (frame_refused card) (framed card wins selected (framing_of frame))) e
        ∙ ap (λ (g : Result Fields Refusal). once_lent lending (frame_refused card) (framed card wins selected g)) f)

    refused_by_lem : (refusal : Refusal) (r : ℕ) (answer : List ℕ) → leaves_record (number_of refusal) ≡ true → r ≡ number_of refusal
        → Judged (frame_refused card refusal) r numbers lent answer answer 0
    unfolding sent_bytes
    refused_by_lem refusal r answer leaves e = (e, ((frame_left r card numbers (ap leaves_record e ∙ leaves), refl), (refl, (refl, refl))))

    pub frame_unlent : (refusal : Refusal) (r : ℕ) (answer : List ℕ) → lending_of (seen lent) card.registers.groups ≡ Err refusal
        → r ≡ number_of refusal → Left r numbers lent answer answer 0
    frame_unlent refusal r answer e n =
        subst (λ (j : FrameJudged). Judged j r numbers lent answer answer 0) (judged_by (Err refusal) (framing_of frame) e refl)
        (refused_by_lem refusal r answer (unlent_leaves (seen lent) card.registers.groups refusal e) n)

    pub frame_unframed : (refusal : Refusal) (r : ℕ) (answer : List ℕ) → lending_of (seen lent) card.registers.groups ≡ Ok tt
        → framing_of frame ≡ Err refusal → r ≡ number_of refusal → Left r numbers lent answer answer 0
    frame_unframed refusal r answer e f n =
        subst (λ (j : FrameJudged). Judged j r numbers lent answer answer 0) (judged_by (Ok tt) (Err refusal) e f)
        (refused_by_lem refusal r answer (unframed_leaves frame refusal f) n)

    -- the CRC7, where it counts
    judged_crc : (index argument : ℕ) (right passes : Bool) → lending_of (seen lent) card.registers.groups ≡ Ok tt
        → framing_of frame ≡ Ok (as_fields index argument right) → crc_passes card.mode index right ≡ passes
        → unless passes (commanded card (Err (by 3)) (damaged_of card.mode selected card.link))
        (commanded card (Ok None) (heard_of card.mode selected card.link (met_by card wins) index argument))
        ≡ frame_judged card wins selected frame (seen lent)
    judged_crc index argument right passes e f c =
        ap (λ (p : Bool).
        unless p (commanded card (Err (by 3)) (damaged_of card.mode selected card.link))
        (commanded card (Ok None) (heard_of card.mode selected card.link (met_by card wins) index argument))) (sym c)
        ∙ judged_by (Ok tt) (Ok (as_fields index argument right)) e f

    abbrev damaged : Heard
    damaged = damaged_of (mode_of numbers) selected (link_of numbers)

    pub frame_damaged : (index argument : ℕ) (right : Bool) (r : ℕ) (answer told after : List ℕ) (sent : ℕ)
        → lending_of (seen lent) card.registers.groups ≡ Ok tt → framing_of frame ≡ Ok (as_fields index argument right)
        → crc_passes (mode_of numbers) index right ≡ false → r ≡ 3 → after ≡ set numbers 4 damaged.link.errors.bits
        → link_of after ≡ damaged.link → told ≡ fronted (byte_sent damaged.sent) answer → sent ≡ length (byte_sent damaged.sent) → Left r after lent answer told sent
    unfolding card_of
    frame_damaged index argument right r answer told after sent e f wrong n is stands bytes count =
        let one = sym (damaged_byte (registers_of numbers cid csd) (mode_of numbers) selected (link_of numbers)) in
        let next = with_mode (with_link card damaged.link) damaged.mode in
        let shows = damage_errors (mode_of numbers) selected (link_of numbers) in
        subst (λ (j : FrameJudged). Judged j r after lent answer told sent) (judged_crc index argument right false e f wrong)
        (subst
        (λ (c : Change).
        By (spared_told (commanded card (Err (by 3)) damaged).stepped (spares card (seen lent) c)) (changed_by card c lent) r after lent answer told sent)
        (sym (damage_unchanged (mode_of numbers) selected (link_of numbers))) (
          n,
          (
            (
              is ∙ ap (λ (k : ℕ). frame_numbers k next numbers) (sym n),
              ap (λ (l : List ℕ). card_of l cid csd password) is
                  ∙ errors_told numbers damaged.link.errors cid csd password (sym (ap link_of is) ∙ stands ∙ shows)
                  ∙ ap₂ (λ (l : Link) (m : Mode). with_mode (with_link card l) m) (sym shows)
                  (sym (damage_keeps_mode (mode_of numbers) selected (link_of numbers))),
            ),
            (refl, (bytes ∙ ap (λ (l : List ℕ). fronted l answer) one, count ∙ ap length one)),
          ),
        ))

    spared : (link : Link) (mode : Mode) (outcome : Result (Option ℕ) Refusal) (sent : Sent) (skips : Bool)
        → replied (with_mode (with_link card (skip_told link skips)) mode) outcome sent
        ≡ spared_told (replied (with_mode (with_link card link) mode) outcome sent) skips
    spared link mode outcome sent true = refl
    spared link mode outcome sent false = refl

    abbrev heard : ℕ → ℕ → Answered
    heard index argument = command_heard (mode_of numbers) selected (link_of numbers) (met_at numbers wins) (csd_protects csd) index argument (seen lent)

    pub frame_heard : (index argument : ℕ) (right : Bool) (answer told after : List ℕ) (now : Lent) (sent : ℕ)
        → lending_of (seen lent) card.registers.groups ≡ Ok tt → framing_of frame ≡ Ok (as_fields index argument right)
        → crc_passes (mode_of numbers) index right ≡ true
        → after ≡ link_numbers (heard index argument).link ++ mode_numbers (heard index argument).mode ++ drop 9 numbers
        → (link_of after ≡ (heard index argument).link) × (mode_of after ≡ (heard index argument).mode)
        → now ≡ changed (link_of numbers).tags (csd_protects csd) (heard_of (mode_of numbers) selected (link_of numbers) (met_at numbers wins) index argument).change lent
        → told ≡ fronted (sent_bytes (registers_of numbers cid csd) (heard index argument).sent) answer
        → sent ≡ length (sent_bytes (registers_of numbers cid csd) (heard index argument).sent) → Left 0 after now answer told sent
    unfolding command_heard card_of registers_of lock_of
    frame_heard index argument right answer told after now sent e f passes is stands changes bytes count =
        let given = heard_of (mode_of numbers) selected (link_of numbers) (met_at numbers wins) index argument in
        subst (λ (j : FrameJudged). Judged j 0 after now answer told sent) (judged_crc index argument right true e f passes)
        (subst (λ (s : Stepped). By s (changed_by card given.change lent) 0 after now answer told sent)
        (spared given.link given.mode (Ok None) given.sent (spares card (seen lent) given.change))
        (refl, (linked numbers cid csd password (heard index argument).link (heard index argument).mode after is stands, (changes, (bytes, count)))))
