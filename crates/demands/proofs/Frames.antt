-- Demand 1, whole frames: what a frame leaves of what is lent, where its command changes nothing of it. In MMC mode and in SPI, but where
-- `InMmc` stands for a card that takes the command as document 01 has it.
--   judged_as         a frame is judged by its framing, where nothing is lent wrong
--   heard_in_mmc_lem      a card in MMC mode takes a command as document 01 has it, but for a CMD0 with its line low
--   heard_in_spi      a card in SPI takes it as SPI has it with the line low, and does not hear it with the line high
--   unlent_judged, unlent    a frame whose command changes nothing lent leaves the record and the answer of its command, and every lent byte:
--                     however it was read, and as its bytes are read in every mode
--   silenced_frame    a silenced frame sends nothing, leaves the card with its link as the command leaves it, and every lent byte
--   unchanged_frame   a frame that is silent and unchanged leaves the card equal in every field
--   lost_frame        so does CMD2 at a card that lost it, whatever its state: nothing is sent, and nothing that is lent changes. A card in
--                     SPI whose line is low takes no part: there CMD2 is illegal
--   stepped_stays     a card that hears no command, and no frame that is refused 3, is equal in every field after every frame
--   verdict_unread    a frame that is not CMD2 is judged alike, whether the card wins the line or loses it; in SPI every frame is
-- Assumes nothing.
use mathlib.Core.Path.{◌≡◌, refl, sym, ap, ap₂, ◌∙◌, subst}
use mathlib.Core.Bool.{Bool, true, false, ◌&&◌, ◌||◌}
use mathlib.Core.List.{List}
use Prim.Native.Nat.{ℕ}
use borrow.Author.Tests.{ne_eqb}
use lib.Dec.{eqb}
use lib.ListN.{length}
use Rattle.base.proofs.Cases.{cases, guarded, opposite}
use Rattle.base.specs.Choice.{pick, unless}
use Rattle.base.specs.Refusals.{by}
use Rattle.card.specs.Frame.{FrameJudged, frame_refused, commanded, framed, frame_judged, frame_stepped, spares, spared_told, changed_by}
use Rattle.card_blocks.specs.Replies.{done}
use Rattle.card_blocks.specs.declared.Stepped.{Stepped}
use Rattle.card.specs.Step.{step_of}
use Rattle.card.specs.declared.Call.TheVariants.{Frame}
use Rattle.command.proofs.Verdict.{any_wins, lost_unchanged}
use Rattle.command.specs.Answers.{silent}
use Rattle.command.specs.Command.{met_by, command_of}
use Rattle.command.specs.Obey.{acted_of}
use Rattle.command.specs.declared.Change.{Change}
use Rattle.command.specs.declared.Change.TheVariants.{Nothing}
use Rattle.command.specs.declared.Commanded.{Commanded}
use Rattle.card_record.specs.declared.Card.{Card}
use Rattle.card_record.specs.declared.Link.{Link}
use Rattle.card_record.specs.declared.Sent.TheVariants.{Nothing as Unsent}
use Rattle.moves.specs.declared.Move.{Move}
use Rattle.moves.specs.declared.Move.TheVariants.{Ignored, Silent, Illegal, To}
use Rattle.spi.proofs.Laws.{mmc_heard, spi_high}
use Rattle.spi.specs.Hearing.{unheard, heard_in_mmc, taken_in, moved_in, spi_heard, as_spi, heard_of, damaged_of, crc_passes}
use Rattle.spi.specs.declared.Heard.{Heard}
use Rattle.spi_moves.specs.Moves.{row_of, move_of}
use Rattle.states.specs.States.{column_of}
use Rattle.wire.proofs.FrameTheorems.{framing}
use Rattle.store.proofs.OnceLent.{once_lent_lem}
use Rattle.store.specs.Lent.{Lent, Seen, seen, lending_of, once_lent}
use Rattle.wire.specs.Frames.{framing_of, checked, as_fields, as_command}
use Rattle.wire.specs.Frames as wire
use Rattle.demands.specs.Silenced.{Reads, InMmc, Unlent}
use Rattle.std.specs.Prelude.{Result, Option, Ok, Err, None}
use Rattle.base.specs.declared.Refusal.{Refusal}
use Rattle.wire.specs.declared.Fields.{Fields}

-- a frame at a card that is lent what is right for it
pub judged_as : (card : Card) (wins selected : Bool) (frame : List ℕ) (seen : Seen) → lending_of seen card.registers.groups ≡ Ok tt
    → (framing : Result Fields Refusal) → framing_of frame ≡ framing → frame_judged card wins selected frame seen ≡ framed card wins selected framing
unfolding frame_judged
judged_as card wins selected frame seen right framing e =
    ap (λ (l : Result Unit Refusal). once_lent l (frame_refused card) (framed card wins selected (framing_of frame))) right ∙ ap (framed card wins selected) e

-- ---- a command, by mode
module _ (card : Card) (wins selected : Bool) (index argument : ℕ) where
  -- the command as this card takes it, and as MMC mode and SPI have it
  abbrev pub heard_at : Heard
  heard_at = heard_of card.mode selected card.link (met_by card wins) index argument

  abbrev pub commanded_at : Commanded
  commanded_at = command_of card.link (met_by card wins) index argument

  abbrev pub spi_at : Heard
  spi_at = spi_heard card.mode card.link (met_by card wins) index argument

  pub heard_in_mmc_lem : InMmc card selected index → heard_at ≡ heard_in_mmc card.mode commanded_at
  heard_in_mmc_lem m =
      mmc_heard card.mode card.link (met_by card wins) index argument selected m.mmc
      (ap (λ (h : Bool). selected && (h || eqb index 0)) m.mmc ∙ m.enters_not)

pub heard_in_spi : (card : Card) (wins selected : Bool) (index argument : ℕ) → card.mode.spi ≡ true
    → heard_at card wins selected index argument ≡ pick selected (spi_at card wins selected index argument) (unheard card.mode card.link)
unfolding heard_of
heard_in_spi card wins true index argument here =
    ap (λ (h : Bool).
    pick (h || eqb index 0) (spi_at card wins true index argument)
    (pick h (unheard card.mode card.link) (heard_in_mmc card.mode (commanded_at card wins true index argument)))) here
heard_in_spi card wins false index argument here = spi_high card.mode card.link (met_by card wins) index argument here

-- ---- whole frames
module _ (card : Card) (wins selected : Bool) (frame : List ℕ) (lent : Lent) (out : List ℕ) (heard : Heard)
    (judged : frame_judged card wins selected frame (seen lent) ≡ commanded card (Ok None) heard) where
  pub unlent_judged : heard.change ≡ Nothing → Unlent card wins selected frame lent out heard
  unfolding frame_stepped
  unlent_judged same =
      let kept : (frame_judged card wins selected frame (seen lent)).change ≡ Nothing = ap (λ (j : FrameJudged). j.change) judged ∙ same in
      record {
        step =
            ap (λ (c : Change). spared_told (frame_judged card wins selected frame (seen lent)).stepped (spares card (seen lent) c)) kept
            ∙ ap (λ (j : FrameJudged). j.stepped) judged;
        lent_kept = ap (λ (c : Change). changed_by card c lent) kept;
        output_kept = refl;
      }

module _ (card : Card) (wins selected : Bool) (frame : List ℕ) (lent : Lent) (out : List ℕ) (index argument : ℕ) (reads : Reads card frame lent index argument) where
  abbrev given : Heard
  given = heard_at card wins selected index argument

  judged : frame_judged card wins selected frame (seen lent) ≡ commanded card (Ok None) given
  unfolding wire.frame_of
  judged =
      judged_as card wins selected frame (seen lent) reads.right (Ok (as_fields index argument true)) (framing (framing_of frame) index argument reads.command)

  pub unlent : given.change ≡ Nothing → Unlent card wins selected frame lent out given
  unlent = unlent_judged card wins selected frame lent out given judged

  -- so a command that is heard as something which changes nothing lent
  pub unlent_as : (heard : Heard) → given ≡ heard → heard.change ≡ Nothing → Unlent card wins selected frame lent out heard
  unlent_as heard e same = rw e at (unlent (ap (λ (h : Heard). h.change) e ∙ same))

  module _ (m : InMmc card selected index) where
    abbrev in_mmc : Commanded
    in_mmc = commanded_at card wins selected index argument

    pub silenced_frame : (link : Link) → in_mmc ≡ silent link → Unlent card wins selected frame lent out (heard_in_mmc card.mode (silent link))
    silenced_frame link e =
        unlent_as (heard_in_mmc card.mode (silent link)) (heard_in_mmc_lem card wins selected index argument m ∙ ap (heard_in_mmc card.mode) e) refl

    pub unchanged_frame : in_mmc ≡ silent card.link → step_of card (Frame wins selected) frame (seen lent) (length out) ≡ done card
    unchanged_frame e = (silenced_frame card.link e).step

-- ---- a frame that is not heard
module _ (card : Card) (wins selected : Bool) where
  -- a frame judged that leaves the card, sends nothing, and has nothing to change
  abbrev pub Stays : FrameJudged → Type 0
  Stays j = (j.stepped.card ≡ card) × (j.stepped.reply.sent ≡ Unsent) × (j.change ≡ Nothing)

  abbrev pub Unheard : Heard → Type 0
  Unheard heard = heard ≡ unheard card.mode card.link

  unheard_stays : (outcome : Result (Option ℕ) Refusal) (heard : Heard) → Unheard heard → Stays (commanded card outcome heard)
  unheard_stays outcome heard e = subst (λ (h : Heard). Stays (commanded card outcome h)) (sym e) (refl, refl, refl)

  -- a card that hears no command, and no frame that is refused 3
  module _ (deaf : (index argument : ℕ) → Unheard (heard_at card wins selected index argument)) (undamaged : Unheard (damaged_of card.mode selected card.link)) where
    framed_stays : (framing : Result Fields Refusal) → Stays (framed card wins selected framing)
    framed_stays (Err refusal) = (refl, refl, refl)
    framed_stays (Ok fields) =
        guarded Stays (crc_passes card.mode fields.index fields.crc_right)
        (λ t. unheard_stays (Err (by 3)) (damaged_of card.mode selected card.link) undamaged)
        (λ t. unheard_stays (Ok None) (heard_at card wins selected fields.index fields.argument) (deaf fields.index fields.argument))

    pub judged_stays : (frame : List ℕ) (seen : Seen) → Stays (frame_judged card wins selected frame seen)
    unfolding frame_judged
    judged_stays frame seen =
        once_lent_lem seen card.registers.groups Stays (frame_refused card) (refl, refl, refl) (λ t. framed_stays (framing_of frame))

    -- so with every frame it is equal in every field, and sends nothing
    pub stepped_stays : (frame : List ℕ) (seen : Seen)
        → ((frame_stepped card wins selected frame seen).card ≡ card) × ((frame_stepped card wins selected frame seen).reply.sent ≡ Unsent)
    unfolding frame_stepped
    stepped_stays frame seen =
        let (same, unsent, kept) = judged_stays frame seen in
        let told : frame_stepped card wins selected frame seen ≡ (frame_judged card wins selected frame seen).stepped =
        ap (λ (c : Change). spared_told (frame_judged card wins selected frame seen).stepped (spares card seen c)) kept in
        (ap (λ (s : Stepped). s.card) told ∙ same, ap (λ (s : Stepped). s.reply.sent) told ∙ unsent)

-- ---- a lost line
-- a card that is not in SPI with its line low does not hear a CMD2 that it lost
lost_unheard : (card : Card) (selected : Bool) (argument : ℕ) → (card.mode.spi && selected) ≡ false
    → heard_at card false selected 2 argument ≡ unheard card.mode card.link
lost_unheard card selected argument apart =
    cases card.mode.spi
    (λ (here : card.mode.spi ≡ true).
    let high : selected ≡ false = ap (λ (h : Bool). h && selected) (sym here) ∙ apart in
    heard_in_spi card false selected 2 argument here
    ∙ ap (λ (s : Bool). pick s (spi_at card false selected 2 argument) (unheard card.mode card.link)) high)
    (λ (here : card.mode.spi ≡ false).
    heard_in_mmc_lem card false selected 2 argument (record { mmc = here; enters_not = never_both selected })
    ∙ ap (heard_in_mmc card.mode) (lost_unchanged card argument))
  where
    never_both : (b : Bool) → (b && false) ≡ false
    never_both true = refl
    never_both false = refl

pub lost_frame : (card : Card) (selected : Bool) (frame : List ℕ) (lent : Lent) (out : List ℕ) (argument : ℕ) → Reads card frame lent 2 argument
    → (card.mode.spi && selected) ≡ false
    → (step_of card (Frame false selected) frame (seen lent) (length out) ≡ done card)
    × Unlent card false selected frame lent out (unheard card.mode card.link)
lost_frame card selected frame lent out argument reads apart =
    let kept =
    unlent_as card false selected frame lent out 2 argument reads (unheard card.mode card.link) (lost_unheard card selected argument apart) refl
    in (kept.step, kept)

-- ---- the verdict
module _ (card : Card) (selected v w : Bool) where
  moved_same : (index argument : ℕ) (move : Move)
      → moved_in card.mode card.link (met_by card v) index argument move ≡ moved_in card.mode card.link (met_by card w) index argument move
  unfolding taken_in acted_of
  moved_same index argument Ignored = refl
  moved_same index argument Silent = refl
  moved_same index argument Illegal = refl
  moved_same index argument (To column) = refl

  -- SPI never asks who won
  spi_same : (index argument : ℕ) → spi_at card v selected index argument ≡ spi_at card w selected index argument
  unfolding spi_heard
  spi_same index argument = moved_same index argument (move_of (row_of index) (column_of card.link.state))

  heard_same : (index argument : ℕ) → (card.mode.spi ≡ false → eqb index 2 ≡ false)
      → heard_at card v selected index argument ≡ heard_at card w selected index argument
  unfolding heard_of
  heard_same index argument other =
      cases card.mode.spi
      (λ (here : card.mode.spi ≡ true).
      heard_in_spi card v selected index argument here
      ∙ ap (λ (h : Heard). pick selected h (unheard card.mode card.link)) (spi_same index argument)
      ∙ sym (heard_in_spi card w selected index argument here))
      (λ (here : card.mode.spi ≡ false).
      ap₂ (λ (h : Heard) (c : Commanded).
      pick (as_spi card.mode selected index) h (pick card.mode.spi (unheard card.mode card.link) (heard_in_mmc card.mode c)))
      (spi_same index argument) (any_wins card v w index argument (other here)))

  fields_same : (index argument : ℕ) (right : Bool) → (card.mode.spi ≡ false → (word : ℕ) → checked (Ok (as_fields index argument right)) ≡ Ok (as_command 2 word) → ⊥)
      → framed card v selected (Ok (as_fields index argument right)) ≡ framed card w selected (Ok (as_fields index argument right))
  fields_same index argument true other =
      ap (commanded card (Ok None))
      (heard_same index argument (λ here. ne_eqb index 2 (λ e. other here argument (ap (λ (k : ℕ). Ok (as_command k argument)) e))))
  fields_same index argument false other =
      cases card.mode.spi
      (λ (here : card.mode.spi ≡ true).
      ap (λ (h : Heard). unless (crc_passes card.mode index false) (commanded card (Err (by 3)) (damaged_of card.mode selected card.link)) (commanded card (Ok None) h))
      (heard_same index argument (λ mmc. opposite card.mode.spi here mmc)))
      (λ (here : card.mode.spi ≡ false). rw here)

  framed_same : (framing : Result Fields Refusal) → (card.mode.spi ≡ false → (argument : ℕ) → checked framing ≡ Ok (as_command 2 argument) → ⊥)
      → framed card v selected framing ≡ framed card w selected framing
  framed_same (Err refusal) other = refl
  framed_same (Ok fields) other = fields_same fields.index fields.argument fields.crc_right other

  pub verdict_unread : (frame : List ℕ) (seen : Seen) → (card.mode.spi ≡ false → (argument : ℕ) → wire.frame_of frame ≡ Ok (as_command 2 argument) → ⊥)
      → frame_judged card v selected frame seen ≡ frame_judged card w selected frame seen
  unfolding frame_judged wire.frame_of
  verdict_unread frame seen other =
      ap (once_lent (lending_of seen card.registers.groups) (frame_refused card)) (framed_same (framing_of frame) other)
