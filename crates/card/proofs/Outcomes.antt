-- What can become of a frame at a card: every kind in one list, with what is known there. What is to be shown of every frame is then
-- shown by cases on the list. (card_blocks has those of blocks.)
--   FrameOutcome, frame_outcome   a frame: refused; damaged; a command
--   told                          a property that telling of a spared sector keeps is one of a frame's step
-- Assumes nothing.
use mathlib.Core.Path.{◌≡◌, refl}
use mathlib.Core.Bool.{Bool, true, false}
use mathlib.Core.List.{List, [], ◌∷◌}
use Prim.Native.Nat.{ℕ}
use lib.Dec.{eqb}
use lib.ListN.{length, take}
use Rattle.base.proofs.Cases.{guarded}
use Rattle.base.specs.Refusals.{refusal_of, by}
use Rattle.command.specs.Command.{met_by}
use Rattle.crc.specs.Bits.{bits}
use Rattle.moves.specs.Indices.{among}
use Rattle.card_record.specs.declared.Card.{Card}
use Rattle.store.proofs.OnceLent.{once_lent_lem}
use Rattle.store.specs.Lent.{Seen, lending_of}
use Rattle.wire.specs.Frames.{crc7_of, field, fields_of, framing_of, as_fields}
use Rattle.card.specs.Frame.{FrameJudged, frame_refused, commanded, framed, frame_judged, spared_told}
use Rattle.card_blocks.specs.declared.Stepped.{Stepped}
use Rattle.spi.specs.Hearing.{heard_of, crc_passes, damaged_of}
use Rattle.std.specs.Prelude.{Result, Ok, Err, None}
use Rattle.base.specs.declared.Refusal.{Refusal}
use Rattle.wire.specs.declared.Fields.{Fields}

-- a frame: 12, 1, 2; 3, where its CRC7 is wrong and counts; a command that was read, its CRC7 right or not counting
pub data FrameOutcome (card : Card) (wins selected : Bool) (frame : List ℕ) (seen : Seen) : FrameJudged → Type 0 where
  unheard : (n : ℕ) → among n (12 ∷ 1 ∷ 2 ∷ []) ≡ true → FrameOutcome card wins selected frame seen (frame_refused card (refusal_of n))
  damaged : (index argument : ℕ) → framing_of frame ≡ Ok (as_fields index argument false) → crc_passes card.mode index false ≡ false
      → FrameOutcome card wins selected frame seen (commanded card (Err (by 3)) (damaged_of card.mode selected card.link))
  commands : (index argument : ℕ) (right : Bool) → framing_of frame ≡ Ok (as_fields index argument right) → crc_passes card.mode index right ≡ true
      → lending_of seen card.registers.groups ≡ Ok tt
      → FrameOutcome card wins selected frame seen
      (commanded card (Ok None) (heard_of card.mode selected card.link (met_by card wins) index argument))

module _ (card : Card) (wins selected : Bool) (frame : List ℕ) (seen : Seen) where
  abbrev Hears : FrameJudged → Type 0
  Hears = FrameOutcome card wins selected frame seen

  module _ (lent : lending_of seen card.registers.groups ≡ Ok tt) where
    -- a framing, where it is the frame's
    abbrev Reads : Result Fields Refusal → Type 0
    Reads framing = framing_of frame ≡ framing → Hears (framed card wins selected framing)

    by_crc : (index argument : ℕ) (right : Bool) → Reads (Ok (as_fields index argument right))
    by_crc index argument true e = commands index argument true e refl lent
    by_crc index argument false e =
        guarded Hears (crc_passes card.mode index false) (λ t. damaged index argument e t) (λ t. commands index argument false e t lent)

    by_bits : (sent : List ℕ) → Reads (fields_of sent)
    unfolding fields_of
    by_bits sent =
        guarded Reads (eqb (field sent 0 1) 0) (λ t e. unheard 2 refl)
        (λ t.
        guarded Reads (eqb (field sent 1 1) 1) (λ u e. unheard 2 refl)
        (λ u.
        guarded Reads (eqb (field sent 47 1) 1) (λ v e. unheard 2 refl)
        (λ v. by_crc (field sent 2 6) (field sent 8 32) (eqb (field sent 40 7) (crc7_of (take 40 sent))))))

    by_length : Reads (framing_of frame)
    unfolding framing_of
    by_length = guarded Reads (eqb (length frame) 6) (λ t e. unheard 1 refl) (λ t. by_bits (bits frame))

  pub frame_outcome : FrameOutcome card wins selected frame seen (frame_judged card wins selected frame seen)
  unfolding frame_judged
  frame_outcome = once_lent_lem seen card.registers.groups Hears (frame_refused card) (unheard 12 refl) (λ t. by_length t refl)

pub told : (P : Stepped → Type 0) (stepped : Stepped) (spared : Bool) → P (spared_told stepped true) → P stepped → P (spared_told stepped spared)
told P stepped true spares kept = spares
told P stepped false spares kept = kept
