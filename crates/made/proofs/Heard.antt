-- A command that reaches a card is heard as one, or not at all.
--   heard_or_not    what is so of a command that is not heard, and of one that is heard, is so of every command that a card takes in
-- Assumes nothing.
use mathlib.Core.Path.{◌≡◌, ap, ap₂, ◌∙◌, subst⁻¹}
use mathlib.Core.Bool.{Bool, true, false, not, ◌&&◌}
use mathlib.Core.List.{List}
use Prim.Native.Nat.{ℕ}
use borrow.Author.Tests.{not-true}
use Rattle.base.proofs.Cases.{cases, first, last, opposite}
use Rattle.card_record.specs.declared.Card.{Card}
use Rattle.command.specs.Command.{met_by}
use Rattle.spi.proofs.Laws.{spi_high}
use Rattle.spi.specs.Hearing.{unheard, heard_of, crc_passes}
use Rattle.spi.specs.declared.Heard.{Heard}
use Rattle.wire.specs.Frames.{framing_of, as_fields}
use Rattle.made.specs.Heard.{HeardAs}
use Rattle.std.specs.Prelude.{Ok}

module _ (card : Card) (wins selected : Bool) (frame : List ℕ) (index argument : ℕ) (right : Bool) (is : framing_of frame ≡ Ok (as_fields index argument right))
    (passes : crc_passes card.mode index right ≡ true) where
  abbrev heard : Bool → Heard
  heard line = heard_of card.mode line card.link (met_by card wins) index argument

  -- in SPI with the line high
  high : (card.mode.spi && not selected) ≡ true → heard selected ≡ unheard card.mode card.link
  high t =
      ap heard (not-true selected (last card.mode.spi (not selected) t))
      ∙ spi_high card.mode card.link (met_by card wins) index argument (first card.mode.spi (not selected) t)

  low : (card.mode.spi && not selected) ≡ false → card.mode.spi ≡ true → selected ≡ true
  low t here =
      cases selected (λ (u : selected ≡ true). u)
      (λ (u : selected ≡ false). opposite (card.mode.spi && not selected) (ap₂ (λ (h s : Bool). h && not s) here u) t)

  pub heard_or_not : (P : Heard → Type 0) → P (unheard card.mode card.link) → (HeardAs card selected frame index argument → P (heard selected)) → P (heard selected)
  heard_or_not P ignored taken =
      cases (card.mode.spi && not selected)
      (λ (t : (card.mode.spi && not selected) ≡ true). subst⁻¹ P (high t) ignored)
      (λ (t : (card.mode.spi && not selected) ≡ false). taken (record { right = right; framing = is; crc = passes; low = low t }))
