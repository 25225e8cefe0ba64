-- The card whose runs ResetInUse and LockedInUse compute, and how it is spoken to.
-- Assumes nothing.
use mathlib.Core.Bool.{Bool, true, false}
use mathlib.Core.List.{List, [], ◌∷◌, map}
use Prim.Native.Nat.{ℕ}
use lib.ListN.{replicate}
use Rattle.card.specs.Step.{step_of}
use Rattle.card.specs.declared.Call.TheVariants.{Frame}
use Rattle.card_record.specs.declared.Sent.{Sent}
use Rattle.lock.specs.declared.Lock.{Lock}
use Rattle.made.proofs.Reached.{register}
use Rattle.made.specs.Run.{World, Input, given}
use Rattle.states.specs.declared.State.{State}
use Rattle.status.specs.declared.Errors.{Errors}
use Rattle.store.specs.Lent.{Lent, lent_of, seen}
use Rattle.tags.specs.Tagging.{no_tags}
use Rattle.wire.specs.Frames.{command_frame}

abbrev pub lent : Lent
lent = lent_of (replicate 8192 0x33) (0 ∷ [])

-- a card of 8,192 bytes and address 1, in SPI or in MMC mode, with this password record, in a state, with a block length and these error bits
abbrev pub card_with : Bool → Lock → State → ℕ → Errors → World
card_with spi lock state length errors =
    record {
      card = record {
        registers = record { cid = register; csd = register; ocr = 0x00FF8000; groups = 1 };
        lock = lock;
        link = record { state = state; address = 1; length = length; errors = errors; tags = no_tags };
        mode = record { spi = spi; checks = false };
      };
      lent = lent;
    }

-- commands as a card of this mode is sent them
abbrev pub commands : Bool → List (ℕ × ℕ) → List Input
commands spi = map (λ (c : ℕ × ℕ). given (Frame true spi) (command_frame c.0 c.1))

-- the way to tran: CMD1 of the window, CMD2, CMD3 to address 1, CMD7 to it; in SPI CMD0 with the line low, and CMD1
abbrev pub to_tran : Bool → List Input
to_tran true = commands true ((0, 0) ∷ (1, 0) ∷ [])
to_tran false = commands false ((1, 0x00FF8000) ∷ (2, 0) ∷ (3, 0x00010000) ∷ (7, 0x00010000) ∷ [])

-- what a command is answered with, in the mode of the card
abbrev pub answer : Bool → World → ℕ → ℕ → Sent
answer spi w index argument = (step_of w.card (Frame true spi) (command_frame index argument) (seen w.lent) 0).reply.sent
