-- A run of calls, whatever the calls are: a frame that lost the line is one of them.
--   made_stays_made    a card that was made, and not refused, is made after any list of calls
--   run_made           so is any made card
--   run_registers      which has the registers that it had
--   run_lengths        what is lent keeps its lengths
--   lent_lengths       in one call
-- Assumes nothing.
use mathlib.Core.Path.{◌≡◌, refl, ◌∙◌}
use mathlib.Core.List.{List, [], ◌∷◌}
use Prim.Native.Nat.{ℕ}
use lib.ListN.{length, length-set, length-replicate}
use Rattle.card_blocks.specs.BlockIn.{stored_by, block_judged}
use Rattle.card_blocks.specs.Framing.{unstarted}
use Rattle.card.specs.Frame.{changed_by, frame_judged}
use Rattle.card.specs.Step.{lent_after}
use Rattle.card.specs.declared.Call.{Call}
use Rattle.card.specs.declared.Call.TheVariants.{Frame, BlockIn, BlockOut, WorkDone, PowerOn}
use Rattle.card_blocks.specs.declared.Storing.{Storing}
use Rattle.card_blocks.specs.declared.Storing.TheVariants.{Nothing as Unstored, Sector, All}
use Rattle.command.specs.declared.Change.{Change}
use Rattle.command.specs.declared.Change.TheVariants.{Nothing, Protect, Erase}
use Rattle.base.specs.Choice.{pick}
use Rattle.card_record.specs.Record.{csd_protects}
use Rattle.card_record.specs.declared.Card.{Card}
use Rattle.store.proofs.Erased.{erased_length}
use Rattle.store.proofs.Sectors.{written_length}
use Rattle.store.specs.Lent.{Lent, seen}
use Rattle.made.proofs.Kept.{registers_kept}
use Rattle.made.proofs.Stays.{make_made, step_made}
use Rattle.made.specs.Made.{Made}
use Rattle.made.specs.Run.{World, Input, next, run_of, made_lent, begun, SameLengths}
use Rattle.std.specs.Prelude.{Ok}

-- ---- lengths
changed_lengths : (card : Card) (change : Change) (lent : Lent) → SameLengths lent (changed_by card change lent)
changed_lengths card Nothing lent = record { memory = refl; map = refl }
changed_lengths card (Protect group on) lent = record { memory = refl; map = length-set lent.map group (pick on 1 0) }
changed_lengths card Erase lent =
    record { memory = erased_length lent.map card.link.tags (csd_protects card.registers.csd) lent.memory; map = refl }

stored_lengths : (block : List ℕ) (storing : Storing) (lent : Lent) → SameLengths lent (stored_by block storing lent)
stored_lengths block Unstored lent = record { memory = refl; map = refl }
stored_lengths block (Sector sector) lent = record { memory = written_length lent.memory block sector; map = refl }
stored_lengths block All lent =
    record { memory = length-replicate (length lent.memory) 0xFF; map = length-replicate (length lent.map) 0 }

pub lent_lengths : (card : Card) (call : Call) (input : List ℕ) (lent : Lent) → SameLengths lent (lent_after card call input lent)
lent_lengths card (Frame wins selected) input lent = changed_lengths card (frame_judged card wins selected input (seen lent)).change lent
lent_lengths card BlockIn input lent = stored_lengths (unstarted card.mode.spi input) (block_judged card input (seen lent)).storing lent
lent_lengths card BlockOut input lent = record { memory = refl; map = refl }
lent_lengths card WorkDone input lent = record { memory = refl; map = refl }
lent_lengths card PowerOn input lent = record { memory = refl; map = refl }

-- ---- runs
pub run_made : (world : World) (inputs : List Input) → Made world.card → Made (run_of world inputs).card
unfolding run_of next
run_made world [] made = made
run_made world (input ∷ inputs) made =
    run_made (next world input) inputs
    (step_made world.card input.call input.bytes (seen world.lent) (length input.output) made)

pub run_registers : (world : World) (inputs : List Input) → (run_of world inputs).card.registers ≡ world.card.registers
unfolding run_of next
run_registers world [] = refl
run_registers world (input ∷ inputs) =
    run_registers (next world input) inputs
    ∙ registers_kept world.card input.call input.bytes (seen world.lent) (length input.output)

pub run_lengths : (world : World) (inputs : List Input) → SameLengths world.lent (run_of world inputs).lent
unfolding run_of next
run_lengths world [] = record { memory = refl; map = refl }
run_lengths world (input ∷ inputs) =
    let rest = run_lengths (next world input) inputs in
    let one = lent_lengths world.card input.call input.bytes world.lent in
    record { memory = rest.memory ∙ one.memory; map = rest.map ∙ one.map }

pub made_stays_made : (cid csd : List ℕ) (ocr : ℕ) (password : List ℕ) (lent : Lent) (inputs : List Input)
    → (made_lent cid csd ocr password lent).making ≡ Ok tt → Made (run_of (begun cid csd ocr password lent) inputs).card
made_stays_made cid csd ocr password lent inputs e =
    run_made (begun cid csd ocr password lent) inputs (make_made cid csd ocr password (length lent.memory) lent.map e)
