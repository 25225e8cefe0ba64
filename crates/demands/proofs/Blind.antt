-- What a call answers, and what it makes of the record, depends on what is lent only as far as judging sees it: never on what the memory
-- holds. In MMC mode and in SPI.
--   blind    what looks alike gets the same answer and the same next record, and looks alike afterwards
-- Assumes nothing.
use mathlib.Core.Path.{◌≡◌, sym, ap, ◌∙◌}
use mathlib.Core.List.{List}
use Prim.Native.Nat.{ℕ}
use lib.ListN.{length, length-replicate}
use Rattle.card_blocks.specs.BlockIn.{stored_by, block_judged}
use Rattle.card_blocks.specs.Framing.{unstarted}
use Rattle.card.specs.Frame.{changed_by, frame_judged}
use Rattle.card.specs.Step.{step_of, lent_after}
use Rattle.card.specs.declared.Call.{Call}
use Rattle.card.specs.declared.Call.TheVariants.{Frame, BlockIn, BlockOut, WorkDone, PowerOn}
use Rattle.card_blocks.specs.declared.Storing.{Storing}
use Rattle.card_blocks.specs.declared.Storing.TheVariants.{Nothing as Unstored, Sector, All}
use Rattle.command.specs.declared.Change.{Change}
use Rattle.command.specs.declared.Change.TheVariants.{Nothing, Protect, Erase}
use Rattle.card_record.specs.Record.{csd_protects}
use Rattle.card_record.specs.declared.Card.{Card}
use Rattle.store.proofs.Erased.{erased_length}
use Rattle.store.proofs.Sectors.{written_length}
use Rattle.store.specs.Lent.{Lent, Seen, seen_of, seen}
use Rattle.store.specs.Map.{group_set, map_cleared}

-- what looks alike before a change looks alike after it
changed_alike : (card : Card) (change : Change) (lent other : Lent) → seen lent ≡ seen other
    → seen (changed_by card change lent) ≡ seen (changed_by card change other)
changed_alike card Nothing lent other same = same
changed_alike card (Protect group on) lent other same = ap (λ (s : Seen). seen_of s.bytes (group_set s.map group on)) same
changed_alike card Erase lent other same =
    let kept : (l : Lent) → seen (changed_by card Erase l) ≡ seen l =
    λ l. ap (λ (n : ℕ). seen_of n l.map) (erased_length l.map card.link.tags (csd_protects card.registers.csd) l.memory) in
    kept lent ∙ same ∙ sym (kept other)

stored_alike : (block : List ℕ) (storing : Storing) (lent other : Lent) → seen lent ≡ seen other
    → seen (stored_by block storing lent) ≡ seen (stored_by block storing other)
stored_alike block Unstored lent other same = same
stored_alike block (Sector sector) lent other same =
    let kept : (l : Lent) → seen (stored_by block (Sector sector) l) ≡ seen l =
    λ l. ap (λ (n : ℕ). seen_of n l.map) (written_length l.memory block sector) in
    kept lent ∙ same ∙ sym (kept other)
stored_alike block All lent other same =
    let cleared : (l : Lent) → seen (stored_by block All l) ≡ seen_of (length l.memory) (map_cleared l.map) =
    λ l. ap (λ (n : ℕ). seen_of n (map_cleared l.map)) (length-replicate (length l.memory) 0xFF) in
    cleared lent ∙ ap (λ (s : Seen). seen_of s.bytes (map_cleared s.map)) same ∙ sym (cleared other)

after_alike : (card : Card) (call : Call) (input : List ℕ) (lent other : Lent) → seen lent ≡ seen other
    → seen (lent_after card call input lent) ≡ seen (lent_after card call input other)
after_alike card (Frame wins selected) input lent other same =
    changed_alike card (frame_judged card wins selected input (seen lent)).change lent other same
    ∙ ap (λ (s : Seen). seen (changed_by card (frame_judged card wins selected input s).change other)) same
after_alike card BlockIn input lent other same =
    let block : List ℕ = unstarted card.mode.spi input in
    stored_alike block (block_judged card input (seen lent)).storing lent other same
    ∙ ap (λ (s : Seen). seen (stored_by block (block_judged card input s).storing other)) same
after_alike card BlockOut input lent other same = same
after_alike card WorkDone input lent other same = same
after_alike card PowerOn input lent other same = same

pub blind : (card : Card) (call : Call) (input : List ℕ) (room : ℕ) (lent other : Lent) → seen lent ≡ seen other
    → (step_of card call input (seen lent) room ≡ step_of card call input (seen other) room)
    × (seen (lent_after card call input lent) ≡ seen (lent_after card call input other))
blind card call input room lent other same =
    (ap (λ (s : Seen). step_of card call input s room) same, after_alike card call input lent other same)
