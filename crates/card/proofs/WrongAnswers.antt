-- Wrong answers that the promises rule out, each refuted at a sample that antt computes: a call's answer is the definition, so a call
-- that gave the wrong answer would make the two equal. (Those of a frame are laws of the crates above.) Of a command at a link:
--   skip_untold     an erase that spared a sector, untold
--   skip_always     bit 15 where none was spared
--   skip_waits      what is sent is as `spi` gives it, so that bit 15 waits for the next R1
--   group_unset     CMD28 that leaves the map as it was
--   set_fills       CMD28 that writes memory
-- Assumes nothing.
use mathlib.Core.Path.{◌≡◌, refl, sym, ap}
use mathlib.Core.Bool.{Bool, true, false}
use mathlib.Core.List.{List, [], ◌∷◌}
use Prim.Native.Nat.{ℕ}
use native.Mathlib.Omega.{arith}
use lib.ListN.{get_or}
use Rattle.base.proofs.Cases.{clash}
use Rattle.command.specs.Answers.{response_of, answered}
use Rattle.command.specs.Command.{taken_of, command_of}
use Rattle.command.specs.Obey.{tagging_of, judged_of, reset_told, awaited_by, obeyed, change_of, after_checks, acted_of}
use Rattle.command.specs.declared.Change.TheVariants.{Protect}
use Rattle.command.specs.declared.Met.{Met}
use Rattle.moves.specs.Moves.{move_of}
use Rattle.moves.specs.Rows.{transfer_row, row_of}
use Rattle.card_record.specs.Power.{fresh_link, mmc_mode}
use Rattle.card_record.specs.Record.{with_state, with_tags}
use Rattle.card_record.specs.declared.Link.{Link}
use Rattle.card_record.specs.declared.Mode.{Mode}
use Rattle.spi.specs.Hearing.{heard_of}
use Rattle.states.specs.declared.State.TheVariants.{Tran}
use Rattle.store.specs.Erase.{spared_to, any_spared}
use Rattle.store.specs.Lent.{Seen, lent_of, seen_of}
use Rattle.tags.specs.Tagging.{tags_of}
use Rattle.tags.specs.declared.Kind.TheVariants.{Sectors}
use Rattle.tags.specs.declared.Range.TheVariants.{Full}
use Rattle.card.specs.Frame.{changed, command_heard}
use Rattle.card.specs.declared.Answered.{Answered}

-- CMD38 in tran, sector 1 tagged, under a map of one group
abbrev erasing : List ℕ → Answered
erasing map =
    command_heard mmc_mode false (with_tags (with_state fresh_link Tran) (tags_of (Full Sectors 1 1)))
    (record { ocr = 0x00FF8000; groups = 1; locked = false; wins = true }) false 38 0 (seen_of 8192 map)

skip_untold : (erasing (1 ∷ [])).link.errors.bits ≡ 0 → ⊥
unfolding fresh_link command_heard heard_of command_of row_of transfer_row move_of taken_of acted_of judged_of tagging_of after_checks answered response_of reset_told obeyed awaited_by change_of any_spared spared_to
skip_untold e = let z : ◌≡◌ {A = ℕ} 0x8000 0 = e in omega arith

skip_always : (erasing (0 ∷ [])).link.errors.bits ≡ 0x8000 → ⊥
unfolding fresh_link command_heard heard_of command_of row_of transfer_row move_of taken_of acted_of judged_of tagging_of after_checks answered response_of reset_told obeyed awaited_by change_of any_spared spared_to
skip_always e = let z : ◌≡◌ {A = ℕ} 0 0x8000 = e in omega arith

skip_waits : (mode : Mode) (selected : Bool) (link : Link) (met : Met) (whole : Bool) (index argument : ℕ) (seen : Seen)
    → (command_heard mode selected link met whole index argument seen).sent ≡ (heard_of mode selected link met index argument).sent
unfolding command_heard
skip_waits mode selected link met whole index argument seen = refl

group_unset : (changed fresh_link.tags false (Protect 0 true) (lent_of [] (0 ∷ []))).map ≡ 0 ∷ [] → ⊥
group_unset e = clash (sym (ap (λ (l : List ℕ). get_or l 0 0) e))

set_fills : (changed fresh_link.tags false (Protect 0 true) (lent_of (1 ∷ []) (0 ∷ []))).memory ≡ 0xFF ∷ [] → ⊥
set_fills e = let z : ◌≡◌ {A = ℕ} 1 0xFF = ap (λ (l : List ℕ). get_or l 0 0) e in omega arith
