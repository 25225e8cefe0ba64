-- An unlocked card straight after a reset, in use, computed, in MMC mode and in SPI (document 02, request 2): what `until_set` speaks of happens.
--   comes_from_make, comes_from_power, comes_from_idle, comes_from_low    made; powered on; sent CMD0, and CMD0 with its select line low, which is
--                     that of SPI: whatever its block length was before, the card that is then taken to tran is the same, with blocks of 2,048 bytes
--   early_unset       nor does a CMD16 of 512 before it is selected make it another
--   reset_unwritable  it is one that `until_set` speaks of
--   writes_refused    there CMD24 and CMD25 answer bit 29, and change nothing
--   write_begins, writes_begin    CMD16 of 512, and then they go to rcv
--   low_write_refused, low_many_illegal    in SPI CMD24 answers bit 29 and CMD25 bit 22, which it does behind CMD16 too
--   read_begins, read_sends, read_is    a read gives 2,048 bytes of the memory
--   request_begins, short_refused, request_granted    a lock request has 2,048 bytes too, and is granted with its surplus ignored
-- Assumes nothing.
use mathlib.Core.Path.{◌≡◌, refl, ap, ◌∙◌, subst}
use mathlib.Core.Bool.{Bool, true, false}
use mathlib.Core.List.{List, [], ◌∷◌, ◌++◌}
use Prim.Native.Nat.{ℕ, ◌+◌}
use native.Mathlib.Omega.{arith}
use borrow.Author.Tests.{eq-eqb}
use lib.Dec.{eqb}
use lib.ListN.{length, take, drop, replicate}
use lib.Seq.{take_at}
use Rattle.wire.specs.declared.Fields.{Fields}
use Rattle.wire.proofs.Told.{index_told}
use Rattle.base.proofs.Cases.{opposite}
use Rattle.base.specs.Refusals.{by}
use Rattle.card.specs.Frame.{frame_judged, frame_stepped}
use Rattle.card.specs.declared.Call.TheVariants.{PowerOn}
use Rattle.card_blocks.proofs.Laying.{laid_whole}
use Rattle.card_blocks.specs.BlockIn.{block_refused, block_good, request_judged, awaited_judged, block_judged, stored_by}
use Rattle.card_blocks.specs.BlockOut.{out_good, part_judged, out_judged, part_block, sent_out}
use Rattle.card_blocks.specs.Framing.{beside, unstarted, with_start}
use Rattle.card_blocks.specs.declared.BlockJudged.{BlockJudged}
use Rattle.card_blocks.specs.declared.Storing.TheVariants.{Nothing}
use Rattle.card_record.specs.Making.{password_made, made_of}
use Rattle.card_record.specs.Power.{fresh_link, powered_on}
use Rattle.card_record.specs.declared.Sent.TheVariants.{Status, SpiR1}
use Rattle.command.specs.Answers.{response_of, answered}
use Rattle.command.specs.Arguments.{argument_fault}
use Rattle.command.specs.Command.{taken_of, command_of}
use Rattle.command.specs.Obey.{tagging_of, judged_of, reset_told, awaited_by, obeyed, change_of, after_checks, acted_of}
use Rattle.crc.specs.Bits.{bits}
use Rattle.crc.specs.Crc.{divide, remainder}
use Rattle.lock.specs.Passwords.{stored, same, holding, powered_of, no_password, lock_made as lock_made_of}
use Rattle.lock.specs.Requests.{password_in, old_of, new_of, settable, request_of}
use Rattle.lock.specs.declared.Lock.{Lock}
use Rattle.made.proofs.Reached.{register}
use Rattle.made.specs.Run.{World, Input, given, next, outcome_of, output_after, run_of, begun}
use Rattle.moves.specs.Classes.{class_of}
use Rattle.moves.specs.Moves.{move_of}
use Rattle.moves.specs.Rows.{transfer_row, row_of}
use Rattle.spi.specs.Answers.{answered_in, faulted}
use Rattle.spi.specs.Hearing.{taken_in, spi_heard, heard_of}
use Rattle.spi_answers.specs.Answers.{r1_of, cleared_r1}
use Rattle.spi_moves.specs.Moves.{row_of as row_in_spi, move_of as move_in_spi}
use Rattle.states.specs.declared.Incoming.TheVariants.{One, Many, LockRequest}
use Rattle.states.specs.declared.Outgoing.TheVariants.{One as OneOut}
use Rattle.states.specs.declared.State.{State}
use Rattle.states.specs.declared.State.TheVariants.{Tran, Data, Rcv, Prg}
use Rattle.status.specs.Status.{no_errors, word_of}
use Rattle.store.specs.Lent.{seen}
use Rattle.store.specs.Map.{entries_right}
use Rattle.wire.proofs.BlockTheorems.{long}
use Rattle.wire.specs.Blocks.{block_of}
use Rattle.wire.specs.Frames.{crc7_of, sealed, command_frame, fields_of, framing_of, as_fields}
use Rattle.wire.specs.Responses.{last_byte, register_right}
use Rattle.stored.specs.AfterReset.{made, Unset, Unwritable}
use Rattle.stored.specs.ReadBack.{commanded, block_in, block_out}
use Rattle.stored.proofs.AfterReset.{until_set}
use Rattle.stored.proofs.Framed.{start_length, request_right}
use Rattle.stored.proofs.InUse.{lent, card_with, commands, to_tran, answer}
use Rattle.std.specs.Prelude.{Result, Ok, Err, Some, None}
use Rattle.base.specs.declared.Refusal.{Refusal}

-- ---- the card
abbrev holding_card : Bool → Lock → State → ℕ → World
holding_card spi lock state length = card_with spi lock state length no_errors

abbrev card : Bool → State → ℕ → World
card spi = holding_card spi no_password

abbrev reset : Bool → World
reset spi = card spi Tran 2048

-- ---- resets
-- a card that was just made
abbrev begins : World
begins = begun register register 0x00FF8000 [] lent

-- a frame of another index is no CMD16
another : (index : ℕ) {argument : ℕ} {right wrong : Bool} → ◌≡◌ {A = Result Fields Refusal} (Ok (as_fields index argument right)) (Ok (as_fields 16 512 wrong))
    → eqb index 16 ≡ false → ⊥
another index e other = let same = index_told e in opposite (eqb index 16) (eq-eqb index 16 same) other

pub comes_from_make : (spi : Bool) → run_of begins (to_tran spi) ≡ reset spi
unfolding run_of next made_of password_made lock_made_of powered_of stored holding register_right last_byte fresh_link crc7_of remainder divide bits entries_right command_frame sealed framing_of fields_of frame_stepped frame_judged heard_of spi_heard row_in_spi move_in_spi taken_in answered_in cleared_r1 command_of row_of transfer_row move_of class_of taken_of acted_of after_checks answered response_of reset_told word_of judged_of tagging_of argument_fault obeyed awaited_by change_of
comes_from_make true = refl
comes_from_make false = refl

-- none of these commands is CMD16 of 512, so that `until_set` speaks of this card
none_sets : (spi : Bool) → Unset begins (to_tran spi)
unfolding command_frame sealed framing_of fields_of crc7_of remainder divide bits
none_sets true = (λ b. another 0 b.brought.heard.framing refl, (λ b. another 1 b.brought.heard.framing refl, tt))
none_sets false =
    (λ b. another 1 b.brought.heard.framing refl, (λ b. another 2 b.brought.heard.framing refl, (λ b. another 3 b.brought.heard.framing refl, (λ b. another 7 b.brought.heard.framing refl, tt))))

-- CMD16 of 512 that comes too early, before the card is selected, is met with silence and sets nothing
pub early_unset : run_of begins (commands false ((1, 0x00FF8000) ∷ (2, 0) ∷ (3, 0x00010000) ∷ (16, 512) ∷ (7, 0x00010000) ∷ [])) ≡ reset false
unfolding run_of next made_of password_made lock_made_of powered_of stored holding register_right last_byte fresh_link crc7_of remainder divide bits entries_right command_frame sealed framing_of fields_of frame_stepped frame_judged heard_of command_of row_of transfer_row move_of class_of taken_of acted_of after_checks answered response_of reset_told word_of judged_of tagging_of argument_fault obeyed awaited_by change_of
early_unset = refl

pub reset_unwritable : (spi : Bool) → Unwritable (reset spi).card
unfolding made_of password_made lock_made_of register_right last_byte crc7_of remainder divide bits entries_right
reset_unwritable spi =
    subst (λ (w : World). Unwritable w.card) (comes_from_make spi)
    (until_set (made register register 0x00FF8000 [] lent refl) (to_tran spi) (none_sets spi))

-- from a card of either mode whose blocks have 8 bytes
pub comes_from_power : (spi : Bool) → run_of (card spi Tran 8) (given PowerOn [] ∷ to_tran false) ≡ reset false
unfolding run_of next powered_on powered_of stored holding fresh_link crc7_of remainder divide bits entries_right command_frame sealed framing_of fields_of frame_stepped frame_judged heard_of command_of row_of transfer_row move_of class_of taken_of acted_of after_checks answered response_of reset_told word_of judged_of tagging_of argument_fault obeyed awaited_by change_of
comes_from_power spi = refl

pub comes_from_idle : run_of (card false Tran 8) (commands false ((0, 0) ∷ []) ++ to_tran false) ≡ reset false
unfolding run_of next fresh_link crc7_of remainder divide bits entries_right command_frame sealed framing_of fields_of frame_stepped frame_judged heard_of command_of row_of transfer_row move_of class_of taken_of acted_of after_checks answered response_of reset_told word_of judged_of tagging_of argument_fault obeyed awaited_by change_of holding
comes_from_idle = refl

pub comes_from_low : (spi : Bool) → run_of (card spi Tran 8) (to_tran true) ≡ reset true
unfolding run_of next fresh_link crc7_of remainder divide bits entries_right command_frame sealed framing_of fields_of frame_stepped frame_judged heard_of spi_heard row_in_spi move_in_spi taken_in answered_in cleared_r1 class_of acted_of after_checks reset_told judged_of tagging_of argument_fault obeyed awaited_by change_of holding
comes_from_low true = refl
comes_from_low false = refl

-- ---- writes
-- bit 29, in tran, ready for data
pub writes_refused : ((answer false (reset false) 24 512 ≡ Status 24 0x20000900) × (commanded false (reset false) 24 512 ≡ reset false))
    × ((answer false (reset false) 25 512 ≡ Status 25 0x20000900) × (commanded false (reset false) 25 512 ≡ reset false))
unfolding next crc7_of remainder divide bits entries_right command_frame sealed framing_of fields_of frame_stepped frame_judged heard_of command_of row_of transfer_row move_of class_of taken_of acted_of after_checks answered response_of reset_told word_of judged_of tagging_of argument_fault obeyed awaited_by change_of holding
writes_refused = ((refl, refl), (refl, refl))

-- R1's bit for 29, and for 22
pub low_write_refused : (answer true (reset true) 24 512 ≡ SpiR1 0x40) × (commanded true (reset true) 24 512 ≡ reset true)
unfolding next crc7_of remainder divide bits entries_right command_frame sealed framing_of fields_of frame_stepped frame_judged heard_of spi_heard row_in_spi move_in_spi taken_in answered_in cleared_r1 r1_of class_of acted_of after_checks reset_told judged_of tagging_of argument_fault obeyed awaited_by change_of holding
low_write_refused = (refl, refl)

abbrev sized : Bool → World
sized spi = commanded spi (reset spi) 16 512

pub low_many_illegal : ((answer true (reset true) 25 512 ≡ SpiR1 0x04) × (commanded true (reset true) 25 512 ≡ reset true))
    × ((answer true (sized true) 25 512 ≡ SpiR1 0x04) × (commanded true (sized true) 25 512 ≡ card true Tran 512))
unfolding next crc7_of remainder divide bits entries_right command_frame sealed framing_of fields_of frame_stepped frame_judged heard_of spi_heard row_in_spi move_in_spi taken_in faulted answered_in cleared_r1 r1_of class_of acted_of after_checks reset_told judged_of tagging_of argument_fault obeyed awaited_by change_of holding
low_many_illegal = ((refl, refl), (refl, refl))

pub write_begins : (spi : Bool) → commanded spi (sized spi) 24 512 ≡ card spi (Rcv (One 512)) 512
unfolding next crc7_of remainder divide bits entries_right command_frame sealed framing_of fields_of frame_stepped frame_judged heard_of spi_heard row_in_spi move_in_spi taken_in answered_in cleared_r1 r1_of command_of row_of transfer_row move_of class_of taken_of acted_of after_checks answered response_of reset_told word_of judged_of tagging_of argument_fault obeyed awaited_by change_of holding
write_begins true = refl
write_begins false = refl

pub writes_begin : commanded false (sized false) 25 512 ≡ card false (Rcv (Many 512)) 512
unfolding next crc7_of remainder divide bits entries_right command_frame sealed framing_of fields_of frame_stepped frame_judged heard_of command_of row_of transfer_row move_of class_of taken_of acted_of after_checks answered response_of reset_told word_of judged_of tagging_of argument_fault obeyed awaited_by change_of holding
writes_begin = refl

-- ---- a read
abbrev reading : Bool → World
reading spi = card spi (Data (OneOut 2048)) 2048

pub read_begins : (spi : Bool) → commanded spi (reset spi) 17 2048 ≡ reading spi
unfolding next crc7_of remainder divide bits entries_right command_frame sealed framing_of fields_of frame_stepped frame_judged heard_of spi_heard row_in_spi move_in_spi taken_in answered_in cleared_r1 r1_of command_of row_of transfer_row move_of class_of taken_of acted_of after_checks answered response_of reset_told word_of judged_of tagging_of argument_fault obeyed awaited_by change_of holding
read_begins true = refl
read_begins false = refl

-- an output with room for the block of either mode
abbrev room : Input
room = block_out (replicate 2051 0xA5)

pub read_sends : (spi : Bool) → (outcome_of (reading spi) room ≡ Ok (Some (2048 + beside spi))) × (next (reading spi) room ≡ reset spi)
unfolding next out_judged part_judged out_good entries_right
read_sends true = (refl, refl)
read_sends false = (refl, refl)

abbrev page : List ℕ
page = replicate 2048 0x33

framed_long : (spi : Bool) → length (with_start spi (block_of page)) ≡ 2048 + beside spi
framed_long spi = start_length spi (block_of page) 2048 (long page)

laid : (spi : Bool) → output_after (reading spi) room ≡ with_start spi (block_of page) ++ drop (length (with_start spi (block_of page))) room.output
unfolding out_judged part_judged out_good entries_right sent_out part_block
laid true = laid_whole true (block_of page) room.output (omega (arith, long page)) (omega (arith, framed_long true))
laid false = laid_whole false (block_of page) room.output (omega (arith, long page)) (omega (arith, framed_long false))

pub read_is : (spi : Bool) → take (2048 + beside spi) (output_after (reading spi) room) ≡ with_start spi (block_of page)
read_is spi =
    ap (take (2048 + beside spi)) (laid spi)
    ∙ take_at (with_start spi (block_of page)) (drop (length (with_start spi (block_of page))) room.output) (2048 + beside spi) (framed_long spi)

-- ---- a lock request
abbrev asked : Bool → World
asked spi = card spi (Rcv LockRequest) 2048

pub request_begins : (spi : Bool) → commanded spi (reset spi) 42 0 ≡ asked spi
unfolding next crc7_of remainder divide bits entries_right command_frame sealed framing_of fields_of frame_stepped frame_judged heard_of spi_heard row_in_spi move_in_spi taken_in answered_in cleared_r1 r1_of command_of row_of transfer_row move_of class_of taken_of acted_of after_checks answered response_of reset_told word_of judged_of tagging_of argument_fault obeyed awaited_by change_of holding
request_begins true = refl
request_begins false = refl

-- one of 512 bytes
pub short_refused : (spi : Bool) → outcome_of (asked spi) (block_in (with_start spi (replicate 514 0))) ≡ Err (by 16)
unfolding block_judged awaited_judged block_refused entries_right
short_refused true = refl
short_refused false = refl

-- a password of one byte, 2A, is set; 2,045 bytes of 99 are its surplus
abbrev setting : List ℕ
setting = (1 ∷ 1 ∷ 0x2A ∷ []) ++ replicate 2045 0x99

abbrev request : Bool → Input
request spi = block_in (with_start spi (block_of setting))

judged : (spi : Bool) → block_judged (asked spi).card (request spi).bytes (seen lent) ≡ block_good (holding_card spi (holding (0x2A ∷ []) false) (Rcv LockRequest) 2048).card Prg Nothing
unfolding entries_right request_judged request_of settable password_in old_of new_of stored same holding
judged spi = request_right spi (asked spi).card setting refl (omega arith) (omega arith) (seen lent) refl refl refl

pub request_granted : (spi : Bool) → (outcome_of (asked spi) (request spi) ≡ Ok None) × (next (asked spi) (request spi) ≡ holding_card spi (holding (0x2A ∷ []) false) Prg 2048)
unfolding next block_good
request_granted spi = (
  ap (λ (j : BlockJudged). j.stepped.reply.outcome) (judged spi),
  ap (λ (j : BlockJudged). record { card = j.stepped.card; lent = stored_by (unstarted spi (request spi).bytes) j.storing lent }) (judged spi),
)
