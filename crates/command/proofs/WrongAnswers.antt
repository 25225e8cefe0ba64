-- Wrong answers that the promises rule out, each refuted at a sample that antt computes: a call's answer is the definition, so a call
-- that gave the wrong answer would make the two equal. (Others are tried as must-fail edits.)
-- Of a command at a card:
--   state_after_in_r1        CMD17's R1 shows data, the state after the command
--   bits_kept_after_r1       CMD13's R1 leaves what it reported pending
--   r2_clears_every_bit      CMD9 clears bit 31
--   r2_clears_none           CMD9 leaves bits 23 and 22 pending
--   illegal_in_stby          CMD17 in stby sets bit 22
--   locked_card_reads        CMD17 takes a locked card to data
--   lock_request_locked_out  CMD42 leaves a locked card in tran
--   long_block_taken         CMD16 of 2,049 is taken
--   status_drops_tags        CMD13 drops tags
--   reset_told_by_cmd0       CMD0 leaves bit 13 for the tags that it drops
--   reset_keeps_length       CMD0 leaves the block length as it was
-- Of what a taken command does, before any answer:
--   act_clears_bits          CMD17 clears the bits that wait
--   act_moves_with_fault     CMD17 past the end goes to data
--   act_tells_in_link        CMD17 that drops tags leaves 13 in the link, where the answer's mode is to clear
--   status_tells_reset       CMD13 sets 13
-- Of a frame with a wrong CRC7:
--   damage_told_inactive     bit 23 is set in Inactive
--   damage_drops_tags        it drops tags
--   damage_clears_bits       it clears what is pending
-- Of checks 5 and 6:
--   locked_read_judged       CMD17 at a locked card has no error
--   misaligned_out_of_range  CMD24 of a misaligned address in range is bit 31
--   end_misaligned           CMD24 of a misaligned address in the last 511 bytes is bit 30
--   lock_keeps_tags          CMD33 at a locked card keeps tags
-- Of a command obeyed:
--   address_from_low_half    CMD3 takes its address from argument bits 15..0
--   many_read_as_one         CMD18 begins a read of one block
--   status_ends_work         CMD13 ends the read of many blocks
-- Of what a command changes in what is lent:
--   clear_sets               CMD29 sets the group
--   group_by_byte            CMD28 takes the address for the group's number
--   read_erases              CMD17 erases
-- Of check 5 alone:
--   lock_stops_request       CMD42 is stopped by the lock
--   lock_stops_length        CMD16 is
--   lock_passes_read         CMD17 passes it
--   lock_passes_tag          CMD32 does
--   length_told_by_lock      CMD16 of 0 is answered with bit 24 by a locked card
--   unlocked_stops           an unlocked card stops CMD17
-- Of the tags:
--   status_drops             CMD13 drops tags
--   read_keeps               CMD17 keeps tags
-- Of MMC mode's answers alone:
--   reset_answered           CMD0 has an R1
--   deselected_answers       CMD7 for another card has one
--   csd_for_cid              CMD10 sends the CSD
--   silence_sends            no answer is an R1
--   r1_keeps                 R1 leaves bit 31 pending
--   silence_clears           no answer clears it
-- Of a card left alone:
--   illegal_left_alone       CMD17 in data, which sets bit 22, leaves it alone
--   reset_left_alone         CMD0 in idle leaves it alone
--   winner_left_alone        CMD2 leaves a winner alone
--   loser_not_left           CMD2 does not leave a loser alone
-- Assumes nothing.
use mathlib.Core.Bool.{Bool, true, false}
use mathlib.Core.Path.{◌≡◌}
use Prim.Native.Nat.{ℕ}
use native.Mathlib.Omega.{arith}
use Rattle.base.proofs.Cases.{clash}
use Rattle.moves.specs.Classes.{class_of}
use Rattle.moves.specs.Moves.{move_of}
use Rattle.moves.specs.Rows.{row_of, transfer_row}
use Rattle.card_record.specs.Power.{fresh_link}
use Rattle.card_record.specs.declared.Link.{Link}
use Rattle.states.specs.declared.Column.TheVariants.{Stby as ToStby, Tran as ToTran, Data as ToData}
use Rattle.states.specs.declared.Outgoing.TheVariants.{One, Many}
use Rattle.states.specs.declared.State.{State}
use Rattle.states.specs.declared.State.TheVariants.{Idle, Ready, Ident, Stby, Tran, Data, Ina}
use Rattle.status.specs.ErrorBits.{error_bit}
use Rattle.status.specs.Status.{word_of}
use Rattle.tags.specs.Tagging.{no_tags, tags_of, end_tagged}
use Rattle.tags.specs.declared.Kind.TheVariants.{Sectors}
use Rattle.tags.specs.declared.Range.TheVariants.{Nothing, Start}
use Rattle.tags.specs.declared.Tags.{Tags}
use Rattle.command.specs.Answers.{response_of, sent_of, left_of, answered}
use Rattle.command.specs.Arguments.{argument_fault}
use Rattle.command.specs.Command.{damaged_link, taken_of, command_of, leaves_alone, decided_of}
use Rattle.command.specs.Obey.{drops_tags, passes_lock, tagging_of, judged_of, reset_told, awaited_by, obeyed, change_of, after_checks, acted_of}
use Rattle.command.specs.declared.Change.TheVariants.{Protect, Erase}
use Rattle.command.specs.declared.Met.{Met}
use Rattle.command.specs.declared.Response.TheVariants.{Nothing as NoAnswer, R1, R2}
use Rattle.card_record.specs.declared.Sent.TheVariants.{Status, Csd}
use Rattle.moves.specs.declared.Row.TheVariants.{GoIdleState, DeselectCard}
use Rattle.std.specs.Prelude.{Some, None}

-- a card of address 1 and block length 512, with a state, pending bits and tags
abbrev card : State → ℕ → Tags → Link
card state bits tags = record { state = state; address = 1; length = 512; errors = record { bits = bits }; tags = tags }

-- one of 8,192 bytes
abbrev met : Bool → Met
met locked = record { ocr = 0x00FF8000; groups = 1; locked = locked; wins = true }

-- a start at sector 1
abbrev started : Tags
started = tags_of (Start Sectors 1)

state_after_in_r1 : (command_of (card Tran 0 no_tags) (met false) 17 0).sent ≡ Status 17 0x00000B00 → ⊥
unfolding command_of row_of transfer_row move_of taken_of acted_of judged_of tagging_of argument_fault after_checks reset_told response_of answered obeyed awaited_by change_of word_of
state_after_in_r1 e = let z : ◌≡◌ {A = ℕ} 0x900 0xB00 = cc in omega arith

bits_kept_after_r1 : (command_of (card Stby 0x80400000 no_tags) (met false) 13 0x00010000).link.errors.bits ≡ 0x80400000 → ⊥
unfolding command_of row_of move_of taken_of acted_of judged_of tagging_of argument_fault after_checks reset_told response_of answered obeyed awaited_by change_of word_of
bits_kept_after_r1 e = omega arith

r2_clears_every_bit : (command_of (card Stby 0x80C00000 no_tags) (met false) 9 0x00010000).link.errors.bits ≡ 0 → ⊥
unfolding command_of row_of move_of taken_of acted_of judged_of tagging_of argument_fault after_checks reset_told response_of answered obeyed awaited_by change_of word_of
r2_clears_every_bit e = omega arith

r2_clears_none : (command_of (card Stby 0x80C00000 no_tags) (met false) 9 0x00010000).link.errors.bits ≡ 0x80C00000 → ⊥
unfolding command_of row_of move_of taken_of acted_of judged_of tagging_of argument_fault after_checks reset_told response_of answered obeyed awaited_by change_of word_of
r2_clears_none e = omega arith

illegal_in_stby : (command_of (card Stby 0 no_tags) (met false) 17 0).link.errors.bits ≡ 0x00400000 → ⊥
unfolding command_of row_of transfer_row move_of
illegal_in_stby e = omega arith

locked_card_reads : (command_of (card Tran 0 no_tags) (met true) 17 0).link.state ≡ Data (One 0) → ⊥
unfolding command_of row_of transfer_row move_of class_of taken_of acted_of judged_of after_checks reset_told response_of answered word_of
locked_card_reads e = clash cc

lock_request_locked_out : (command_of (card Tran 0 no_tags) (met true) 42 0).link.state ≡ Tran → ⊥
unfolding command_of row_of transfer_row move_of class_of taken_of acted_of judged_of tagging_of argument_fault after_checks reset_told response_of answered obeyed awaited_by change_of word_of
lock_request_locked_out e = clash cc

long_block_taken : (command_of (card Tran 0 no_tags) (met false) 16 2049).link.length ≡ 2049 → ⊥
unfolding command_of row_of transfer_row move_of taken_of acted_of judged_of tagging_of argument_fault after_checks reset_told response_of answered word_of
long_block_taken e = omega arith

status_drops_tags : (command_of (card Tran 0 started) (met false) 13 0x00010000).link.tags.range ≡ Nothing → ⊥
unfolding command_of row_of move_of taken_of acted_of judged_of tagging_of argument_fault after_checks reset_told response_of answered obeyed awaited_by change_of word_of
status_drops_tags e = clash cc

reset_told_by_cmd0 : (command_of (card Tran 0 started) (met false) 0 0).link.errors.bits ≡ 0x00002000 → ⊥
unfolding command_of row_of move_of taken_of acted_of fresh_link response_of answered word_of
reset_told_by_cmd0 e = omega arith

reset_keeps_length : (command_of (card Tran 0 no_tags) (met false) 0 0).link.length ≡ 512 → ⊥
unfolding command_of row_of move_of taken_of acted_of fresh_link response_of answered word_of
reset_keeps_length e = omega arith

act_clears_bits : (acted_of (card Tran 0x80400000 no_tags) (met false) 17 0 ToData).errors.bits ≡ 0 → ⊥
unfolding acted_of judged_of tagging_of argument_fault after_checks reset_told
act_clears_bits e = omega arith

act_moves_with_fault : (acted_of (card Tran 0 no_tags) (met false) 17 8192 ToData).link.state ≡ Data (One 8192) → ⊥
unfolding acted_of judged_of tagging_of argument_fault after_checks
act_moves_with_fault e = clash cc

act_tells_in_link : (acted_of (card Tran 0 started) (met false) 17 0 ToData).link.errors.bits ≡ 0x00002000 → ⊥
unfolding acted_of judged_of tagging_of argument_fault after_checks obeyed
act_tells_in_link e = omega arith

status_tells_reset : (acted_of (card Tran 0 started) (met false) 13 0x00010000 ToTran).errors.bits ≡ 0x00002000 → ⊥
unfolding acted_of judged_of tagging_of after_checks reset_told
status_tells_reset e = omega arith

damage_told_inactive : (damaged_link (card Ina 0 no_tags)).errors.bits ≡ 0x00800000 → ⊥
unfolding damaged_link
damage_told_inactive e = omega arith

damage_drops_tags : (damaged_link (card Tran 0 started)).tags.range ≡ Nothing → ⊥
unfolding damaged_link
damage_drops_tags e = clash cc

damage_clears_bits : (damaged_link (card Tran 0x00400000 no_tags)).errors.bits ≡ 0x00800000 → ⊥
unfolding damaged_link
damage_clears_bits e = omega arith

locked_read_judged : (judged_of (card Tran 0 no_tags) 1 true 17 0).error ≡ None → ⊥
unfolding judged_of class_of
locked_read_judged e = clash cc

misaligned_out_of_range : (judged_of (card Tran 0 no_tags) 1 false 24 1).error ≡ Some (error_bit 31) → ⊥
unfolding judged_of tagging_of argument_fault
misaligned_out_of_range e = clash cc

end_misaligned : (judged_of (card Tran 0 no_tags) 1 false 24 7681).error ≡ Some (error_bit 30) → ⊥
unfolding judged_of tagging_of argument_fault
end_misaligned e = clash cc

lock_keeps_tags : (judged_of (card Tran 0 started) 1 true 33 512).tags.range ≡ Start Sectors 1 → ⊥
unfolding judged_of class_of tagging_of end_tagged
lock_keeps_tags e = clash cc

address_from_low_half : (obeyed (card Ident 0 no_tags) 3 0x00020003 ToStby no_tags).address ≡ 3 → ⊥
unfolding obeyed
address_from_low_half e = omega arith

many_read_as_one : (obeyed (card Tran 0 no_tags) 18 512 ToData no_tags).state ≡ Data (One 512) → ⊥
unfolding obeyed awaited_by
many_read_as_one e = clash cc

status_ends_work : (obeyed (card (Data (Many 512)) 0 no_tags) 13 0x00010000 ToData no_tags).state ≡ Tran → ⊥
unfolding obeyed awaited_by
status_ends_work e = clash cc

clear_sets : change_of 29 8192 ≡ Protect 1 true → ⊥
unfolding change_of
clear_sets e = clash cc

group_by_byte : change_of 28 8192 ≡ Protect 8192 true → ⊥
unfolding change_of
group_by_byte e = let z : ◌≡◌ {A = ℕ} 1 8192 = cc in omega arith

read_erases : change_of 17 8192 ≡ Erase → ⊥
unfolding change_of
read_erases e = clash cc

lock_stops_request : passes_lock true 42 ≡ false → ⊥
unfolding class_of
lock_stops_request e = clash cc

lock_stops_length : passes_lock true 16 ≡ false → ⊥
unfolding class_of
lock_stops_length e = clash cc

lock_passes_read : passes_lock true 17 ≡ true → ⊥
unfolding class_of
lock_passes_read e = clash cc

lock_passes_tag : passes_lock true 32 ≡ true → ⊥
unfolding class_of
lock_passes_tag e = clash cc

length_told_by_lock : (judged_of (card Tran 0 no_tags) 1 true 16 0).error ≡ Some (error_bit 24) → ⊥
unfolding judged_of tagging_of argument_fault class_of
length_told_by_lock e = clash cc

unlocked_stops : passes_lock false 17 ≡ false → ⊥
unlocked_stops e = clash cc

status_drops : drops_tags 13 ≡ true → ⊥
status_drops e = clash cc

read_keeps : drops_tags 17 ≡ false → ⊥
read_keeps e = clash cc

illegal_left_alone : leaves_alone (decided_of (card (Data (One 0)) 0 no_tags) (met false) 17 0) ≡ true → ⊥
unfolding row_of transfer_row move_of
illegal_left_alone e = clash cc

reset_left_alone : leaves_alone (decided_of (card Idle 0 no_tags) (met false) 0 0) ≡ true → ⊥
unfolding row_of move_of
reset_left_alone e = clash cc

winner_left_alone : leaves_alone (decided_of (card Ready 0 no_tags) (met false) 2 0) ≡ true → ⊥
unfolding row_of move_of
winner_left_alone e = clash cc

loser_not_left : leaves_alone (decided_of (card Ready 0 no_tags) (record { ocr = 0x00FF8000; groups = 1; locked = false; wins = false }) 2 0) ≡ false → ⊥
unfolding row_of move_of
loser_not_left e = clash cc

-- ---- MMC mode's answers
reset_answered : response_of GoIdleState ≡ R1 → ⊥
unfolding response_of
reset_answered e = clash cc

deselected_answers : response_of DeselectCard ≡ R1 → ⊥
unfolding response_of
deselected_answers e = clash cc

csd_for_cid : sent_of R2 10 0 ≡ Csd → ⊥
csd_for_cid e = clash cc

silence_sends : sent_of NoAnswer 13 0 ≡ Status 13 0 → ⊥
silence_sends e = clash cc

r1_keeps : (left_of R1 (record { bits = 0x80000000 })).bits ≡ 0x80000000 → ⊥
r1_keeps e = omega arith

silence_clears : (left_of NoAnswer (record { bits = 0x80000000 })).bits ≡ 0 → ⊥
silence_clears e = omega arith
