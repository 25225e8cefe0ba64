-- Wrong answers that the promises rule out, each refuted at a sample that antt computes.
--   idle_before        the state before the command in R1
--   argument_read_lem      CMD1 that reads its argument
--   status_in_idle     CMD13 in Idle, where it is illegal, answered by two bytes
--   illegal_silent     an illegal command that is not answered
--   illegal_untold     .. or is answered without bit 22
--   lock_told_in_r1    a locked card's CMD17 that tells 24 in R1, which has no place for it
--   register_as_r2     CMD9 answered by the register itself
--   high_answered      a command with the line high that is answered
--   high_reset         CMD0 with the line high that resets a card in SPI
--   enters_keeping_length, resets_keeping_length    CMD0 with the line low, at a card in MMC mode or in SPI, that leaves the block length
--                      as it was
--   low_answered       CMD13 with the line low at a card in MMC mode, answered as in SPI
--   checks_kept        CRC checking that CMD0 leaves on
--   checks_by_any_bit  CMD59 that reads another bit than bit 0
--   zero_unchecked     CMD0 with a wrong CRC7 taken while checking is off
--   wrong_refused      any other refused for it then
--   by_new_setting     CMD59 judged by the setting that it makes
--   mmc_unchecked      a wrong CRC7 taken in MMC mode
--   inactive_answers   an R1 beside number 3 from a card that is Inactive
-- Assumes nothing.
use mathlib.Core.Path.{◌≡◌}
use mathlib.Core.Bool.{Bool, true, false}
use Prim.Native.Nat.{ℕ}
use native.Mathlib.Omega.{arith}
use Rattle.base.proofs.Cases.{clash}
use Rattle.card_record.specs.Power.{fresh_link, mmc_mode}
use Rattle.card_record.specs.Record.{with_state}
use Rattle.card_record.specs.declared.Mode.{Mode}
use Rattle.card_record.specs.declared.Sent.TheVariants.{Nothing, SpiR1, SpiR2}
use Rattle.command.specs.Answers.{response_of, answered}
use Rattle.command.specs.Arguments.{argument_fault}
use Rattle.command.specs.Command.{taken_of, command_of}
use Rattle.command.specs.Obey.{tagging_of, judged_of, reset_told, awaited_by, obeyed, change_of, after_checks, acted_of}
use Rattle.moves.specs.Classes.{class_of}
use Rattle.moves.specs.Moves.{move_of as move_in_mmc}
use Rattle.moves.specs.Rows.{transfer_row, row_of as row_in_mmc}
use Rattle.spi_answers.specs.Answers.{r1_of, second_of, cleared_r1, cleared_r2}
use Rattle.spi_moves.specs.Moves.{row_of, move_of}
use Rattle.states.specs.declared.State.{State}
use Rattle.states.specs.declared.State.TheVariants.{Idle, Tran, Ina}
use Rattle.status.specs.Status.{no_errors}
use Rattle.tags.specs.Tagging.{no_tags}
use Rattle.spi.specs.Answers.{answered_in, faulted}
use Rattle.spi.specs.Hearing.{taken_in, spi_heard, heard_of, crc_passes, damaged_of}
use Rattle.spi.specs.declared.Heard.{Heard}

abbrev in_spi : Bool → Mode
in_spi checks = record { spi = true; checks = checks }

abbrev in_mmc : Mode
in_mmc = mmc_mode

-- a command at a card of one protection group in this state, locked or not
abbrev heard : Mode → Bool → State → Bool → ℕ → ℕ → Heard
heard mode selected state locked index argument =
    heard_of mode selected (with_state fresh_link state) (record { ocr = 0x00FF8000; groups = 1; locked = locked; wins = true }) index argument

idle_before : (heard (in_spi false) true Idle false 1 0).sent ≡ SpiR1 1 → ⊥
unfolding heard_of spi_heard taken_in answered_in faulted move_of row_of acted_of judged_of tagging_of argument_fault after_checks obeyed awaited_by change_of reset_told fresh_link r1_of second_of cleared_r1 cleared_r2
idle_before e = clash cc

argument_read_lem : (heard (in_spi false) true Idle false 1 0).link.state ≡ Idle → ⊥
unfolding heard_of spi_heard taken_in answered_in faulted move_of row_of acted_of judged_of tagging_of argument_fault after_checks obeyed awaited_by change_of reset_told fresh_link r1_of second_of cleared_r1 cleared_r2
argument_read_lem e = clash cc

status_in_idle : (heard (in_spi false) true Idle false 13 0).sent ≡ SpiR2 5 0 → ⊥
unfolding heard_of spi_heard taken_in answered_in faulted move_of row_of acted_of judged_of tagging_of argument_fault after_checks obeyed awaited_by change_of reset_told fresh_link r1_of second_of cleared_r1 cleared_r2
status_in_idle e = clash cc

illegal_silent : (heard (in_spi false) true Tran false 2 0).sent ≡ Nothing → ⊥
unfolding heard_of spi_heard taken_in answered_in faulted move_of row_of acted_of judged_of tagging_of argument_fault after_checks obeyed awaited_by change_of reset_told fresh_link r1_of second_of cleared_r1 cleared_r2
illegal_silent e = clash cc

illegal_untold : (heard (in_spi false) true Tran false 2 0).sent ≡ SpiR1 0 → ⊥
unfolding heard_of spi_heard taken_in answered_in faulted move_of row_of acted_of judged_of tagging_of argument_fault after_checks obeyed awaited_by change_of reset_told fresh_link r1_of second_of cleared_r1 cleared_r2
illegal_untold e = clash cc

lock_told_in_r1 : (heard (in_spi false) true Tran true 17 0).link.errors.bits ≡ 0 → ⊥
unfolding heard_of spi_heard taken_in answered_in faulted move_of row_of acted_of judged_of tagging_of argument_fault class_of after_checks obeyed awaited_by change_of reset_told fresh_link r1_of second_of cleared_r1 cleared_r2
lock_told_in_r1 e = let z : ◌≡◌ {A = ℕ} 0x01000000 0 = e in omega arith

register_as_r2 : (heard (in_spi false) true Tran false 9 0).link.state ≡ Tran → ⊥
unfolding heard_of spi_heard taken_in answered_in faulted move_of row_of acted_of judged_of tagging_of argument_fault after_checks obeyed awaited_by change_of reset_told fresh_link r1_of second_of cleared_r1 cleared_r2
register_as_r2 e = clash cc

high_answered : (heard (in_spi false) false Tran false 13 0).sent ≡ SpiR2 0 0 → ⊥
unfolding heard_of spi_heard taken_in answered_in faulted move_of row_of acted_of judged_of tagging_of argument_fault after_checks obeyed awaited_by change_of reset_told fresh_link r1_of second_of cleared_r1 cleared_r2
high_answered e = clash cc

high_reset : (heard (in_spi false) false Tran false 0 0).link.state ≡ Idle → ⊥
unfolding heard_of spi_heard taken_in answered_in faulted move_of row_of acted_of judged_of tagging_of argument_fault after_checks obeyed awaited_by change_of reset_told fresh_link r1_of second_of cleared_r1 cleared_r2
high_reset e = clash cc

-- CMD0 with the line low, at a card that was told to speak in blocks of 8 bytes
abbrev reset_from : Mode → Heard
reset_from mode =
    heard_of mode true (record { state = Tran; address = 1; length = 8; errors = no_errors; tags = no_tags })
    (record { ocr = 0x00FF8000; groups = 1; locked = false; wins = true }) 0 0

enters_keeping_length : (reset_from in_mmc).link.length ≡ 8 → ⊥
unfolding heard_of spi_heard taken_in answered_in move_of row_of acted_of fresh_link cleared_r1
enters_keeping_length e = omega arith

resets_keeping_length : (reset_from (in_spi false)).link.length ≡ 8 → ⊥
unfolding heard_of spi_heard taken_in answered_in move_of row_of acted_of fresh_link cleared_r1
resets_keeping_length e = omega arith

low_answered : (heard in_mmc true Tran false 13 0x10000).sent ≡ SpiR2 0 0 → ⊥
unfolding heard_of spi_heard taken_in answered_in faulted move_of row_of acted_of judged_of tagging_of argument_fault after_checks obeyed awaited_by change_of reset_told fresh_link r1_of second_of cleared_r1 cleared_r2 command_of taken_of answered response_of row_in_mmc transfer_row move_in_mmc
low_answered e = clash cc

checks_kept : (heard (in_spi true) true Tran false 0 0).mode.checks ≡ true → ⊥
unfolding heard_of spi_heard taken_in answered_in faulted move_of row_of acted_of judged_of tagging_of argument_fault after_checks obeyed awaited_by change_of reset_told fresh_link r1_of second_of cleared_r1 cleared_r2
checks_kept e = clash cc

checks_by_any_bit : (heard (in_spi false) true Tran false 59 2).mode.checks ≡ true → ⊥
unfolding heard_of spi_heard taken_in answered_in faulted move_of row_of acted_of judged_of tagging_of argument_fault after_checks obeyed awaited_by change_of reset_told fresh_link r1_of second_of cleared_r1 cleared_r2
checks_by_any_bit e = clash cc

zero_unchecked : crc_passes (in_spi false) 0 false ≡ true → ⊥
zero_unchecked e = clash cc

wrong_refused : crc_passes (in_spi false) 17 false ≡ false → ⊥
wrong_refused e = clash cc

by_new_setting : crc_passes (in_spi false) 59 false ≡ false → ⊥
by_new_setting e = clash cc

mmc_unchecked : crc_passes in_mmc 17 false ≡ true → ⊥
mmc_unchecked e = clash cc

inactive_answers : (damaged_of (in_spi true) true (with_state fresh_link Ina)).sent ≡ SpiR1 8 → ⊥
unfolding damaged_of fresh_link
inactive_answers e = clash cc
