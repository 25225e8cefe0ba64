-- Wrong answers that the promises rule out, each refuted at a sample that antt computes: a call's answer is the definition, so a call
-- that gave the wrong answer would make the two equal.
--   index_not_told         the lent index left as it was by a frame that was read
--   index_cleared          the lent index cleared by a frame that was refused
--   argument_cleared       the lent argument likewise
--   done_told_as_refused   a number for what was carried out
--   refused_told_as_done   0 for an output that is too short
--   checked_told_as_good   0 for a block with a wrong CRC16
--   sum_closed             the byte that closes a frame, the CRC7 and a 1, told for the CRC7
--   sum_from_ones          a CRC16 that starts from FFFF
--   sum_low_first          a CRC16 with its bytes swapped
--   power_inactive         power-on that leaves the number of Inactive
--   power_keeps_tags       power-on that leaves the number of tags
--   worked_prg, worked_dis work done that leaves prg, or takes dis to tran
--   worked_rewritten       a state of no name rewritten by work done
--   refused_told_bytes     bytes told of a block that was refused
--   sent_told_as_refused   a number for a block that went out
--   password_untold        the password left as it was by a request that sets one
--   sent_unfinished        a card that is still to send CMD30's block when it has gone out
--   won_by_256             a line that was won read as lost, by the low bits of what C says
--   lost_by_0              one that was lost read as won
--   refused_rewritten      numbers of no record rewritten by a call that is refused and changes nothing
--   damage_not_told        the numbers left as they were by a damaged frame, which sets bit 23
--   damage_rewritten       another number told anew by a damaged frame
--   lock_rewritten         a flag of 2 rewritten by a frame, which changes no lock
--   power_keeps_spi        power-on that leaves the number of SPI
--   low_by_256             a select line that is low read as high, by the low bits of what C says
--   high_by_0              one that is high read as low
--   spi_untold             the number of MMC mode left by a CMD0 that enters SPI
--   damage_unanswered      no byte told of the R1 beside number 3
--   response_untold        no byte told of a data response
--   response_for_length    a byte told of a block that is refused 16
-- Assumes nothing.
use mathlib.Core.Path.{◌≡◌, sym, ap}
use mathlib.Core.Bool.{true, false}
use mathlib.Core.List.{List, [], ◌∷◌, ◌++◌}
use Prim.Native.Nat.{ℕ}
use native.Mathlib.Omega.{arith}
use lib.ListN.{length, get_or, replicate}
use Rattle.base.proofs.Cases.{never}
use Rattle.base.specs.Refusals.{by}
use Rattle.card_blocks.specs.BlockIn.{block_good, request_judged, checked_judged, awaited_judged, block_judged}
use Rattle.card_blocks.specs.BlockOut.{out_good, bytes_judged, out_judged}
use Rattle.card_blocks.specs.Framing.{response_to}
use Rattle.command.specs.Command.{damaged_link}
use Rattle.crc.specs.Bits.{bits}
use Rattle.crc.specs.Crc.{divide, remainder, check_sum, crc7, crc16}
use Rattle.crossing.specs.Record.{state_of, link_of, mode_of, lock_of, registers_of, card_of, link_numbers, mode_numbers, lock_numbers}
use Rattle.lock.specs.Passwords.{stored, same, holding}
use Rattle.lock.specs.Requests.{password_in, old_of, new_of, settable, request_of}
use Rattle.card_record.specs.Power.{fresh_link, mmc_mode, powered_on}
use Rattle.card_record.specs.Record.{with_link}
use Rattle.card_record.specs.declared.Card.{Card}
use Rattle.spi.specs.Answers.{answered_in, faulted}
use Rattle.spi.specs.Hearing.{taken_in, spi_heard, heard_of, damaged_of}
use Rattle.spi.specs.declared.Heard.{Heard}
use Rattle.spi_moves.specs.Moves.{row_of, move_of}
use Rattle.store.specs.Lent.{seen_of}
use Rattle.store.specs.Map.{entries_right}
use Rattle.wire.specs.Blocks.{block_of}
use Rattle.firmware.specs.Answers.{met_at, byte_sent, fronted, numbers_after, frame_numbers, worked_number, won_by, selected_by, wrote_of}
use Rattle.firmware.specs.Numbers.{number_told, index_read, argument_read}
use Rattle.std.specs.Prelude.{Ok, Err, Some, Option}
use Rattle.wire.specs.Frames.{as_command}

index_not_told : index_read (Ok (as_command 17 0x12345)) 0 ≡ 0 → ⊥
index_not_told e = omega arith

index_cleared : index_read (Err (by 3)) 17 ≡ 0 → ⊥
index_cleared e = omega arith

argument_cleared : argument_read (Err (by 3)) 0x12345 ≡ 0 → ⊥
argument_cleared e = omega arith

done_told_as_refused : number_told {A = ℕ} (Ok 6) ≡ 6 → ⊥
done_told_as_refused e = omega arith

refused_told_as_done : number_told {A = ℕ} (Err (by 6)) ≡ 0 → ⊥
refused_told_as_done e = omega arith

checked_told_as_good : number_told {A = ℕ} (Err (by 17)) ≡ 0 → ⊥
checked_told_as_good e = omega arith

-- ---- the sums
sum_closed : crc7 (0x40 ∷ replicate 4 0) ≡ 0x95 → ⊥
unfolding crc7 check_sum remainder divide bits
sum_closed e = omega arith

sum_from_ones : crc16 [] ≡ 0xFFFF → ⊥
unfolding crc16 check_sum remainder divide bits
sum_from_ones e = omega arith

sum_low_first : crc16 (0x80 ∷ []) ≡ 0x8891 → ⊥
unfolding crc16 check_sum remainder divide bits
sum_low_first e = omega arith

-- ---- a card
-- the card of one protection group, in SPI, whose first number, its state, is this one, with a start of sectors among its tags
abbrev numbered : ℕ → ℕ → List ℕ
numbered state at = state ∷ at ∷ 7 ∷ 16 ∷ 0 ∷ 1 ∷ 3 ∷ 0 ∷ 1 ∷ 0 ∷ 0 ∷ 1 ∷ 0 ∷ []

abbrev card : ℕ → Card
card state = card_of (numbered state 0) (replicate 16 0) (replicate 16 0) (replicate 16 0)

-- what power-on leaves of its numbers
abbrev powered : ℕ → List ℕ
powered state =
    fronted (link_numbers (powered_on (card state)).link ++ mode_numbers (powered_on (card state)).mode ++ lock_numbers (powered_on (card state)).lock)
    (numbered state 0)

power_inactive : get_or (powered 13) 0 0 ≡ 13 → ⊥
unfolding link_numbers powered_on fresh_link
power_inactive e = omega arith

power_keeps_tags : get_or (powered 4) 5 0 ≡ 1 → ⊥
unfolding link_numbers powered_on fresh_link
power_keeps_tags e = omega arith

power_keeps_spi : get_or (powered 4) 8 0 ≡ 1 → ⊥
unfolding link_numbers mode_numbers powered_on
power_keeps_spi e = omega arith

worked_prg : worked_number 11 ≡ 11 → ⊥
worked_prg e = omega arith

worked_dis : worked_number 12 ≡ 4 → ⊥
worked_dis e = omega arith

worked_rewritten : worked_number 99 ≡ 13 → ⊥
worked_rewritten e = omega arith

refused_told_bytes : wrote_of (Err (by 18)) ≡ 514 → ⊥
refused_told_bytes e = omega arith

sent_told_as_refused : number_told {A = Option ℕ} (Ok (Some 6)) ≡ 6 → ⊥
sent_told_as_refused e = omega arith

-- a lock request of three bytes at a card with no password: set one of one byte, 9
password_untold : (block_judged (card_of (10 ∷ 0 ∷ 7 ∷ 3 ∷ 0 ∷ 0 ∷ 0 ∷ 0 ∷ 0 ∷ 0 ∷ 0 ∷ 1 ∷ 0 ∷ []) (replicate 16 0) (replicate 16 0) (replicate 16 0))
    (block_of (1 ∷ 1 ∷ 9 ∷ [])) (seen_of 8192 (0 ∷ []))).stepped.card.lock.password ≡ replicate 16 0 → ⊥
unfolding block_judged awaited_judged checked_judged request_judged request_of settable old_of new_of password_in stored same holding block_good block_of crc16 check_sum remainder divide bits card_of link_of mode_of lock_of registers_of state_of entries_right
password_untold e = let z : ◌≡◌ {A = ℕ} 9 0 = ap (λ (l : List ℕ). get_or l 0 0) e in omega arith

sent_unfinished : get_or (link_numbers (out_judged (card 7) (seen_of 8192 (0 ∷ [])) 7).stepped.card.link) 0 0 ≡ 7 → ⊥
unfolding link_numbers out_judged bytes_judged out_good card_of link_of mode_of registers_of state_of entries_right
sent_unfinished e = omega arith

won_by_256 : won_by 256 ≡ false → ⊥
won_by_256 e = never (sym e)

lost_by_0 : won_by 0 ≡ true → ⊥
lost_by_0 e = never e

-- a card in tran carries no place: 99 stands for nothing there, and stays
refused_rewritten : get_or (numbers_after 15 (link_numbers (card 4).link ++ mode_numbers (card 4).mode) (numbered 4 99)) 1 0 ≡ 0 → ⊥
refused_rewritten e = omega arith

damage_not_told : get_or (frame_numbers 3 (with_link (card 4) (damaged_link (card 4).link)) (numbered 4 0)) 4 0 ≡ 0 → ⊥
unfolding link_numbers damaged_link card_of link_of state_of
damage_not_told e = omega arith

-- a place of 99 stands for nothing in tran, and a damaged frame lets it stay
damage_rewritten : get_or (frame_numbers 3 (with_link (card 4) (damaged_link (card 4).link)) (numbered 4 99)) 1 0 ≡ 0 → ⊥
unfolding link_numbers damaged_link card_of link_of state_of
damage_rewritten e = omega arith

lock_rewritten : get_or (frame_numbers 0 (with_link (card 4) fresh_link) (replicate 13 2)) 9 0 ≡ 1 → ⊥
unfolding link_numbers mode_numbers fresh_link
lock_rewritten e = omega arith

-- ---- SPI
low_by_256 : selected_by 256 ≡ false → ⊥
low_by_256 e = never (sym e)

high_by_0 : selected_by 0 ≡ true → ⊥
high_by_0 e = never e

-- CMD0 with the select line low
abbrev entered : Heard
entered = heard_of mmc_mode true fresh_link (met_at (numbered 4 0) true) 0 0

spi_untold : get_or (numbers_after 0 (link_numbers entered.link ++ mode_numbers entered.mode) (replicate 13 0)) 8 0 ≡ 0 → ⊥
unfolding link_numbers mode_numbers heard_of spi_heard taken_in answered_in move_of row_of fresh_link
spi_untold e = omega arith

damage_unanswered : length (byte_sent (damaged_of (record { spi = true; checks = true }) true fresh_link).sent) ≡ 0 → ⊥
unfolding damaged_of faulted answered_in fresh_link
damage_unanswered e = omega arith

response_untold : length (byte_sent (response_to true (Err (by 17)))) ≡ 0 → ⊥
response_untold e = omega arith

response_for_length : length (byte_sent (response_to true (Err (by 16)))) ≡ 1 → ⊥
response_for_length e = omega arith
