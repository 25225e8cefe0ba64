-- Wrong answers that the promises rule out, each refuted at a sample that antt computes: a call's answer is the definition, so a call
-- that gave the wrong answer would make the two equal.
--   empty_answered    a round on a bus of no cards counted as answered
--   silence_counted   a round in which the line is silent counted
--   unheard_answer    a round with an answer not counted
--   place_addressed   an address in a place where no card was added
--   clones_counted    two clones counted as two answered rounds
--   clones_apart      the second of two clones given the second round's address
-- Assumes nothing.
use mathlib.Core.Path.{◌≡◌}
use mathlib.Core.List.{[]}
use native.Mathlib.Omega.{arith}
use lib.ListN.{get_or, replicate}
use Rattle.bus.specs.Bus.{with_cards, empty_bus, added_to, command_on, command_at, card_after, frame_from, any_ready, longest_of, cid_line, and_line, line_of, padded, command_for, bus_frame}
use Rattle.bus.specs.declared.Bus.{Bus}
use Rattle.card_record.specs.Sending.{sent_bytes}
use Rattle.command.specs.Answers.{response_of, answered}
use Rattle.command.specs.Arguments.{argument_fault}
use Rattle.command.specs.Command.{taken_of, command_of}
use Rattle.command.specs.Obey.{tagging_of, judged_of, reset_told, awaited_by, obeyed, change_of, after_checks, acted_of}
use Rattle.crc.specs.Bits.{bits}
use Rattle.crc.specs.Crc.{divide, remainder}
use Rattle.shared_line.specs.Line.{line, contested, wins, together}
use Rattle.lock.specs.Passwords.{holding}
use Rattle.moves.specs.Classes.{class_of}
use Rattle.moves.specs.Moves.{move_of}
use Rattle.moves.specs.Rows.{transfer_row, row_of}
use Rattle.card_record.specs.Making.{refused_make}
use Rattle.card_record.specs.Power.{fresh_link}
use Rattle.status.specs.Status.{word_of}
use Rattle.wire.specs.Frames.{crc7_of, sealed, command_frame, fields_of, framing_of}
use Rattle.wire.specs.Responses.{r1_frame, r2_frame}
use Rattle.measured_bus.specs.Rounds.{cid_at, ready_card, bus_of, heard, after_rounds, answered_in, addresses_of}
use Rattle.std.specs.Prelude.{Ok, Some, None}

empty_answered : answered_in (bus_of [] 0) 1 ≡ 1 → ⊥
unfolding answered_in after_rounds bus_of empty_bus bus_frame
empty_answered e = omega arith

silence_counted : heard (Ok None) ≡ 1 → ⊥
silence_counted e = omega arith

unheard_answer : heard (Ok (Some 17)) ≡ 0 → ⊥
unheard_answer e = omega arith

place_addressed : get_or (addresses_of (bus_of [] 0)) 0 0 ≡ 1 → ⊥
unfolding bus_of empty_bus refused_make
place_addressed e = omega arith

-- two cards with one CID, and two rounds
abbrev clones : Bus
clones = bus_of (replicate 480 0) 2

clones_counted : answered_in clones 2 ≡ 2 → ⊥
unfolding answered_in after_rounds bus_of added_to empty_bus ready_card cid_at fresh_link refused_make holding command_frame sealed crc7_of remainder divide bits bus_frame framing_of fields_of command_for with_cards line_of cid_line and_line frame_from any_ready longest_of sent_bytes r1_frame r2_frame card_after command_at command_on command_of taken_of acted_of after_checks judged_of tagging_of argument_fault reset_told obeyed awaited_by change_of response_of answered word_of class_of move_of row_of transfer_row line contested wins together padded
clones_counted e = omega arith

clones_apart : get_or (addresses_of (after_rounds clones 2)) 1 0 ≡ 2 → ⊥
unfolding after_rounds bus_of added_to empty_bus ready_card cid_at fresh_link refused_make holding command_frame sealed crc7_of remainder divide bits bus_frame framing_of fields_of command_for with_cards card_after command_at command_on command_of taken_of acted_of after_checks judged_of tagging_of argument_fault obeyed awaited_by response_of answered class_of move_of row_of line contested wins together
clones_apart e = omega arith
