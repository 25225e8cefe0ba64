-- Document 01's eight output lines, computed from the definitions that the contracts of `busline_records` name.
-- Assumes nothing.
use mathlib.Core.Path.{◌≡◌, refl}
use Rattle.bus.specs.Bus.{with_cards, empty_bus, added_to, command_on, command_at, card_after, frame_from, any_ready, longest_of, cid_line, and_line, line_of, padded, command_for, bus_frame}
use Rattle.card_record.specs.Sending.{sent_bytes}
use Rattle.command.specs.Answers.{response_of, answered}
use Rattle.command.specs.Arguments.{argument_fault}
use Rattle.command.specs.Command.{taken_of, command_of}
use Rattle.command.specs.Obey.{tagging_of, judged_of, reset_told, awaited_by, obeyed, change_of, after_checks, acted_of}
use Rattle.crc.specs.Bits.{bits}
use Rattle.crc.specs.Crc.{divide, remainder}
use Rattle.busline_records.specs.Cards.{made_with, card_made}
use Rattle.busline_records.specs.Printing.{shown_text}
use Rattle.busline_records.specs.Reading.{asked_of, register_of}
use Rattle.busline_records.specs.Record.{fresh_progress, card_text, card_said, frame_text, frame_said, asked_text, asked_said}
use Rattle.busline_records.specs.Transcript.{record_step, transcript}
use Rattle.playing.specs.Playing.{played_in, played_of}
use Rattle.shared_line.specs.Line.{line, contested, wins, together}
use Rattle.text.specs.Lines.{number_text, hex_text, end_text, head_text, word_line, plain_line, named_line}
use Rattle.text.specs.Text.{hex_of, digits_of, decimal_of}
use Rattle.lock.specs.Passwords.{holding, powered_of, stored, lock_made as lock_made_of}
use Rattle.moves.specs.Classes.{class_of}
use Rattle.moves.specs.Moves.{move_of}
use Rattle.moves.specs.Rows.{transfer_row, row_of}
use Rattle.card_record.specs.Making.{refused_make, password_made, made_of}
use Rattle.card_record.specs.Power.{fresh_link}
use Rattle.status.specs.Status.{word_of}
use Rattle.store.specs.Map.{entries_right}
use Rattle.wire.specs.Frames.{crc7_of, sealed, fields_of, framing_of}
use Rattle.wire.specs.Responses.{r1_frame, r2_frame, r3_frame, last_byte, register_right}
use Rattle.marked.specs.Marked.{night, eight_lines}

pub eight_lines_lem : transcript night ≡ eight_lines
unfolding transcript played_of played_in record_step asked_text asked_said asked_of fresh_progress card_text card_said frame_text frame_said shown_text register_of made_with card_made empty_bus refused_make added_to with_cards command_on command_at card_after frame_from any_ready longest_of cid_line and_line line_of padded command_for bus_frame line contested wins together made_of password_made lock_made_of powered_of stored holding entries_right fresh_link command_of taken_of acted_of after_checks judged_of tagging_of argument_fault reset_told obeyed awaited_by change_of response_of answered word_of class_of move_of row_of transfer_row sent_bytes r1_frame r2_frame r3_frame sealed framing_of fields_of crc7_of last_byte register_right remainder divide bits number_text hex_text end_text head_text word_line plain_line named_line hex_of digits_of decimal_of
eight_lines_lem = refl
