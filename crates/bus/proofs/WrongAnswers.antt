-- Wrong answers that the promises rule out, each refuted at a sample that antt computes: a call's answer is the definition, so a call
-- that gave the wrong answer would make the two equal. (Others are tried as must-fail edits.)
-- Of an empty bus:
--   empty_counts_one       it has a card
--   empty_holds_idle       its places hold cards that would answer
-- Of a card added:
--   thirty_first_placed    a 31st has a place
--   thirty_first_counted   a 31st is counted
--   second_in_front        the second card is in the first one's place
-- Of a card taken:
--   untaken_found          a place that is not taken holds a card
--   first_for_second       the second place holds the first card
-- Of a card put back:
--   put_adds               a card put behind the last is counted
--   put_behind             a card put behind the last stays there
-- Of a frame:
--   damage_before_empty    no card, and a damaged frame is refused 3
--   data_command_taken     CMD12 is no refusal
--   damage_told_inactive   a wrong CRC7 sets bit 23 of an Inactive card
--   damage_kept_from_last  a wrong CRC7 is told to the first card alone
--   highest_shown          CMD2 shows the larger of two CIDs
--   loser_moves            the loser goes to ident
--   winner_waits           the winner stays in ready
--   cmd3_reaches_ready     CMD3 takes a Ready card to stby
--   cmd3_tells_address     CMD3 gives its address to a Ready card
--   line_ored              two OCRs that differ show as their OR
--   silence_shown          no sender, and a line of bytes
-- Of a frame that meets a card in SPI:
--   bus_wakes_spi          CMD0 takes it back to MMC mode
--   bus_resets_spi         CMD0 takes it from tran to idle
--   damage_told_spi        a wrong CRC7 sets its bit 23
--   spi_ready_sends        one in Ready sends its CID in CMD2
--   spi_ready_beats        one in Ready keeps the line from a larger CID
--   spi_ready_moves        one in Ready goes to ident in CMD2
-- Assumes nothing.
use mathlib.Core.Bool.{true, false}
use mathlib.Core.List.{List, [], ◌∷◌, ◌++◌}
use mathlib.Core.Path.{◌≡◌, refl, ap}
use Rattle.base.proofs.Cases.{clash}
use Prim.Native.Nat.{ℕ, ◌-◌}
use native.Mathlib.Omega.{arith}
use lib.ListN.{length, get_or, replicate}
use Rattle.base.specs.Refusals.{by}
use Rattle.card_record.specs.Sending.{sent_bytes}
use Rattle.command.specs.Answers.{response_of, answered}
use Rattle.command.specs.Arguments.{argument_fault}
use Rattle.command.specs.Command.{damaged_link, taken_of, command_of}
use Rattle.command.specs.Obey.{tagging_of, judged_of, reset_told, awaited_by, obeyed, change_of, after_checks, acted_of}
use Rattle.crc.specs.Bits.{bits}
use Rattle.crc.specs.Crc.{divide, remainder}
use Rattle.shared_line.specs.Line.{line, contested, wins, together}
use Rattle.lock.specs.Passwords.{holding, no_password}
use Rattle.moves.specs.Classes.{class_of}
use Rattle.moves.specs.Moves.{move_of}
use Rattle.moves.specs.Rows.{row_of}
use Rattle.card_record.specs.Making.{refused_make}
use Rattle.card_record.specs.Power.{mmc_mode}
use Rattle.card_record.specs.Record.{with_mode}
use Rattle.card_record.specs.declared.Card.{Card}
use Rattle.states.specs.declared.State.{State}
use Rattle.states.specs.declared.State.TheVariants.{Idle, Ready, Ident, Stby, Tran, Ina}
use Rattle.status.specs.Status.{word_of}
use Rattle.tags.specs.Tagging.{no_tags}
use Rattle.wire.specs.Frames.{crc7_of, sealed, fields_of, framing_of}
use Rattle.wire.specs.Responses.{r1_frame, r2_frame, r3_frame}
use Rattle.bus.specs.Bus.{with_cards, empty_bus, added_to, taken_from, put_into, command_on, command_at, card_after, frame_from, any_ready, longest_of, cid_line, and_line, line_of, padded, command_for, bus_frame}
use Rattle.bus.specs.declared.Bus.{Bus}
use Rattle.std.specs.Prelude.{Ok, Err, Some, None}

-- a card of address 1 with a state, an OCR and a CID that ends in this byte
abbrev card : State → ℕ → ℕ → Card
card state ocr last =
    record {
      registers = record { cid = replicate 15 0 ++ last ∷ []; csd = replicate 16 0; ocr = ocr; groups = 1 };
      lock = no_password;
      link = record { state = state; address = 1; length = 512; errors = record { bits = 0 }; tags = no_tags };
      mode = mmc_mode;
    }

-- one in SPI, with CRC checking on
abbrev in_spi : Card → Card
in_spi c = with_mode c (record { spi = true; checks = true })

abbrev ready : ℕ → Card
ready = card Ready 0x00FF8000

abbrev bus : List Card → Bus
bus cards = record { cards = cards ++ replicate (30 - length cards) refused_make; count = length cards }

abbrev full : Bus
full = record { cards = replicate 30 (ready 1); count = 30 }

-- the card in a place of a bus
abbrev at : Bus → ℕ → Card
at b place = get_or b.cards place refused_make

empty_counts_one : empty_bus.count ≡ 1 → ⊥
unfolding empty_bus
empty_counts_one e = omega arith

empty_holds_idle : (at empty_bus 0).link.state ≡ Idle → ⊥
unfolding empty_bus refused_make
empty_holds_idle e = let z : ◌≡◌ {A = ℕ} 0 1 = cc in omega arith

thirty_first_placed : (added_to full (ready 1)).adding ≡ Ok 30 → ⊥
unfolding added_to
thirty_first_placed e = let z : ◌≡◌ {A = ℕ} 0 1 = cc in omega arith

thirty_first_counted : (added_to full (ready 1)).bus.count ≡ 31 → ⊥
unfolding added_to
thirty_first_counted e = omega arith

second_in_front : (added_to (bus (ready 1 ∷ [])) (ready 2)).adding ≡ Ok 0 → ⊥
unfolding added_to
second_in_front e = let z : ◌≡◌ {A = ℕ} 1 0 = cc in omega arith

untaken_found : (card : Card) → taken_from (bus (ready 1 ∷ [])) 1 ≡ Some card → ⊥
unfolding taken_from
untaken_found card e = clash cc

first_for_second : (card : Card) × ((taken_from (bus (ready 1 ∷ ready 2 ∷ [])) 1 ≡ Some card) × (card.registers.cid ≡ (ready 1).registers.cid → ⊥))
unfolding taken_from
first_for_second = (ready 2, (refl, λ e. let z : ◌≡◌ {A = ℕ} 2 1 = ap (λ (l : List ℕ). get_or l 15 0) e in omega arith))

put_adds : (put_into (bus (ready 1 ∷ [])) 1 (ready 2)).count ≡ 2 → ⊥
unfolding put_into
put_adds e = omega arith

put_behind : (at (put_into (bus (ready 1 ∷ [])) 1 (ready 2)) 1).link.state ≡ Ready → ⊥
unfolding put_into refused_make
put_behind e = let z : ◌≡◌ {A = ℕ} 0 1 = cc in omega arith

-- CMD0, and with a wrong CRC7, CMD1, CMD2, CMD3 to address 2, CMD12
abbrev cmd0 : List ℕ
cmd0 = 0x40 ∷ 0x00 ∷ 0x00 ∷ 0x00 ∷ 0x00 ∷ 0x95 ∷ []

abbrev damaged : List ℕ
damaged = 0x40 ∷ 0x00 ∷ 0x00 ∷ 0x00 ∷ 0x00 ∷ 0x97 ∷ []

abbrev cmd1 : List ℕ
cmd1 = 0x41 ∷ 0x00 ∷ 0xFF ∷ 0x80 ∷ 0x00 ∷ 0x99 ∷ []

abbrev cmd2 : List ℕ
cmd2 = 0x42 ∷ 0x00 ∷ 0x00 ∷ 0x00 ∷ 0x00 ∷ 0x4D ∷ []

abbrev cmd3 : List ℕ
cmd3 = 0x43 ∷ 0x00 ∷ 0x02 ∷ 0x00 ∷ 0x00 ∷ 0x9D ∷ []

abbrev cmd12 : List ℕ
cmd12 = 0x4C ∷ 0x00 ∷ 0x00 ∷ 0x00 ∷ 0x00 ∷ 0x61 ∷ []

-- two cards that meet a frame
abbrev after : Card → Card → List ℕ → Bus
after a b frame = (bus_frame (bus (a ∷ b ∷ [])) frame).bus

abbrev shows : Card → Card → List ℕ → List ℕ
shows a b frame = (bus_frame (bus (a ∷ b ∷ [])) frame).line

damage_before_empty : (bus_frame empty_bus damaged).shown ≡ Err (by 3) → ⊥
unfolding bus_frame empty_bus framing_of fields_of crc7_of remainder divide bits
damage_before_empty e = let z : ◌≡◌ {A = ℕ} 0 1 = cc in omega arith

data_command_taken : (bus_frame (bus (ready 1 ∷ [])) cmd12).shown ≡ Ok None → ⊥
unfolding bus_frame framing_of fields_of crc7_of remainder divide bits command_for
data_command_taken e = let z : ◌≡◌ {A = ℕ} 0 1 = cc in omega arith

damage_told_inactive : (at (after (card Ina 0x00FF8000 1) (ready 2) damaged) 0).link.errors.bits ≡ 0x00800000 → ⊥
unfolding bus_frame framing_of fields_of crc7_of remainder divide bits with_cards damaged_link refused_make
damage_told_inactive e = omega arith

damage_kept_from_last : (at (after (card Ina 0x00FF8000 1) (ready 2) damaged) 1).link.errors.bits ≡ 0 → ⊥
unfolding bus_frame framing_of fields_of crc7_of remainder divide bits with_cards damaged_link refused_make
damage_kept_from_last e = omega arith

highest_shown : shows (ready 1) (ready 2) cmd2 ≡ 0x3F ∷ (ready 2).registers.cid → ⊥
unfolding bus_frame framing_of fields_of crc7_of remainder divide bits command_for with_cards command_on command_at card_after frame_from line_of cid_line and_line any_ready longest_of padded line contested wins together command_of row_of move_of taken_of acted_of after_checks judged_of tagging_of argument_fault reset_told obeyed awaited_by change_of response_of answered class_of word_of sent_bytes r1_frame r2_frame r3_frame sealed holding refused_make
highest_shown e = let z : ◌≡◌ {A = ℕ} 1 2 = ap (λ (l : List ℕ). get_or l 16 0) e in omega arith

loser_moves : (at (after (ready 1) (ready 2) cmd2) 1).link.state ≡ Ident → ⊥
unfolding bus_frame framing_of fields_of crc7_of remainder divide bits command_for with_cards command_on command_at card_after frame_from line_of cid_line and_line any_ready longest_of padded line contested wins together command_of row_of move_of taken_of acted_of after_checks judged_of tagging_of argument_fault reset_told obeyed awaited_by change_of response_of answered class_of word_of sent_bytes r1_frame r2_frame r3_frame sealed holding refused_make
loser_moves e = let z : ◌≡◌ {A = ℕ} 0 1 = cc in omega arith

winner_waits : (at (after (ready 1) (ready 2) cmd2) 0).link.state ≡ Ready → ⊥
unfolding bus_frame framing_of fields_of crc7_of remainder divide bits command_for with_cards command_on command_at card_after frame_from line_of cid_line and_line any_ready longest_of padded line contested wins together command_of row_of move_of taken_of acted_of after_checks judged_of tagging_of argument_fault reset_told obeyed awaited_by change_of response_of answered class_of word_of sent_bytes r1_frame r2_frame r3_frame sealed holding refused_make
winner_waits e = let z : ◌≡◌ {A = ℕ} 0 1 = cc in omega arith

cmd3_reaches_ready : (at (after (card Ident 0x00FF8000 1) (ready 2) cmd3) 1).link.state ≡ Stby → ⊥
unfolding bus_frame framing_of fields_of crc7_of remainder divide bits command_for with_cards command_on command_at card_after frame_from line_of cid_line and_line any_ready longest_of padded line contested wins together command_of row_of move_of taken_of acted_of after_checks judged_of tagging_of argument_fault reset_told obeyed awaited_by change_of response_of answered class_of word_of sent_bytes r1_frame r2_frame r3_frame sealed holding refused_make
cmd3_reaches_ready e = let z : ◌≡◌ {A = ℕ} 0 1 = cc in omega arith

cmd3_tells_address : (at (after (card Ident 0x00FF8000 1) (ready 2) cmd3) 1).link.address ≡ 2 → ⊥
unfolding bus_frame framing_of fields_of crc7_of remainder divide bits command_for with_cards command_on command_at card_after frame_from line_of cid_line and_line any_ready longest_of padded line contested wins together command_of row_of move_of taken_of acted_of after_checks judged_of tagging_of argument_fault reset_told obeyed awaited_by change_of response_of answered class_of word_of sent_bytes r1_frame r2_frame r3_frame sealed holding refused_make
cmd3_tells_address e = omega arith

line_ored : get_or (shows (card Idle 0x00C00000 1) (card Idle 0x00300000 2) cmd1) 2 0 ≡ 0xF0 → ⊥
unfolding bus_frame framing_of fields_of crc7_of remainder divide bits command_for with_cards command_on command_at card_after frame_from line_of cid_line and_line any_ready longest_of padded line contested wins together command_of row_of move_of taken_of acted_of after_checks judged_of tagging_of argument_fault reset_told obeyed awaited_by change_of response_of answered class_of word_of sent_bytes r1_frame r2_frame r3_frame sealed holding refused_make
line_ored e = omega arith

silence_shown : (bus_frame (bus (card Stby 0x00FF8000 1 ∷ [])) cmd2).shown ≡ Ok (Some 17) → ⊥
unfolding bus_frame framing_of fields_of crc7_of remainder divide bits command_for with_cards command_on command_at card_after frame_from line_of cid_line and_line any_ready longest_of padded line contested wins together command_of row_of move_of taken_of acted_of after_checks judged_of tagging_of argument_fault reset_told obeyed awaited_by change_of response_of answered class_of word_of sent_bytes r1_frame r2_frame r3_frame sealed holding refused_make
silence_shown e = let z : ◌≡◌ {A = ℕ} 0 1 = cc in omega arith

bus_wakes_spi : (at (after (in_spi (card Tran 0x00FF8000 1)) (ready 2) cmd0) 0).mode.spi ≡ false → ⊥
unfolding bus_frame framing_of fields_of crc7_of remainder divide bits command_for with_cards command_on command_at card_after frame_from line_of cid_line and_line any_ready longest_of padded line contested wins together command_of row_of move_of taken_of acted_of after_checks judged_of tagging_of argument_fault reset_told obeyed awaited_by change_of response_of answered class_of word_of sent_bytes r1_frame r2_frame r3_frame sealed holding refused_make
bus_wakes_spi e = let z : ◌≡◌ {A = ℕ} 0 1 = cc in omega arith

bus_resets_spi : (at (after (in_spi (card Tran 0x00FF8000 1)) (ready 2) cmd0) 0).link.state ≡ Idle → ⊥
unfolding bus_frame framing_of fields_of crc7_of remainder divide bits command_for with_cards command_on command_at card_after frame_from line_of cid_line and_line any_ready longest_of padded line contested wins together command_of row_of move_of taken_of acted_of after_checks judged_of tagging_of argument_fault reset_told obeyed awaited_by change_of response_of answered class_of word_of sent_bytes r1_frame r2_frame r3_frame sealed holding refused_make
bus_resets_spi e = let z : ◌≡◌ {A = ℕ} 0 1 = cc in omega arith

damage_told_spi : (at (after (in_spi (card Tran 0x00FF8000 1)) (ready 2) damaged) 0).link.errors.bits ≡ 0x00800000 → ⊥
unfolding bus_frame framing_of fields_of crc7_of remainder divide bits with_cards damaged_link refused_make
damage_told_spi e = omega arith

spi_ready_sends : (bus_frame (bus (in_spi (ready 1) ∷ [])) cmd2).shown ≡ Ok (Some 17) → ⊥
unfolding bus_frame framing_of fields_of crc7_of remainder divide bits command_for with_cards command_on command_at card_after frame_from line_of cid_line and_line any_ready longest_of padded line contested wins together command_of row_of move_of taken_of acted_of after_checks judged_of tagging_of argument_fault reset_told obeyed awaited_by change_of response_of answered class_of word_of sent_bytes r1_frame r2_frame r3_frame sealed holding refused_make
spi_ready_sends e = let z : ◌≡◌ {A = ℕ} 0 1 = cc in omega arith

spi_ready_beats : get_or (shows (in_spi (ready 1)) (ready 2) cmd2) 16 0 ≡ 1 → ⊥
unfolding bus_frame framing_of fields_of crc7_of remainder divide bits command_for with_cards command_on command_at card_after frame_from line_of cid_line and_line any_ready longest_of padded line contested wins together command_of row_of move_of taken_of acted_of after_checks judged_of tagging_of argument_fault reset_told obeyed awaited_by change_of response_of answered class_of word_of sent_bytes r1_frame r2_frame r3_frame sealed holding refused_make
spi_ready_beats e = omega arith

spi_ready_moves : (at (after (in_spi (ready 1)) (ready 2) cmd2) 0).link.state ≡ Ident → ⊥
unfolding bus_frame framing_of fields_of crc7_of remainder divide bits command_for with_cards command_on command_at card_after frame_from line_of cid_line and_line any_ready longest_of padded line contested wins together command_of row_of move_of taken_of acted_of after_checks judged_of tagging_of argument_fault reset_told obeyed awaited_by change_of response_of answered class_of word_of sent_bytes r1_frame r2_frame r3_frame sealed holding refused_make
spi_ready_moves e = let z : ◌≡◌ {A = ℕ} 0 1 = cc in omega arith
