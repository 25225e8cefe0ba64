-- The calls of the wire, kinds 0B to 0D: "0B, 0C and 0D concern no card, so they never give 12, whatever 09 lends".
-- Assumes nothing.
use Rattle.std.specs.Prelude.{List, [], ℕ, take, drop, Result, Ok, Err}
use Rattle.base.specs.Output.{laid}
use Rattle.cardline_looks.specs.Lines.{refused_line, blank}
use Rattle.text.specs.Lines.{word_line}
use Rattle.cardline_looks.specs.Words.{frame_word, data_word, good_word}
use Rattle.cardline_script.specs.declared.Wiring.{Wiring}
use Rattle.cardline_script.specs.declared.Wiring.TheVariants.{Frame, Block, Check}
use Rattle.wire.specs.Blocks.{block_of, block_written, checked_of}
use Rattle.wire.specs.Frames.{command_frame, indexed}
use Rattle.base.specs.declared.Refusal.{Refusal}

-- "`N frame HEX`, the whole lent output, or `N refused R HEX`, the same"
abbrev pub written_text : ℕ → List ℕ → Result ℕ Refusal → List ℕ → List ℕ
written_text count word (Ok n) output = word_line count word output
written_text count word (Err refusal) output = refused_line count refusal output

-- | 0B | write a command frame into a lent output of L bytes, all A5 |
unfoldable pub write_frame_text : ℕ → ℕ → ℕ → List ℕ → List ℕ
write_frame_text count index argument output =
    written_text count frame_word (indexed index (command_frame index argument) output)
    (laid (indexed index (command_frame index argument) output) (command_frame index argument) output)

-- | 0C | write the L bytes as a checked block into a lent output of O bytes, all A5 | `N data HEX` .. |
unfoldable pub write_block_text : ℕ → List ℕ → List ℕ → List ℕ
write_block_text count payload output =
    written_text count data_word (block_written payload output) (laid (block_written payload output) (block_of payload) output)

-- | 0D | check a block of L bytes, payload and CRC16 | `N good` or `N refused R` |
abbrev pub checked_text : ℕ → Result ℕ Refusal → List ℕ
checked_text count (Ok n) = word_line count good_word []
checked_text count (Err refusal) = refused_line count refusal []

abbrev pub wire_text : ℕ → Wiring → List ℕ → List ℕ
wire_text count (Frame index argument room) s = write_frame_text count index argument (blank room)
wire_text count (Block n room) s = write_block_text count (take n (drop 3 s)) (blank room)
wire_text count (Check n) s = checked_text count (checked_of (take n (drop 3 s)))
