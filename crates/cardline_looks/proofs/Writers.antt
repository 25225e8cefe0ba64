-- Laws of a writer's answer with the output that it was lent.
--   frame_text_lem, block_text_lem   the line of a written frame and of a written block
-- Assumes nothing.
use mathlib.Core.Path.{◌≡◌, ap, ◌∙◌}
use mathlib.Core.List.{List}
use Prim.Native.Nat.{ℕ}
use Rattle.base.specs.Output.{laid}
use Rattle.cardline_looks.specs.Words.{frame_word, data_word}
use Rattle.cardline_looks.specs.Wires.{written_text, write_frame_text, write_block_text}
use Rattle.wire.specs.Blocks.{block_of, block_written}
use Rattle.wire.specs.Frames.{command_frame, indexed}
use Rattle.std.specs.Prelude.{Result}
use Rattle.base.specs.declared.Refusal.{Refusal}

pub frame_text_lem : (count index argument : ℕ) (blank before after : List ℕ) (w : Result ℕ Refusal) → before ≡ blank
    → w ≡ indexed index (command_frame index argument) before → after ≡ laid w (command_frame index argument) before
    → written_text count frame_word w after ≡ write_frame_text count index argument blank
unfolding write_frame_text
frame_text_lem count index argument blank before after w eb ew ea =
    let frame : List ℕ = command_frame index argument in
    ap (written_text count frame_word w) ea
    ∙ ap (λ (x : Result ℕ Refusal). written_text count frame_word x (laid x frame before)) ew
    ∙ ap (λ (l : List ℕ). written_text count frame_word (indexed index frame l) (laid (indexed index frame l) frame l)) eb

pub block_text_lem : (count : ℕ) (payload blank before after : List ℕ) (w : Result ℕ Refusal) → before ≡ blank → w ≡ block_written payload before
    → after ≡ laid w (block_of payload) before → written_text count data_word w after ≡ write_block_text count payload blank
unfolding write_block_text
block_text_lem count payload blank before after w eb ew ea =
    ap (written_text count data_word w) ea
    ∙ ap (λ (x : Result ℕ Refusal). written_text count data_word x (laid x (block_of payload) before)) ew
    ∙ ap (λ (l : List ℕ). written_text count data_word (block_written payload l) (laid (block_written payload l) (block_of payload) l)) eb
