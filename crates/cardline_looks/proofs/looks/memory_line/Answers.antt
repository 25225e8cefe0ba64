-- `cardline_looks::looks::memory_line` meets its contract: the bytes are a part of the memory.
-- Assumes nothing.
use mathlib.Core.Path.{ap}
use mathlib.Core.List.{List}
use Prim.Native.Nat.{ℕ, ◌<◌}
use native.Mathlib.Omega.{arith}
use borrow.Author.Rules.{rules}
use lib.ListN.{take, drop, length-take}
use Rattle.text.proofs.Lengths.{word_short}
use Rattle.text.proofs.Writing.{put_as}
use Rattle.text.specs.Lines.{word_line}
use Rattle.cardline_looks.specs.Words.{mem_word}
use Rattle.cardline_looks.specs.Looks.{memory_text}
use Rattle.cardline_looks.proofs.looks.memory_line.Goals as goal

pub returns : goal.returns
unfolding memory_text
returns c =
    let a = c.args in
    let bytes : List ℕ = take a.n (drop a.from a.memory.now) in
    let small : a.n < 65536 = search rules in
    record {
      put = put_as (ap (word_line a.count mem_word) c.part.ensures.part) c.say.ensures;
      short = omega (arith, length-take a.n (drop a.from a.memory.now), small, word_short a.count mem_word bytes);
    }
