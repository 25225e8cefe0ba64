-- `card_blocks::blocks_out::protection_bytes` meets its contract: the four bytes are the 32 bits, highest first.
-- Assumes nothing.
use mathlib.Core.Path.{◌≡◌, sym, ap, ◌∙◌}
use mathlib.Core.List.{List}
use Prim.Native.Nat.{ℕ, ◌^◌, ◌<◌}
use native.Mathlib.Omega.{arith}
use borrow.Author.Rules.{rules}
use Rattle.std.specs.Int.{w32, to_be_bytes}
use Rattle.crc.proofs.Bits.{octets_bits}
use Rattle.crc.specs.Bits.{bits_of, octets}
use Rattle.store.specs.Map.{protection_bits}
use Rattle.wire.proofs.InBytes.{bytes4, word_bytes, word_bits}
use Rattle.card_blocks.specs.BlockOut.{protection_bytes}
use Rattle.card_blocks.proofs.blocks_out.protection_bytes.Goals as goal

-- the four bytes of 32 bits, highest first
four : (map : List ℕ) (group n : ℕ) → n < 2 ^ 32 → n ≡ protection_bits map group → to_be_bytes w32 n ≡ protection_bytes map group
unfolding protection_bytes
four map group n h e =
    word_bytes n h
    ∙ sym (ap (octets 4) (word_bits n) ∙ octets_bits (bytes4 n) (omega arith, (omega arith, (omega arith, (omega arith, tt)))))
    ∙ ap (λ (x : ℕ). octets 4 (bits_of 32 x)) e

pub returns : goal.returns
returns c =
    let a = c.args in
    c.to_be_bytes.ensures ∙ four a.map.now a.group _ (search rules) c.protection_bits.ensures.answer
