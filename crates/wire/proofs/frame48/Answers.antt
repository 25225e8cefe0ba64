-- `wire::frame48` meets its contract: by the law of a frame's bytes the five bytes and the one that closes them are its 48 bits.
-- Assumes nothing.
use mathlib.Core.Path.{◌≡◌, sym, ap, ◌∙◌}
use mathlib.Core.List.{List, [], ◌∷◌, ◌++◌}
use Prim.Native.Nat.{ℕ, ◌+◌, ◌*◌, ◌^◌, ◌<◌}
use native.Mathlib.Omega.{arith}
use borrow.Author.Rules.{rules}
use lib.ListN.{get_or}
use Rattle.std.specs.Int.{w32, to_be_bytes}
use Rattle.crc.specs.Bits.{bits_of, bits, octets}
use Rattle.crc.specs.Crc.{remainder, check_sum, generator7, crc7}
use Rattle.crc.proofs.Steps.{crc7_lt}
use Rattle.wire.specs.Frames.{sealed}
use Rattle.wire.proofs.InBytes.{bytes4, last_is, word_bytes, word_bits, frame_bytes}
use Rattle.wire.proofs.frame48.Goals as goal

-- the sum of a frame's 40 bits, by its five bytes
in_bytes : (first w : ℕ) → remainder 7 generator7 (bits_of 8 first ++ bits_of 32 w) ≡ crc7 (first ∷ bytes4 w)
unfolding crc7 check_sum bits
in_bytes first w = ap (λ (l : List ℕ). remainder 7 generator7 (bits_of 8 first ++ l)) (word_bits w)

-- r is the number's four bytes, s the sum of the first five
together : (first w s : ℕ) (r : List ℕ) → first < 256 → w < 2 ^ 32 → r ≡ to_be_bytes w32 w → s ≡ crc7 (first ∷ bytes4 w)
    → first ∷ get_or r 0 0 ∷ get_or r 1 0 ∷ get_or r 2 0 ∷ get_or r 3 0 ∷ (s * 2 + 1) ∷ [] ≡ octets 6 (sealed (bits_of 8 first ++ bits_of 32 w))
together first w s r hf hw er es =
    ap (λ (l : List ℕ). first ∷ get_or l 0 0 ∷ get_or l 1 0 ∷ get_or l 2 0 ∷ get_or l 3 0 ∷ (s * 2 + 1) ∷ []) (er ∙ word_bytes w hw)
    ∙ ap (λ (x : ℕ). (first ∷ bytes4 w) ++ (x ∷ [])) (ap (λ (x : ℕ). x * 2 + 1) es ∙ sym (last_is (first ∷ bytes4 w)))
    ∙ sym (frame_bytes first w hf hw)

-- the sum has 7 bits
small : (first w s : ℕ) → s ≡ remainder 7 generator7 (bits_of 8 first ++ bits_of 32 w) → s < 128
small first w s e = rw (e ∙ in_bytes first w) (crc7_lt (first ∷ bytes4 w))

pub overflow_mul-result : goal.overflow_mul-result
overflow_mul-result c = omega (arith, small c.args.first c.args.word _ c.crc7_frame.ensures.answer)

pub overflow_add-result : goal.overflow_add-result
overflow_add-result c = omega (arith, small c.args.first c.args.word _ c.crc7_frame.ensures.answer)

pub returns : goal.returns
returns c =
    let a = c.args in
    together a.first a.word _ _ (search rules) (search rules) c.to_be_bytes.ensures (c.crc7_frame.ensures.answer ∙ in_bytes a.first a.word)
