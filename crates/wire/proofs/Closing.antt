-- A block closed by its check sum.
--   closed    where a payload stands at the front of an output, the two bytes of its sum written behind it make the block
-- Assumes nothing.
use mathlib.Core.Path.{◌≡◌, sym, ap, ap₂, ◌∙◌}
use mathlib.Core.List.{List, [], ◌∷◌, ◌++◌, append_assoc}
use Prim.Native.Nat.{ℕ, ◌+◌, ◌-◌, ◌/◌, ◌%◌, ◌^◌, ◌<◌}
use native.Mathlib.Omega.{arith}
use borrow.Rule.Slice.PartMut.{put_mid}
use lib.ListN.{length, drop}
use lib.Seq.{take_at, drop_at, drop-drop}
use Rattle.std.specs.Int.{w16, to_be_bytes}
use Rattle.crc.specs.Crc.{crc16}
use Rattle.wire.specs.Blocks.{block_of}

-- p is the payload, o the output at entry and l with the payload at its front, s the sum and b its two bytes
pub closed : (p o l b : List ℕ) (n s : ℕ) → length p ≡ n → l ≡ p ++ drop n o → b ≡ to_be_bytes w16 s → s < 2 ^ 16 → s ≡ crc16 p
    → put_mid n (n + 2 - n) l b ≡ block_of p ++ drop (n + 2) o
unfolding block_of
closed p o l b n s en el eb hs es =
    let high : s / 256 % 256 ≡ s / 256 = omega arith in
    let behind : n + 2 - n ≡ 2 = omega arith in
    let sum : b ≡ crc16 p / 256 ∷ crc16 p % 256 ∷ [] = eb ∙ ap (λ (x : ℕ). x ∷ s % 256 ∷ []) high ∙ ap (λ (x : ℕ). x / 256 ∷ x % 256 ∷ []) es in
    ap₂ (put_mid n (n + 2 - n)) el sum
    ∙ ap₂ (λ (x y : List ℕ). x ++ ((crc16 p / 256 ∷ crc16 p % 256 ∷ []) ++ y)) (take_at p (drop n o) n en)
    (ap₂ (λ (k : ℕ) (x : List ℕ). drop k x) behind (drop_at p (drop n o) n en) ∙ drop-drop 2 n o)
    ∙ sym (append_assoc p (crc16 p / 256 ∷ crc16 p % 256 ∷ []) (drop (n + 2) o))
