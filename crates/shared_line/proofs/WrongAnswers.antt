-- Wrong answers that the promises rule out, each refuted at a sample that antt computes: a call's answer is the definition, so a call
-- that gave the wrong answer would make the two equal. (Others are tried as must-fail edits.)
--   nobody_sent      a CID before any was sent
--   first_dropped    the first CID not taken
--   nobody_low       a CID that is the smallest where none was sent
--   behind_dropped   a line that ends with the frame
--   frame_for_line   the frame's byte in place of the AND
-- Assumes nothing.
use mathlib.Core.Path.{◌≡◌, sym, ap}
use mathlib.Core.Bool.{true, false}
use mathlib.Core.List.{List, [], ◌∷◌}
use Prim.Native.Nat.{ℕ}
use native.Mathlib.Omega.{arith}
use lib.ListN.{length, get_or, replicate}
use Rattle.std.specs.Prelude.{Some}
use Rattle.base.proofs.Cases.{clash, never}
use Rattle.shared_line.specs.Bytes.{anded}
use Rattle.shared_line.specs.Lowest.{no_low, is_lower, is_low}

nobody_sent : (cid : List ℕ) → no_low ≡ Some cid → ⊥
unfolding no_low
nobody_sent cid e = clash cc

first_dropped : is_lower no_low (replicate 16 0xFF) ≡ false → ⊥
unfolding no_low is_lower
first_dropped e = never (sym e)

nobody_low : is_low no_low (replicate 16 0) ≡ true → ⊥
unfolding no_low is_low
nobody_low e = never e

behind_dropped : length (anded (0xFF ∷ 0x0F ∷ []) (0xF0 ∷ [])) ≡ 1 → ⊥
unfolding anded
behind_dropped e = omega arith

frame_for_line : anded (0x0F ∷ []) (0xF0 ∷ []) ≡ 0xF0 ∷ [] → ⊥
unfolding anded
frame_for_line e = let z : ◌≡◌ {A = ℕ} 0 0xF0 = ap (λ (l : List ℕ). get_or l 0 0) e in omega arith
