-- Wrong answers that the promises rule out, each refuted at a sample that antt computes: a call's answer is the definition, so a call
-- that gave the wrong answer would make the two equal. (Those of hex and decimal are in Shown.antt.)
--   part_from_front   a part from the front, where a place was told
--   part_filled       a part past the end, filled with zeros
--   behind_changed    a byte behind a copy changed
--   all_or_nothing    nothing copied where there is no room for all
--   past_the_end      a text of 5 bytes counted whole in an output of 3
-- Assumes nothing.
use mathlib.Core.Path.{◌≡◌, ap}
use mathlib.Core.List.{List, [], ◌∷◌}
use Prim.Native.Nat.{ℕ, ◌+◌, min}
use native.Mathlib.Omega.{arith}
use lib.ListN.{length, take, drop, get_or}
use Rattle.base.specs.Output.{copied}

abbrev bytes : List ℕ
bytes = 7 ∷ 8 ∷ 9 ∷ []

part_from_front : get_or (take 2 (drop 1 bytes)) 0 0 ≡ 7 → ⊥
part_from_front e = omega arith

part_filled : length (take 3 (drop 2 bytes)) ≡ 3 → ⊥
part_filled e = omega arith

behind_changed : copied (1 ∷ []) (9 ∷ 9 ∷ []) 0 ≡ 1 ∷ 0 ∷ [] → ⊥
behind_changed e = let d = ap (λ (l : List ℕ). get_or l 1 0) e in omega arith

all_or_nothing : copied (1 ∷ 2 ∷ []) (9 ∷ []) 0 ≡ 9 ∷ [] → ⊥
all_or_nothing e = let d = ap (λ (l : List ℕ). get_or l 0 0) e in omega arith

past_the_end : min (0 + 5) (length bytes) ≡ 5 → ⊥
past_the_end e = omega arith
