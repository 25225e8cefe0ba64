-- Wrong answers that the promises rule out, each refuted at a sample that antt computes: a call's answer is the definition, so a call
-- that gave the wrong answer would make the two equal.
--   not_moved    bytes from place 2 on left where they stand
--   all_moved    bytes behind the last moved too
--   behind_lost  the bytes behind those moved set to 0
-- Assumes nothing.
use mathlib.Core.Path.{◌≡◌, ap}
use mathlib.Core.List.{List, [], ◌∷◌}
use Prim.Native.Nat.{ℕ, ◌-◌, min}
use native.Mathlib.Omega.{arith}
use lib.ListN.{length, get_or}
use Rattle.playing.specs.Playing.{kept_of}

abbrev five : List ℕ
five = 1 ∷ 2 ∷ 3 ∷ 4 ∷ 5 ∷ []

not_moved : kept_of 2 2 five ≡ five → ⊥
not_moved e = let d = ap (λ (l : List ℕ). get_or l 0 0) e in omega arith

all_moved : min 4 (length five) - 2 ≡ 3 → ⊥
all_moved e = omega arith

behind_lost : get_or (kept_of 2 2 five) 4 0 ≡ 0 → ⊥
behind_lost e = omega arith
