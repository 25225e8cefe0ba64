-- Wrong answers that the promises of the small tools rule out, each refuted at a sample that antt computes.
--   larger      the larger of two numbers for the smaller (std's `min`)
--   first       the first of two numbers, whichever is smaller
--   byte_left   a byte that is not made the value
--   longer      a byte more than there were
--   behind_changed    a byte behind a copy changed
--   from_the_front    a copy to the front, where a place was told
--   all_or_nothing    nothing copied where there is no room for all
--   past_the_end      a copy to a place past the end that changes anything
-- Assumes nothing.
use mathlib.Core.Path.{◌≡◌, ap}
use mathlib.Core.List.{List, [], ◌∷◌}
use Prim.Native.Nat.{ℕ, min}
use native.Mathlib.Omega.{arith}
use lib.ListN.{length, get_or, replicate}
use Rattle.base.specs.Output.{copied}

larger : min 1 2 ≡ 2 → ⊥
larger e = omega arith

first : min 2 1 ≡ 2 → ⊥
first e = omega arith

abbrev two : List ℕ
two = 1 ∷ 2 ∷ []

byte_left : replicate {A = ℕ} (length two) 0xFF ≡ 0xFF ∷ 2 ∷ [] → ⊥
byte_left e = let z : ◌≡◌ {A = ℕ} 0xFF 2 = ap (λ (l : List ℕ). get_or l 1 0) e in omega arith

longer : replicate {A = ℕ} (length two) 0xFF ≡ 0xFF ∷ 0xFF ∷ 0xFF ∷ [] → ⊥
longer e = let z : ◌≡◌ {A = ℕ} 2 3 = ap length e in omega arith

behind_changed : copied (7 ∷ []) two 0 ≡ 7 ∷ 0 ∷ [] → ⊥
behind_changed e = let z : ◌≡◌ {A = ℕ} 2 0 = ap (λ (l : List ℕ). get_or l 1 0) e in omega arith

from_the_front : copied (7 ∷ []) two 1 ≡ 7 ∷ 2 ∷ [] → ⊥
from_the_front e = let z : ◌≡◌ {A = ℕ} 1 7 = ap (λ (l : List ℕ). get_or l 0 0) e in omega arith

all_or_nothing : copied (7 ∷ 8 ∷ []) two 1 ≡ two → ⊥
all_or_nothing e = let z : ◌≡◌ {A = ℕ} 7 2 = ap (λ (l : List ℕ). get_or l 1 0) e in omega arith

past_the_end : copied (7 ∷ []) two 3 ≡ 1 ∷ 2 ∷ 7 ∷ [] → ⊥
past_the_end e = let z : ◌≡◌ {A = ℕ} 2 3 = ap length e in omega arith
