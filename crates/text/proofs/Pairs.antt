-- Laws of the hex digits of bytes.
--   long    they are twice as many
--   both    those of some bytes and then more are those of both
--   turn    those of the first i + 1 bytes are those of the first i and two more
-- Assumes nothing.
use mathlib.Core.Path.{◌≡◌, refl, ap, ◌∙◌}
use mathlib.Core.List.{List, [], ◌∷◌, ◌++◌}
use Prim.Native.Nat.{ℕ, ◌+◌, ◌*◌, ◌/◌, ◌%◌, ◌<◌}
use native.Mathlib.Numerals.{add-one}
use native.Mathlib.Omega.{arith}
use lib.ListN.{length, take, get_or}
use lib.Seq.{take-suc}
use Rattle.text.specs.Text.{digit_of, hex_of}

pub long : (s : List ℕ) → length (hex_of s) ≡ length s * 2
unfolding hex_of
long [] = refl
long (b ∷ s) = omega (arith, long s)

pub both : (s t : List ℕ) → hex_of (s ++ t) ≡ hex_of s ++ hex_of t
unfolding hex_of
both [] t = refl
both (b ∷ s) t = ap (λ (l : List ℕ). digit_of (b / 16) ∷ digit_of (b % 16) ∷ l) (both s t)

pub turn : (s : List ℕ) (i : ℕ) → i < length s
    → hex_of (take (i + 1) s) ≡ hex_of (take i s) ++ (digit_of (get_or s i 0 / 16) ∷ digit_of (get_or s i 0 % 16) ∷ [])
unfolding hex_of
turn s i h = ap hex_of (ap (λ (m : ℕ). take m s) (add-one i) ∙ take-suc s i 0 h) ∙ both (take i s) (get_or s i 0 ∷ [])
