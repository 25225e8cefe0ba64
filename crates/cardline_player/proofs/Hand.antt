-- Laws of the bytes at hand.
--   hand_long   how many they are
--   hand_part   moved to the front, they are the same
-- Assumes nothing.
use mathlib.Core.Path.{◌≡◌, refl, sym, ap, ◌∙◌}
use mathlib.Core.List.{List, [], ◌∷◌}
use Prim.Native.Nat.{ℕ, zero, suc, ◌-◌, min}
use native.Mathlib.Omega.{arith}
use lib.ListN.{length, take, drop, length-drop, length-take}
use lib.Seq.{take_at, take-nil}
use Rattle.cardline_records.proofs.Lending.{lent_front}
use Rattle.playing.specs.Playing.{kept_of}
use Rattle.cardline_player.specs.Turn.{at_hand}

pub hand_long : (s : List ℕ) (from to : ℕ) → length (at_hand from to s) ≡ min to (length s) - from
hand_long s from to = omega (arith, length-drop from (take to s), length-take to s)

-- as many bytes from a place on as there are up to another one are the bytes at hand
part_hand : (s : List ℕ) (from to : ℕ) → take (min to (length s) - from) (drop from s) ≡ at_hand from to s
part_hand s zero to = let n : min to (length s) - 0 ≡ min to (length s) = omega arith in rw n (lent_front s to (min to (length s)) refl)
part_hand [] (suc from) to = take-nil (min to 0 - suc from) ∙ sym (ap (drop (suc from)) (take-nil to))
part_hand (x ∷ s) (suc from) zero = let n : min zero (length (x ∷ s)) - suc from ≡ 0 = omega arith in rw n
part_hand (x ∷ s) (suc from) (suc to) =
    let n : min (suc to) (length (x ∷ s)) - suc from ≡ min to (length s) - from = omega arith in
    rw n (part_hand s from to)

pub hand_part : (s : List ℕ) (from to : ℕ) → at_hand 0 (min to (length s) - from) (kept_of from (min to (length s) - from) s) ≡ at_hand from to s
hand_part s from to =
    let n = min to (length s) - from in
    take_at (take n (drop from s)) (drop n s) n (omega (arith, length-take n (drop from s), length-drop from s)) ∙ part_hand s from to
