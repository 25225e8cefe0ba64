-- A sum that is taken byte by byte, over the sum f and its step.
--   turn    a step from the sum of the first i bytes is the sum of the first i + 1
-- Assumes nothing.
use mathlib.Core.Path.{◌≡◌, sym, ap, ◌∙◌}
use mathlib.Core.List.{List, [], ◌∷◌, ◌++◌}
use Prim.Native.Nat.{ℕ, ◌+◌, ◌<◌}
use native.Mathlib.Numerals.{add-one}
use lib.ListN.{length, take, get_or}
use lib.Seq.{take-suc}

pub turn : (f : List ℕ → ℕ) (step : ℕ → ℕ → ℕ) → ((bs : List ℕ) (b : ℕ) → f (bs ++ (b ∷ [])) ≡ step (f bs) b)
    → (s : List ℕ) (i c r : ℕ) → i < length s → c ≡ f (take i s) → r ≡ step c (get_or s i 0) → r ≡ f (take (i + 1) s)
turn f step law s i c r h ec er =
    er ∙ ap (λ (x : ℕ). step x (get_or s i 0)) ec ∙ sym (law (take i s) (get_or s i 0))
    ∙ ap f (sym (take-suc s i 0 h) ∙ ap (λ (k : ℕ). take k s) (sym (add-one i)))
