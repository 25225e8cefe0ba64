-- What stands at each place after n bytes of s were written over d from a place on.
--   under, over, past   before that place, in the n bytes, and behind them
-- Assumes nothing.
use mathlib.Core.Path.{◌≡◌, sym, ap, ◌∙◌}
use mathlib.Core.List.{List, ◌++◌}
use Prim.Native.Nat.{ℕ, ◌+◌, ◌≤◌, ◌<◌}
use native.Mathlib.Omega.{arith}
use lib.ListN.{length, take, get_or, get_or-append}
use lib.Seq.{paste, take-paste, drop-paste, length-take-le, get_or-take, get_or-drop, get_or-append-add}

module _ (d s : List ℕ) (at n : ℕ) (hd : at + n ≤ length d) (hs : n ≤ length s) where
  head : (p : ℕ) → p < at + n → get_or (paste d at s n) p 0 ≡ get_or (take at d ++ take n s) p 0
  head p h = sym (get_or-take (at + n) (paste d at s n) p 0 h) ∙ ap (λ (l : List ℕ). get_or l p 0) (take-paste d at s n (omega arith) hs)

  long : length (take at d) ≡ at
  long = length-take-le at d (omega arith)

  pub under : (p : ℕ) → p < at → get_or (paste d at s n) p 0 ≡ get_or d p 0
  under p h = head p (omega arith) ∙ get_or-append (take at d) (take n s) 0 p (omega (arith, long)) ∙ get_or-take at d p 0 h

  pub over : (j : ℕ) → j < n → get_or (paste d at s n) (at + j) 0 ≡ get_or s j 0
  over j h =
      head (at + j) (omega arith)
      ∙ ap (λ (k : ℕ). get_or (take at d ++ take n s) (k + j) 0) (sym long)
      ∙ get_or-append-add (take at d) (take n s) j 0
      ∙ get_or-take n s j 0 h

  pub past : (j : ℕ) → get_or (paste d at s n) (at + n + j) 0 ≡ get_or d (at + n + j) 0
  past j =
      sym (get_or-drop (at + n) (paste d at s n) j 0)
      ∙ ap (λ (l : List ℕ). get_or l j 0) (drop-paste d at s n (omega arith) hs)
      ∙ get_or-drop (at + n) d j 0
