-- Bytes copied over others.
--   copied_whole   what `base::copy` leaves where there is room for all of the bytes
--   copied_front   what it leaves from the front on
--   copied_length  as many bytes as there were
-- and a copy to the front of a list, an element at a time:
--   copy_turn      a store after the first i elements makes the first i + 1
--   copy_all       as many as there are is all of them
-- Assumes nothing.
use mathlib.Core.Path.{◌≡◌, sym, ap, ap₂, ◌∙◌}
use mathlib.Core.Bool.{true, false}
use mathlib.Core.List.{List, ◌++◌}
use Prim.Native.Nat.{ℕ, ◌+◌, ◌-◌, ◌≤◌, ◌<◌, min}
use native.Mathlib.Nat.{zero-add}
use native.Mathlib.Numerals.{add-one}
use native.Mathlib.Omega.{arith}
use borrow.Author.Tests.{leb-true, leb-false}
use lib.Dec.{leb}
use lib.ListN.{length, take, drop, get_or, set, length-append, length-take, length-drop, drop_of_length-le}
use lib.Seq.{paste, paste-suc, take-length, take_all}
use Rattle.base.proofs.Cases.{cases}
use Rattle.base.specs.Output.{copied}

pub copied_whole : (s o : List ℕ) (at : ℕ) → at + length s ≤ length o → copied s o at ≡ paste o at s (length s)
copied_whole s o at h = let all : min (length s) (length o - at) ≡ length s = omega arith in ap (paste o at s) all

pub copied_front : (s o : List ℕ) → copied s o 0 ≡ take (length o) s ++ drop (length s) o
copied_front s o =
    cases (leb (length s) (length o))
    (λ (t : leb (length s) (length o) ≡ true).
    let h : length s ≤ length o = leb-true (length s) (length o) t in
    let k : min (length s) (length o - 0) ≡ length s = omega arith in
    ap (λ (n : ℕ). take n s ++ drop (0 + n) o) k
    ∙ ap₂ (λ (x : List ℕ) (n : ℕ). x ++ drop n o) (take-length s ∙ sym (take_all (length o) s h)) (zero-add (length s)))
    (λ (t : leb (length s) (length o) ≡ false).
    let h : length o < length s = leb-false (length s) (length o) t in
    let k : min (length s) (length o - 0) ≡ length o = omega arith in
    ap (λ (n : ℕ). take n s ++ drop (0 + n) o) k
    ∙ ap (λ (x : List ℕ). take (length o) s ++ x)
    (drop_of_length-le o {i = 0 + length o} (omega arith) ∙ sym (drop_of_length-le o {i = length s} (omega arith))))

pub copied_length : (s o : List ℕ) (at : ℕ) → length (copied s o at) ≡ length o
copied_length s o at = simp (length-append, length-take, length-drop) (omega arith)

pub copy_turn : (s o : List ℕ) (i : ℕ) → i < length s → i < length o
    → set (take i s ++ drop i o) i (get_or s i 0) ≡ take (i + 1) s ++ drop (i + 1) o
copy_turn s o i hs ho =
    simp zero-add at (paste-suc o 0 s i 0 (rw zero-add ho) hs) ∙ ap (λ (k : ℕ). take k s ++ drop k o) (sym (add-one i))

pub copy_all : (s o : List ℕ) (i : ℕ) → i ≡ length s → take i s ++ drop i o ≡ s ++ drop (length s) o
copy_all s o i e = ap (λ (k : ℕ). take k s ++ drop k o) e ∙ ap (λ (r : List ℕ). r ++ drop (length s) o) (take-length s)
