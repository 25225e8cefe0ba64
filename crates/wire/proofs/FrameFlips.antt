-- Any one flipped bit of a good frame is refused: 2 for a framing bit, 3 for every other of the 48.
--   flip_refused
-- Assumes nothing.
use mathlib.Core.Path.{◌≡◌, refl, sym, ap, ap₂, ◌∙◌, subst}
use mathlib.Core.Bool.{Bool, true, false}
use mathlib.Core.List.{List, [], ◌∷◌}
use Prim.Native.Nat.{ℕ, zero, suc, ◌+◌, ◌-◌, ◌*◌, ◌<◌}
use native.Mathlib.Nat.{suc-add, zero-add}
use native.Mathlib.Omega.{arith}
use borrow.Author.Tests.{eq-eqb, ne_eqb, eqb-true, eqb-false}
use lib.Dec.{eqb}
use lib.ListN.{length, take, drop, get_or, set, length-set}
use lib.Seq.{drop-cons, get_or-set_same, get_or-set_other, get_or-take, take-nil, take-set-lt, take-take, length-take-le}
use Rattle.base.specs.Choice.{pick, unless}
use Rattle.base.specs.Refusals.{by}
use Rattle.base.proofs.Cases.{cases}
use Rattle.crc.specs.Bits.{bits, spelt, Below}
use Rattle.crc.specs.Crc.{remainder, generator7}
use Rattle.crc.specs.Flip.{flip}
use Rattle.crc.proofs.Bits.{below_take, bits_below, bits_octets, length_bits, length_octets}
use Rattle.crc.proofs.Flips.{flip_below, flip_found}
use Rattle.crc.proofs.Steps.{low7, p7}
use Rattle.wire.specs.Flipped.{flipped, framing_bit}
use Rattle.wire.specs.Frames.{crc7_of, field, fields_of, framing_of, checked, frame_of, as_command}
use Rattle.wire.proofs.FrameTheorems.{Sent, read}
use Rattle.std.specs.Prelude.{Ok, Err}

-- a field of one bit is that bit
one : (w : List ℕ) (j : ℕ) → j < length w → field w j 1 ≡ get_or w j 0
one w j h = ap (λ (l : List ℕ). spelt (take 1 l)) (drop-cons w j 0 h) ∙ zero-add (get_or w j 0)

drop_take : (m n : ℕ) (w : List ℕ) → drop m (take (m + n) w) ≡ take n (drop m w)
drop_take zero n w = ap (λ (k : ℕ). take k w) (zero-add n)
drop_take (suc m) n [] = ap (λ (k : ℕ). drop (suc m) (take k [])) (suc-add m n) ∙ sym (take-nil n)
drop_take (suc m) n (x ∷ w) = ap (λ (k : ℕ). drop (suc m) (take k (x ∷ w))) (suc-add m n) ∙ drop_take m n w

-- how bits are refused, by the first thing that is wrong with them
module _ (v : List ℕ) where
  bad_start : field v 0 1 ≡ 1 → checked (fields_of v) ≡ Err (by 2)
  unfolding fields_of
  bad_start e = simp e

  bad_transmission : field v 0 1 ≡ 0 → field v 1 1 ≡ 0 → checked (fields_of v) ≡ Err (by 2)
  unfolding fields_of
  bad_transmission e0 e1 = simp (e0, e1)

  bad_end : field v 0 1 ≡ 0 → field v 1 1 ≡ 1 → field v 47 1 ≡ 0 → checked (fields_of v) ≡ Err (by 2)
  unfolding fields_of
  bad_end e0 e1 e47 = simp (e0, e1, e47)

  bad_crc : field v 0 1 ≡ 0 → field v 1 1 ≡ 1 → field v 47 1 ≡ 1 → (field v 40 7 ≡ crc7_of (take 40 v) → ⊥) → checked (fields_of v) ≡ Err (by 3)
  unfolding fields_of
  bad_crc e0 e1 e47 d = simp (e0, e1, e47, ne_eqb (field v 40 7) (crc7_of (take 40 v)) d)

module _ (w : List ℕ) (i a : ℕ) (s : Sent w i a) (b : Below 2 w) (n : length w ≡ 48) (k : ℕ) (hk : k < 48) where
  -- a bit that is not flipped is as it was, and the one that is is the other
  kept : (j : ℕ) → j < 48 → (j ≡ k → ⊥) → field (flip k w) j 1 ≡ field w j 1
  kept j h d =
      one (flip k w) j (rw (length-set w k (1 - get_or w k 0)) (omega arith)) ∙ get_or-set_other w k j (1 - get_or w k 0) 0 d ∙ sym (one w j (omega arith))

  turned : (j x : ℕ) → j ≡ k → field w j 1 ≡ x → field (flip k w) j 1 ≡ 1 - x
  turned j x e f =
      ap (λ (m : ℕ). field (flip k w) m 1) e
      ∙ one (flip k w) k (rw (length-set w k (1 - get_or w k 0)) (omega arith))
      ∙ get_or-set_same w k (1 - get_or w k 0) 0 (omega arith)
      ∙ ap (λ (m : ℕ). 1 - get_or w m 0) (sym e)
      ∙ ap (λ (m : ℕ). 1 - m) (sym (one w j (omega arith)) ∙ f)

  -- the CRC7 and the 40 bits before it are 47 bits
  crc_of : (v : List ℕ) → (field v 40 7 ≡ crc7_of (take 40 v)) ≡ (spelt (drop 40 (take 47 v)) ≡ crc7_of (take 40 (take 47 v)))
  crc_of v = ap₂ (λ (x y : List ℕ). spelt x ≡ crc7_of y) (sym (drop_take 40 7 v)) (sym (take-take 40 47 v (omega arith)))

  first_47 : k < 47 → take 47 (flip k w) ≡ flip k (take 47 w)
  first_47 h = take-set-lt 47 w k (1 - get_or w k 0) h ∙ ap (λ (x : ℕ). set (take 47 w) k (1 - x)) (sym (get_or-take 47 w k 0 h))

  wrong : k < 47 → field (flip k w) 40 7 ≡ crc7_of (take 40 (flip k w)) → ⊥
  unfolding crc7_of
  wrong h e =
      flip_found 7 low7 p7 refl 40 k (take 47 w) (below_take 2 47 w b) (length-take-le 47 w (omega arith)) h
      (subst (λ (P : Type 0). P) (crc_of w) s.crc)
      (subst (λ (v : List ℕ). spelt (drop 40 v) ≡ remainder 7 generator7 (take 40 v)) (first_47 h) (subst (λ (P : Type 0). P) (crc_of (flip k w)) e))

  flip_sent : checked (fields_of (flip k w)) ≡ Err (pick (framing_bit k) (by 2) (by 3))
  flip_sent =
      cases (eqb k 0)
      (λ (e0 : eqb k 0 ≡ true). simp e0 (bad_start (flip k w) (turned 0 0 (sym (eqb-true k 0 e0)) s.start)))
      (λ (n0 : eqb k 0 ≡ false).
      let start = kept 0 (omega arith) (λ e. eqb-false k 0 n0 (sym e)) ∙ s.start in
      cases (eqb k 1)
      (λ (e1 : eqb k 1 ≡ true). simp (n0, e1) (bad_transmission (flip k w) start (turned 1 1 (sym (eqb-true k 1 e1)) s.transmission)))
      (λ (n1 : eqb k 1 ≡ false).
      let transmission = kept 1 (omega arith) (λ e. eqb-false k 1 n1 (sym e)) ∙ s.transmission in
      cases (eqb k 47)
      (λ (e47 : eqb k 47 ≡ true). simp (n0, n1, e47) (bad_end (flip k w) start transmission (turned 47 1 (sym (eqb-true k 47 e47)) s.end)))
      (λ (n47 : eqb k 47 ≡ false).
      let end = kept 47 (omega arith) (λ e. eqb-false k 47 n47 (sym e)) ∙ s.end in
      let d = eqb-false k 47 n47 in
      simp (n0, n1, n47) (bad_crc (flip k w) start transmission end (wrong (omega arith))))))

pub flip_refused : (f : List ℕ) (i a : ℕ) → frame_of f ≡ Ok (as_command i a) → (k : ℕ) → k < 48 → frame_of (flipped k f) ≡ Err (pick (framing_bit k) (by 2) (by 3))
unfolding frame_of framing_of
flip_refused f i a e k hk =
    let r = read f i a e in
    let w : List ℕ = bits f in
    let b : Below 2 w = bits_below f in
    let n : length w ≡ length f * 8 = length_bits f in
    let n48 : length w ≡ 48 = n ∙ ap (λ (m : ℕ). m * 8) r.0 in
    let six : length (flipped k f) ≡ 6 = length_octets (length f) (flip k w) ∙ r.0 in
    let is : bits (flipped k f) ≡ flip k w = bits_octets (length f) (flip k w) (length-set w k (1 - get_or w k 0) ∙ n) (flip_below k w b) in
    ap₂ (λ (t : Bool) (v : List ℕ). checked (unless t (Err (by 1)) (fields_of v))) (eq-eqb (length (flipped k f)) 6 six) is
    ∙ flip_sent w i a r.1 b n48 k hk
