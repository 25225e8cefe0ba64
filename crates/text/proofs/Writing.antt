-- Laws of texts written into an output.
--   fits_front     what has room goes to the front whole
--   put_both       one text after the other is the text of both, whether there was room for it or not
--   put_none       no text
--   put_as         the same text, said otherwise
--   put_whole      where there is room for it a text is written whole
--   wrote_part     a text at the front of the output's part from a place on is written from that place on
--   wrote_both     one whole text after the other
--   wrote_none     no text
--   wrote_as       the same text, said otherwise
--   wrote_at       a text that is written from the front on stands at the front
--   wrote_line     and ends at its length
--   line_as, line_most   the same line, said otherwise; a line that is not longer than more bytes
--   line_whole     where there is room for it a line is written whole
-- Assumes nothing.
use mathlib.Core.Path.{◌≡◌, refl, sym, ap, ap₂, ◌∙◌, subst}
use mathlib.Core.Bool.{true, false}
use mathlib.Core.List.{List, [], ◌++◌, append_assoc, append-nil}
use Prim.Native.Nat.{ℕ, ◌+◌, ◌-◌, ◌≤◌, ◌<◌, min}
use native.Mathlib.Omega.{arith}
use lib.ListN.{length, take, drop, length-append, length-drop, drop_of_length-le, take-append-drop}
use lib.Seq.{take_all, take_at, drop_at, drop-drop, length-take-le, take-append-le, take-append-add, paste, paste-zero}
use borrow.Author.Tests.{leb-true, leb-false}
use lib.Dec.{leb}
use Rattle.base.proofs.Cases.{cases}
use Rattle.base.proofs.Copying.{copied_front, copied_whole, copied_length}
use Rattle.base.specs.Output.{copied}
use Rattle.text.specs.Writing.{Put, Wrote, Line}

pub fits_front : (s o : List ℕ) → length s ≤ length o → copied s o 0 ≡ s ++ drop (length s) o
fits_front s o h = copied_front s o ∙ ap (λ (x : List ℕ). x ++ drop (length s) o) (take_all (length o) s h)

-- a text written over an output from a place on, and another from the place behind it
module _ (o a b : List ℕ) (at : ℕ) where
  whole_then : at + length a ≤ length o → copied b (copied a o at) (at + length a) ≡ copied (a ++ b) o at
  whole_then h =
      let f : List ℕ = take at o ++ a in
      let p : ℕ = at + length a in
      let once : copied a o at ≡ f ++ drop p o =
      copied_whole a o at h ∙ ap (λ (l : List ℕ). take at o ++ l ++ drop p o) (take_all (length a) a (omega arith))
      in
      let n : length f ≡ p = length-append (take at o) a ∙ omega (arith, length-take-le at o (omega arith)) in
      let l = copied_length a o at in
      let j : ℕ = min (length b) (length o - p) in
      let ej : min (length b) (length (copied a o at) - p) ≡ j = omega arith in
      let ek : min (length (a ++ b)) (length o - at) ≡ length a + j = omega (arith, length-append a b) in
      let e : p + j ≡ at + (length a + j) = omega arith in
      ap (paste (copied a o at) p b) ej
      ∙ ap (λ (x : List ℕ). take p x ++ take j b ++ drop (p + j) x) once
      ∙ ap₂ (λ (x y : List ℕ). x ++ take j b ++ y) (take_at f (drop p o) p n)
      (sym (drop-drop j p (f ++ drop p o)) ∙ ap (drop j) (drop_at f (drop p o) p n) ∙ drop-drop j p o)
      ∙ ap₂ (λ (x y : List ℕ). x ++ y) (append_assoc (take at o) a (take j b) ∙ ap (λ (x : List ℕ). take at o ++ x) (sym (take-append-add a b j)))
      (ap (λ (m : ℕ). drop m o) e)
      ∙ ap (paste o at (a ++ b)) (sym ek)

  cut_then : length o < at + length a → copied b (copied a o at) (length o) ≡ copied (a ++ b) o at
  cut_then h =
      let l = copied_length a o at in
      let m : ℕ = length o - at in
      let none : min (length b) (length (copied a o at) - length o) ≡ 0 = omega arith in
      let ea : min (length a) (length o - at) ≡ m = omega arith in
      let eb : min (length (a ++ b)) (length o - at) ≡ m = omega (arith, length-append a b) in
      ap (paste (copied a o at) (length o) b) none
      ∙ sym (paste-zero (copied a o at) (length o) b)
      ∙ ap (paste o at a) ea
      ∙ ap (λ (x : List ℕ). take at o ++ x ++ drop (at + m) o) (sym (take-append-le m a b (omega arith)))
      ∙ ap (paste o at (a ++ b)) (sym eb)

  then : (p : ℕ) → p ≡ min (at + length a) (length o) → copied b (copied a o at) p ≡ copied (a ++ b) o at
  then p e =
      cases (leb (at + length a) (length o))
      (λ (t : leb (at + length a) (length o) ≡ true).
      let h = leb-true (at + length a) (length o) t in
      let k : p ≡ at + length a = omega arith in
      ap (copied b (copied a o at)) k ∙ whole_then h)
      (λ (t : leb (at + length a) (length o) ≡ false).
      let h = leb-false (at + length a) (length o) t in
      let k : p ≡ length o = omega arith in
      ap (copied b (copied a o at)) k ∙ cut_then h)

pub put_both : {o p q : List ℕ} {a b c : ℕ} {t u : List ℕ} → Put o p a b t → Put p q b c u → Put o q a c (t ++ u)
put_both {o} {p} {q} {a} {b} {c} {t} {u} x y =
    let l = copied_length t o a in
    let e = ap length x.output in
    record {
      place = omega (arith, x.place, y.place, length-append t u);
      output = y.output ∙ ap (λ (m : List ℕ). copied u m b) x.output ∙ then o t u a b x.place;
    }

pub put_none : (o : List ℕ) (at r : ℕ) → r ≡ min at (length o) → Put o o at r []
put_none o at r e =
    let z : min 0 (length o - at) ≡ 0 = omega arith in
    record { place = omega arith; output = paste-zero o at [] ∙ ap (paste o at []) (sym z) }

pub put_as : {o p : List ℕ} {a b : ℕ} {t u : List ℕ} → t ≡ u → Put o p a b t → Put o p a b u
put_as {o} {p} {a} {b} e w = subst (λ (l : List ℕ). Put o p a b l) e w

-- o is the output before and q after
pub wrote_part : (o q t : List ℕ) (at k r : ℕ) → at + length t ≤ length o → length o - at ≤ k → r ≡ at + length t
    → q ≡ take at o ++ ((t ++ drop (length t) (drop at o)) ++ drop k (drop at o)) → Wrote o q at r t
wrote_part o q t at k r h hk er e =
    let none : drop k (drop at o) ≡ [] = drop_of_length-le (drop at o) {i = k} (omega (arith, length-drop at o)) in
    let f : List ℕ = take at o ++ t in
    let p : q ≡ f ++ drop r o =
    e ∙ ap (λ (l : List ℕ). take at o ++ ((t ++ drop (length t) (drop at o)) ++ l)) none
    ∙ ap (λ (l : List ℕ). take at o ++ l) (append-nil (t ++ drop (length t) (drop at o)))
    ∙ ap (λ (l : List ℕ). take at o ++ (t ++ l)) (drop-drop (length t) at o ∙ ap (λ (m : ℕ). drop m o) (sym er))
    ∙ sym (append_assoc (take at o) t (drop r o))
    in
    let n : length f ≡ r = length-append (take at o) t ∙ omega (arith, length-take-le at o (omega arith)) in
    record {
      end = er;
      front = ap (take r) p ∙ take_at f (drop r o) r n;
      back = ap (drop r) p ∙ drop_at f (drop r o) r n;
      same = ap length p ∙ length-append f (drop r o) ∙ omega (arith, length-drop r o);
    }

pub put_whole : {o p : List ℕ} {a r : ℕ} {t : List ℕ} → a + length t ≤ length o → Put o p a r t → Wrote o p a r t
put_whole {o} {p} {a} {r} {t} h w =
    let none : drop (length o) (drop a o) ≡ [] = drop_of_length-le (drop a o) {i = length o} (omega (arith, length-drop a o)) in
    let place = w.place in
    wrote_part o p t a (length o) r h (omega arith) (omega arith)
    (w.output ∙ copied_whole t o a h
    ∙ ap (λ (l : List ℕ). take a o ++ l ++ drop (a + length t) o) (take_all (length t) t (omega arith))
    ∙ append_assoc (take a o) t (drop (a + length t) o)
    ∙ ap (λ (l : List ℕ). take a o ++ (t ++ l)) (sym (drop-drop (length t) a o))
    ∙ ap (λ (l : List ℕ). take a o ++ l) (sym (append-nil (t ++ drop (length t) (drop a o))))
    ∙ ap (λ (l : List ℕ). take a o ++ ((t ++ drop (length t) (drop a o)) ++ l)) (sym none))

pub wrote_both : {o p q : List ℕ} {a b c : ℕ} {t u : List ℕ} → Wrote o p a b t → Wrote p q b c u → Wrote o q a c (t ++ u)
wrote_both {o} {p} {q} {a} {b} {c} {t} {u} x y =
    record {
      end = omega (arith, x.end, y.end, length-append t u);
      front = y.front ∙ ap (λ (l : List ℕ). l ++ u) x.front ∙ append_assoc (take a o) t u;
      back =
          y.back ∙ ap (λ (k : ℕ). drop k p) y.end ∙ sym (drop-drop (length u) b p) ∙ ap (drop (length u)) x.back ∙ drop-drop (length u) b o
          ∙ ap (λ (k : ℕ). drop k o) (sym y.end);
      same = y.same ∙ x.same;
    }

pub wrote_as : {o p : List ℕ} {a b : ℕ} {t u : List ℕ} → t ≡ u → Wrote o p a b t → Wrote o p a b u
wrote_as {o} {p} {a} {b} e w = subst (λ (l : List ℕ). Wrote o p a b l) e w

pub wrote_at : {o p : List ℕ} {r : ℕ} {t : List ℕ} → Wrote o p 0 r t → p ≡ t ++ drop r o
wrote_at {o} {p} {r} w = sym (take-append-drop r p) ∙ ap₂ (λ (x y : List ℕ). x ++ y) w.front w.back

pub wrote_none : (o : List ℕ) → Wrote o o 0 0 []
wrote_none o = record { end = refl; front = refl; back = refl; same = refl }

pub wrote_line : {o p : List ℕ} {r : ℕ} {t : List ℕ} → Wrote o p 0 r t → r ≡ length t
wrote_line w = omega (arith, w.end)

pub line_as : {m : ℕ} {o p : List ℕ} {r : ℕ} {t u : List ℕ} → t ≡ u → Line m o p r t → Line m o p r u
line_as {m} {o} {p} {r} e l = subst (λ (x : List ℕ). Line m o p r x) e l

pub line_most : {m n : ℕ} {o p : List ℕ} {r : ℕ} {t : List ℕ} → m ≤ n → Line m o p r t → Line n o p r t
line_most h l = record { put = l.put; short = omega (arith, l.short) }

pub line_whole : {m : ℕ} {o p : List ℕ} {r : ℕ} {t : List ℕ} → m ≤ length o → Line m o p r t → Wrote o p 0 r t
line_whole h l = put_whole (omega (arith, l.short)) l.put
