-- Registers as numbers, byte by byte.
--   number_less   the bytes of one come before those of the other, as lists, exactly if its number is smaller
--   number_same   registers have the same bytes exactly if they have the same number
-- Assumes nothing.
use mathlib.Core.Path.{◌≡◌, refl, sym, ap, ap₂, ◌∙◌, subst}
use mathlib.Core.List.{List, [], ◌∷◌}
use Prim.Native.Nat.{ℕ, ◌+◌, ◌*◌, ◌^◌, ◌<◌}
use native.Mathlib.Nat.{le_refl, suc-mul, mul-le-mul_right}
use native.Mathlib.Omega.{arith}
use borrow.Author.Tests.{eq-eqb, ne_eqb, lt-ltb, le-ltb}
use lib.Dec.{eqb, ltb}
use lib.ListN.{length}
use lib.Pointwise.{pointwise}
use Rattle.std.specs.Cmp.Lexicographic.{slice_cmp}
use Rattle.std.specs.Ordering.{is_lt, nat_cmp}
use Rattle.std.proofs.lemmas.Cmp.{by_ranked, ranked}
use Rattle.std.proofs.lemmas.Slice.Eq.{bytes_eq-Decides}
use Rattle.base.proofs.Cases.{cases, opposite}
use Rattle.crc.proofs.Bits.{onward_is, onward_bits, spelt_lt, bits_below, length_bits, bits_of_spelt, octets_bits}
use Rattle.crc.specs.Bits.{bits_of, bits, onward, spelt, octets, Below}
use Rattle.shared_line.specs.Lowest.{cid_number}

-- a smaller number in front, and as many bits behind it
onward_less : (s t : ℕ) (a b : List ℕ) → length a ≡ length b → s < t → onward s (bits a) < onward t (bits b)
onward_less s t a b e h =
    let m : ℕ = 2 ^ length (bits b) in
    let n : length (bits a) ≡ length (bits b) = length_bits a ∙ ap (λ (k : ℕ). k * 8) e ∙ sym (length_bits b) in
    let small : spelt (bits a) < m = subst (λ (k : ℕ). spelt (bits a) < 2 ^ k) n (spelt_lt (bits a) (bits_below a)) in
    let x : onward s (bits a) ≡ s * m + spelt (bits a) = onward_is s (bits a) ∙ ap (λ (k : ℕ). s * 2 ^ k + spelt (bits a)) n in
    let y : onward t (bits b) ≡ t * m + spelt (bits b) = onward_is t (bits b) in
    omega (arith, mul-le-mul_right m h, suc-mul s m)

onward_order : (s : ℕ) (a b : List ℕ) → length a ≡ length b → Below 256 a → Below 256 b
    → is_lt (slice_cmp nat_cmp a b) ≡ ltb (onward s (bits a)) (onward s (bits b))
onward_order s [] [] e wa wb = sym (le-ltb (onward s (bits [])) (onward s (bits [])) (le_refl (onward s (bits []))))
onward_order s [] (y ∷ b) e wa wb = absurd (omega arith)
onward_order s (x ∷ a) [] e wa wb = absurd (omega arith)
onward_order s (x ∷ a) (y ∷ b) e wa wb =
    let u : ℕ = s * 256 + x in
    let v : ℕ = s * 256 + y in
    rw (onward_bits s x a wa.0, onward_bits s y b wb.0)
    (by_ranked (x < y) (x ≡ y) (y < x) (nat_cmp x y) (ranked x y (nat_cmp x y) refl)
    (λ o h. rw o (sym (lt-ltb (onward u (bits a)) (onward v (bits b)) (onward_less u v a b (omega arith) (omega arith)))))
    (λ o h. rw o (onward_order u a b (omega arith) wa.1 wb.1 ∙ ap (λ (k : ℕ). ltb (onward u (bits a)) (onward (s * 256 + k) (bits b))) h))
    (λ o h. rw o (sym (le-ltb (onward u (bits a)) (onward v (bits b)) (let less = onward_less v u b a (omega arith) (omega arith) in omega arith)))))

pub number_less : (a b : List ℕ) → length a ≡ length b → Below 256 a → Below 256 b
    → is_lt (slice_cmp nat_cmp a b) ≡ ltb (cid_number a) (cid_number b)
unfolding cid_number
number_less a b = onward_order 0 a b

pub number_bytes : (a b : List ℕ) → length a ≡ length b → Below 256 a → Below 256 b → cid_number a ≡ cid_number b → a ≡ b
unfolding cid_number
number_bytes a b n wa wb e =
    let long : length (bits a) ≡ length (bits b) = length_bits a ∙ ap (λ (k : ℕ). k * 8) n ∙ sym (length_bits b) in
    let sent : bits a ≡ bits b =
    sym (bits_of_spelt (bits a) (bits_below a)) ∙ ap₂ bits_of long e ∙ bits_of_spelt (bits b) (bits_below b)
    in
    sym (octets_bits a wa) ∙ ap₂ octets n sent ∙ octets_bits b wb

pub number_same : (a b : List ℕ) → length a ≡ length b → Below 256 a → Below 256 b
    → pointwise eqb a b ≡ eqb (cid_number a) (cid_number b)
number_same a b n wa wb =
    let told = bytes_eq-Decides a b in
    cases (pointwise eqb a b)
    (λ t. t ∙ sym (eq-eqb (cid_number a) (cid_number b) (ap cid_number (told.0 t))))
    (λ t. t ∙ sym (ne_eqb (cid_number a) (cid_number b) (λ e. opposite (pointwise eqb a b) (told.1 (number_bytes a b n wa wb e)) t)))
