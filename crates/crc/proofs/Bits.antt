-- Laws of bits and bytes: what the definitions of specs/Bits spell, and that they undo each other.
--   below_all, below_append, below_take, below_drop, bits_of_below, bits_below    lists of bits and their parts
--   bits_append               the bits of joined lists of bytes
--   length_bits_of, length_bits, length_octets
--   onward_is, spelt_lt       a number spelt is what came before, moved up, plus the rest, which is small
--   onward_bits_of, spelt_bits_of, bits_of_spelt, bits_of_low   the bits of a number spell it
--   bits_of_append             the bits of a number are those of its high part and of its low part
--   octets_bits, bits_octets, octets_below  bytes and their bits
--   onward_bits, word_spelt   the number that bytes spell, and of four of them
--   bits_take, bits_drop      the bits of a part
-- Assumes nothing.
use mathlib.Core.Path.{◌≡◌, refl, sym, ap, ap₂, ◌∙◌, subst}
use mathlib.Core.List.{List, [], ◌∷◌, ◌++◌}
use Prim.Native.Nat.{ℕ, zero, suc, ◌+◌, ◌*◌, ◌/◌, ◌%◌, ◌^◌, ◌≤◌, ◌<◌}
use native.Mathlib.Nat.{add_assoc, add_comm, add-mul, mul_assoc, mul_comm, pow-suc, suc-add, zero-add, zero-mul, mod-lt, mod-one, mod-eq_of_lt}
use native.Mathlib.Omega.{arith}
use lib.Arith.{digits_div, digits_mod, digits_lt, mod-mul}
use lib.ListN.{length, take, drop, get_or, length-append, length-drop, take-append-drop}
use lib.Pow.{pow_pos, shr-shr}
use lib.Seq.{length-take-le, take_at, drop_at}
use Rattle.crc.specs.Bits.{bits_of, bits, onward, spelt, octets, Below}

-- ---- lists of small numbers
pub below_all : (m : ℕ) (l : List ℕ) → ((i : ℕ) → get_or l i 0 < m) → Below m l
below_all m [] h = tt
below_all m (x ∷ l) h = (h 0, below_all m l (λ i. h (suc i)))

pub below_append : (m : ℕ) (xs ys : List ℕ) → Below m xs → Below m ys → Below m (xs ++ ys)
below_append m [] ys h k = k
below_append m (x ∷ xs) ys h k = (h.0, below_append m xs ys h.1 k)

pub below_take : (m n : ℕ) (xs : List ℕ) → Below m xs → Below m (take n xs)
below_take m zero xs h = tt
below_take m (suc n) [] h = tt
below_take m (suc n) (x ∷ xs) h = (h.0, below_take m n xs h.1)

pub below_drop : (m n : ℕ) (xs : List ℕ) → Below m xs → Below m (drop n xs)
below_drop m zero xs h = h
below_drop m (suc n) [] h = tt
below_drop m (suc n) (x ∷ xs) h = below_drop m n xs h.1

pub bits_of_below : (k x : ℕ) → Below 2 (bits_of k x)
bits_of_below zero x = tt
bits_of_below (suc k) x = (mod-lt (x / 2 ^ k) (omega arith), bits_of_below k x)

pub bits_below : (bs : List ℕ) → Below 2 (bits bs)
unfolding bits
bits_below [] = tt
bits_below (b ∷ bs) = below_append 2 (bits_of 8 b) (bits bs) (bits_of_below 8 b) (bits_below bs)

pub bits_append : (xs ys : List ℕ) → bits (xs ++ ys) ≡ bits xs ++ bits ys
unfolding bits
bits_append [] ys = refl
bits_append (x ∷ xs) ys = ap (λ (l : List ℕ). bits_of 8 x ++ l) (bits_append xs ys)

-- ---- lengths
pub length_bits_of : (k x : ℕ) → length (bits_of k x) ≡ k
length_bits_of zero x = refl
length_bits_of (suc k) x = ap suc (length_bits_of k x)

pub length_bits : (bs : List ℕ) → length (bits bs) ≡ length bs * 8
unfolding bits
length_bits [] = refl
length_bits (b ∷ bs) = length-append (bits_of 8 b) (bits bs) ∙ let e = length_bits bs in omega arith

pub length_octets : (n : ℕ) (l : List ℕ) → length (octets n l) ≡ n
length_octets zero l = refl
length_octets (suc n) l = ap suc (length_octets n (drop 8 l))

-- ---- the number that bits spell
-- one more bit moves what came before up
up_plus : (s a m r : ℕ) → (s * 2 + a) * m + r ≡ s * (m * 2) + (a * m + r)
up_plus s a m r =
    ap (λ (x : ℕ). x + r) (add-mul (s * 2) a m ∙ ap (λ (x : ℕ). x + a * m) (mul_assoc s 2 m ∙ ap (λ (x : ℕ). s * x) (mul_comm 2 m)))
    ∙ add_assoc (s * (m * 2)) (a * m) r

pub onward_is : (s : ℕ) (l : List ℕ) → onward s l ≡ s * 2 ^ length l + spelt l
onward_is s [] = omega arith
onward_is s (a ∷ l) =
    simp (pow-suc, zero-add)
    (onward_is (s * 2 + a) l ∙ up_plus s a (2 ^ length l) (spelt l) ∙ ap (λ (x : ℕ). s * (2 ^ length l * 2) + x) (sym (onward_is a l)))

pub spelt_lt : (l : List ℕ) → Below 2 l → spelt l < 2 ^ length l
spelt_lt [] h = omega arith
spelt_lt (a ∷ l) h =
    simp (pow-suc, zero-add, onward_is a l)
    (subst (λ (x : ℕ). a * 2 ^ length l + spelt l < x) (mul_comm 2 (2 ^ length l)) (digits_lt h.0 (spelt_lt l h.1)))

pub onward_bits_of : (k s x : ℕ) → onward s (bits_of k x) ≡ s * 2 ^ k + x % 2 ^ k
onward_bits_of zero s x = omega (arith, mod-one x)
onward_bits_of (suc k) s x =
    let e : x % (2 ^ k * 2) ≡ x / 2 ^ k % 2 * 2 ^ k + x % 2 ^ k =
    ap (λ (m : ℕ). x % m) (mul_comm (2 ^ k) 2) ∙ mod-mul x {m = 2} {c = 2 ^ k} (omega arith) (pow_pos k)
    in
    simp pow-suc
    (onward_bits_of k (s * 2 + x / 2 ^ k % 2) x ∙ up_plus s (x / 2 ^ k % 2) (2 ^ k) (x % 2 ^ k) ∙ ap (λ (y : ℕ). s * (2 ^ k * 2) + y) (sym e))

pub spelt_bits_of : (k x : ℕ) → spelt (bits_of k x) ≡ x % 2 ^ k
spelt_bits_of k x = onward_bits_of k 0 x ∙ omega (arith, zero-mul (2 ^ k))

-- what came before does not show in the last bits
bits_of_onward : (s : ℕ) (l : List ℕ) → Below 2 l → bits_of (length l) (onward s l) ≡ l
bits_of_onward s [] h = refl
bits_of_onward s (a ∷ l) h =
    ap₂ (λ (x : ℕ) (m : List ℕ). x ∷ m)
    (ap (λ (x : ℕ). x / 2 ^ length l % 2) (onward_is (s * 2 + a) l)
    ∙ ap (λ (x : ℕ). x % 2) (digits_div (s * 2 + a) (spelt_lt l h.1))
    ∙ digits_mod s h.0)
    (bits_of_onward (s * 2 + a) l h.1)

pub bits_of_spelt : (l : List ℕ) → Below 2 l → bits_of (length l) (spelt l) ≡ l
bits_of_spelt = bits_of_onward 0

pub bits_of_low : (k x : ℕ) → bits_of k (x % 2 ^ k) ≡ bits_of k x
bits_of_low k x =
    ap (bits_of k) (sym (spelt_bits_of k x))
    ∙ ap (λ (m : ℕ). bits_of m (spelt (bits_of k x))) (sym (length_bits_of k x))
    ∙ bits_of_spelt (bits_of k x) (bits_of_below k x)

pub bits_of_append : (k j x : ℕ) → bits_of (k + j) x ≡ bits_of k (x / 2 ^ j) ++ bits_of j x
bits_of_append zero j x = ap (λ (m : ℕ). bits_of m x) (zero-add j)
bits_of_append (suc k) j x =
    ap (λ (m : ℕ). bits_of m x) (suc-add k j)
    ∙ ap₂ (λ (b : ℕ) (l : List ℕ). b ∷ l)
    (ap (λ (m : ℕ). x / 2 ^ m % 2) (add_comm k j) ∙ ap (λ (y : ℕ). y % 2) (sym (shr-shr x j k)))
    (bits_of_append k j x)

-- ---- bytes and their bits
pub octets_bits : (bs : List ℕ) → Below 256 bs → octets (length bs) (bits bs) ≡ bs
unfolding bits
octets_bits [] h = refl
octets_bits (b ∷ bs) h = ap₂ (λ (x : ℕ) (l : List ℕ). x ∷ l) (spelt_bits_of 8 b ∙ mod-eq_of_lt h.0) (octets_bits bs h.1)

pub bits_octets : (n : ℕ) (l : List ℕ) → length l ≡ n * 8 → Below 2 l → bits (octets n l) ≡ l
unfolding bits
bits_octets zero [] e h = refl
bits_octets zero (a ∷ l) e h = absurd (omega arith)
bits_octets (suc n) l e h =
    let eight : length (take 8 l) ≡ 8 = length-take-le 8 l (omega arith) in
    ap₂ (λ (x y : List ℕ). x ++ y)
    (ap (λ (m : ℕ). bits_of m (spelt (take 8 l))) (sym eight) ∙ bits_of_spelt (take 8 l) (below_take 2 8 l h))
    (bits_octets n (drop 8 l) (length-drop 8 l ∙ omega arith) (below_drop 2 8 l h))
    ∙ take-append-drop 8 l

pub octets_below : (n : ℕ) (l : List ℕ) → length l ≡ n * 8 → Below 2 l → Below 256 (octets n l)
octets_below zero l e h = tt
octets_below (suc n) l e h =
    let eight : length (take 8 l) ≡ 8 = length-take-le 8 l (omega arith) in (
      subst (λ (m : ℕ). spelt (take 8 l) < 2 ^ m) eight (spelt_lt (take 8 l) (below_take 2 8 l h)),
      octets_below n (drop 8 l) (length-drop 8 l ∙ omega arith) (below_drop 2 8 l h),
    )

-- a byte more moves what came before up by eight bits
pub onward_bits : (s b : ℕ) (bs : List ℕ) → b < 256 → onward s (bits (b ∷ bs)) ≡ onward (s * 256 + b) (bits bs)
unfolding bits
onward_bits s b bs h = ap (λ (x : ℕ). onward x (bits bs)) (onward_bits_of 8 s b ∙ ap (λ (r : ℕ). s * 256 + r) (mod-eq_of_lt h))

pub word_spelt : (a b c d : ℕ) → a < 256 → b < 256 → c < 256 → d < 256
    → spelt (bits (a ∷ b ∷ c ∷ d ∷ [])) ≡ a * 16777216 + b * 65536 + c * 256 + d
unfolding bits
word_spelt a b c d ha hb hc hd =
    onward_bits 0 a (b ∷ c ∷ d ∷ []) ha
    ∙ onward_bits (0 * 256 + a) b (c ∷ d ∷ []) hb
    ∙ onward_bits ((0 * 256 + a) * 256 + b) c (d ∷ []) hc
    ∙ onward_bits (((0 * 256 + a) * 256 + b) * 256 + c) d [] hd
    ∙ omega arith

bits_split : (k : ℕ) (bs : List ℕ) → bits bs ≡ bits (take k bs) ++ bits (drop k bs)
bits_split k bs = ap bits (sym (take-append-drop k bs)) ∙ bits_append (take k bs) (drop k bs)

length_bits_take : (k : ℕ) (bs : List ℕ) → k ≤ length bs → length (bits (take k bs)) ≡ k * 8
length_bits_take k bs h = length_bits (take k bs) ∙ ap (λ (m : ℕ). m * 8) (length-take-le k bs h)

pub bits_take : (k : ℕ) (bs : List ℕ) → k ≤ length bs → take (k * 8) (bits bs) ≡ bits (take k bs)
bits_take k bs h = ap (take (k * 8)) (bits_split k bs) ∙ take_at (bits (take k bs)) (bits (drop k bs)) (k * 8) (length_bits_take k bs h)

pub bits_drop : (k : ℕ) (bs : List ℕ) → k ≤ length bs → drop (k * 8) (bits bs) ≡ bits (drop k bs)
bits_drop k bs h = ap (drop (k * 8)) (bits_split k bs) ∙ drop_at (bits (take k bs)) (bits (drop k bs)) (k * 8) (length_bits_take k bs h)
