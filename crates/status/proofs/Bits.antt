-- Laws of the bits of a number.
--   bit_lt              a bit is 0 or 1
--   bit_and_lem, bit_or_lem     a bit of bit_and and of bit_or
--   same_bits           numbers with the same bits are equal
--   and_assoc, and_or   bit_and is associative, and goes over bit_or
--   bit_high            a number has no bit past its size
--   bit_other           a power of two has no bit but its own
-- Assumes nothing.
use mathlib.Core.Path.{◌≡◌, sym, ap, ◌∙◌}
use mathlib.Core.Bool.{true, false}
use Prim.Native.Nat.{ℕ, zero, suc, ◌+◌, ◌-◌, ◌/◌, ◌%◌, ◌^◌, ◌≤◌, ◌<◌, min, max}
use native.Mathlib.Nat.{mod-lt, zero-lt-suc, pow-suc, div-eq_of_lt, mul-mod_left}
use native.Mathlib.Numerals.{one-add}
use native.Mathlib.Omega.{arith}
use borrow.Author.Tests.{ltb-true, ltb-false}
use lib.Arith.{half_le, digits_mod}
use lib.Bits.{bit_and, bit_or, and_step, or_step, and_shr, or_shr}
use lib.Dec.{ltb}
use lib.Pow.{pow-add, pow-lt, shr-shr, shl-shr}
use Rattle.base.proofs.Cases.{cases}
use Rattle.status.specs.Bits.{bit_at}

pub bit_lt : (k a : ℕ) → bit_at k a < 2
bit_lt k a = mod-lt (a / 2 ^ k) (zero-lt-suc 1)

low_and : (a b : ℕ) → bit_and a b % 2 ≡ min (a % 2) (b % 2)
low_and a b =
    ap (λ (x : ℕ). x % 2) (and_step a b)
    ∙ digits_mod (bit_and (a / 2) (b / 2)) {m = 2} {r = min (a % 2) (b % 2)} (omega arith)

low_or : (a b : ℕ) → bit_or a b % 2 ≡ max (a % 2) (b % 2)
low_or a b =
    ap (λ (x : ℕ). x % 2) (or_step a b)
    ∙ digits_mod (bit_or (a / 2) (b / 2)) {m = 2} {r = max (a % 2) (b % 2)} (omega arith)

pub bit_and_lem : (k a b : ℕ) → bit_at k (bit_and a b) ≡ min (bit_at k a) (bit_at k b)
bit_and_lem k a b = ap (λ (x : ℕ). x % 2) (and_shr a b k) ∙ low_and (a / 2 ^ k) (b / 2 ^ k)

pub bit_or_lem : (k a b : ℕ) → bit_at k (bit_or a b) ≡ max (bit_at k a) (bit_at k b)
bit_or_lem k a b = ap (λ (x : ℕ). x % 2) (or_shr a b k) ∙ low_or (a / 2 ^ k) (b / 2 ^ k)

-- ---- numbers by their bits
half_bit : (k a : ℕ) → bit_at k (a / 2) ≡ bit_at (suc k) a
half_bit k a = ap (λ (x : ℕ). x % 2) (shr-shr a 1 k ∙ ap (λ (j : ℕ). a / 2 ^ j) (one-add k))

up_to : (n a b : ℕ) → a ≤ n → b ≤ n → ((k : ℕ) → bit_at k a ≡ bit_at k b) → a ≡ b
up_to zero a b ha hb h = omega arith
up_to (suc n) a b ha hb h =
    let half : a / 2 ≡ b / 2 = up_to n (a / 2) (b / 2) (half_le ha) (half_le hb) (λ k. half_bit k a ∙ h (suc k) ∙ sym (half_bit k b)) in
    let low : a / 1 % 2 ≡ b / 1 % 2 = h 0 in
    omega arith

pub same_bits : (a b : ℕ) → ((k : ℕ) → bit_at k a ≡ bit_at k b) → a ≡ b
same_bits a b h = up_to (max a b) a b (omega arith) (omega arith) h

pub and_assoc : (a b c : ℕ) → bit_and (bit_and a b) c ≡ bit_and a (bit_and b c)
and_assoc a b c =
    same_bits (bit_and (bit_and a b) c) (bit_and a (bit_and b c))
    (λ k. simp bit_and_lem (omega arith))

pub and_or : (a b c : ℕ) → bit_and (bit_or a b) c ≡ bit_or (bit_and a c) (bit_and b c)
and_or a b c =
    same_bits (bit_and (bit_or a b) c) (bit_or (bit_and a c) (bit_and b c))
    (λ k. simp (bit_and_lem, bit_or_lem) (omega arith))

-- ---- a power of two
pub bit_high : (k a : ℕ) → a < 2 ^ k → bit_at k a ≡ 0
bit_high k a h = ap (λ (x : ℕ). x % 2) (div-eq_of_lt h)

below : (d k : ℕ) → bit_at k (2 ^ (suc d + k)) ≡ 0
below d k =
    ap (λ (x : ℕ). x / 2 ^ k % 2) (pow-add 2 (suc d) k)
    ∙ ap (λ (x : ℕ). x % 2) (shl-shr (2 ^ suc d) k ∙ pow-suc 2 d)
    ∙ mul-mod_left (2 ^ d) 2

pub bit_other : (k p : ℕ) → (k ≡ p → ⊥) → bit_at k (2 ^ p) ≡ 0
bit_other k p h =
    cases (ltb p k)
    (λ (t : ltb p k ≡ true). bit_high k (2 ^ p) (pow-lt (ltb-true p k t)))
    (λ (t : ltb p k ≡ false).
    let d : ℕ = p - k - 1 in
    let e : suc d + k ≡ p = omega (arith, ltb-false p k t) in
    ap (λ (x : ℕ). bit_at k (2 ^ x)) (sym e) ∙ below d k)
