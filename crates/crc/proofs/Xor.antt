-- Laws of bit_xor that lib.Bits lacks.
--   xor_assoc, xor_middle   it is associative; the middle two of four change places
--   xor_undo, xor_equal     the same number added twice is gone; numbers whose sum is 0 are equal
--   xor_front, xor_double   a number that both have is gone; doubles
-- Assumes nothing.
use mathlib.Core.Path.{◌≡◌, refl, sym, ap, ap₂, ◌∙◌}
use Prim.Native.Nat.{ℕ, zero, suc, ◌+◌, ◌*◌, ◌/◌, ◌%◌, ◌<◌}
use native.Mathlib.Nat.{le_of_suc-le-suc, not-suc-le-zero, mod-lt, zero-lt-suc, add-zero}
use lib.Arith.{bin_ind, digits_mod}
use lib.Bits.{bit_xor, differ, xor_step, xor_shr, xor_comm, xor_self, xor_zero_r, xor_block}

two_pos : zero < 2
two_pos = zero-lt-suc 1

bit_lt : (a : ℕ) → a % 2 < 2
bit_lt a = mod-lt a two_pos

pub no_more : {x : ℕ} → suc (suc x) < 2 → ⊥
no_more h = not-suc-le-zero (le_of_suc-le-suc (le_of_suc-le-suc h))

differ_lt : (x y : ℕ) → x < 2 → y < 2 → differ x y < 2
differ_lt zero y hx hy = hy
differ_lt (suc zero) zero hx hy = hx
differ_lt (suc zero) (suc zero) hx hy = two_pos
differ_lt (suc zero) (suc (suc y)) hx hy = absurd (no_more hy)
differ_lt (suc (suc x)) zero hx hy = absurd (no_more hx)
differ_lt (suc (suc x)) (suc y) hx hy = absurd (no_more hx)

differ_assoc : (x y z : ℕ) → x < 2 → y < 2 → z < 2 → differ (differ x y) z ≡ differ x (differ y z)
differ_assoc zero y z hx hy hz = refl
differ_assoc (suc zero) zero z hx hy hz = refl
differ_assoc (suc zero) (suc zero) zero hx hy hz = refl
differ_assoc (suc zero) (suc zero) (suc zero) hx hy hz = refl
differ_assoc (suc zero) (suc zero) (suc (suc z)) hx hy hz = absurd (no_more hz)
differ_assoc (suc zero) (suc (suc y)) z hx hy hz = absurd (no_more hy)
differ_assoc (suc (suc x)) y z hx hy hz = absurd (no_more hx)

xor_half : (a b : ℕ) → bit_xor a b / 2 ≡ bit_xor (a / 2) (b / 2)
xor_half a b = xor_shr a b 1

xor_odd : (a b : ℕ) → bit_xor a b % 2 ≡ differ (a % 2) (b % 2)
xor_odd a b = ap (λ (x : ℕ). x % 2) (xor_step a b) ∙ digits_mod (bit_xor (a / 2) (b / 2)) (differ_lt (a % 2) (b % 2) (bit_lt a) (bit_lt b))

pub xor_assoc : (a b c : ℕ) → bit_xor (bit_xor a b) c ≡ bit_xor a (bit_xor b c)
xor_assoc =
    bin_ind (λ (n : ℕ). (b c : ℕ) → bit_xor (bit_xor n b) c ≡ bit_xor n (bit_xor b c)) (λ b c. refl)
    (λ n ih b c.
    xor_step (bit_xor n b) c
    ∙ ap₂ (λ (x y : ℕ). bit_xor x (c / 2) * 2 + differ y (c % 2)) (xor_half n b) (xor_odd n b)
    ∙ ap₂ (λ (x y : ℕ). x * 2 + y) (ih (b / 2) (c / 2)) (differ_assoc (n % 2) (b % 2) (c % 2) (bit_lt n) (bit_lt b) (bit_lt c))
    ∙ sym (ap₂ (λ (x y : ℕ). bit_xor (n / 2) x * 2 + differ (n % 2) y) (xor_half b c) (xor_odd b c))
    ∙ sym (xor_step n (bit_xor b c)))

-- the middle two change places
pub xor_middle : (a b c d : ℕ) → bit_xor (bit_xor a b) (bit_xor c d) ≡ bit_xor (bit_xor a c) (bit_xor b d)
xor_middle a b c d =
    xor_assoc a b (bit_xor c d)
    ∙ ap (bit_xor a) (sym (xor_assoc b c d) ∙ ap (λ (x : ℕ). bit_xor x d) (xor_comm b c) ∙ xor_assoc c b d)
    ∙ sym (xor_assoc a c (bit_xor b d))

-- the same number added twice is gone
pub xor_undo : (a b : ℕ) → bit_xor (bit_xor a b) b ≡ a
xor_undo a b = xor_assoc a b b ∙ ap (bit_xor a) (xor_self b) ∙ xor_zero_r a

pub xor_equal : (a b : ℕ) → bit_xor a b ≡ 0 → a ≡ b
xor_equal a b e = sym (xor_undo a b) ∙ ap (λ (x : ℕ). bit_xor x b) e

-- and so is one that both have
pub xor_front : (a x y : ℕ) → bit_xor (bit_xor a x) (bit_xor a y) ≡ bit_xor x y
xor_front a x y = xor_middle a x a y ∙ ap (λ (z : ℕ). bit_xor z (bit_xor x y)) (xor_self a)

pub xor_double : (s t : ℕ) → bit_xor (s * 2) (t * 2) ≡ bit_xor s t * 2
xor_double s t = simp add-zero at (xor_block 1 s t 0 0 two_pos two_pos)
