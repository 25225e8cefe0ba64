-- Functions that are linear over bit_xor: what is made of moves up and down, of low bits and of sums is so. Two of them that agree at the
-- powers of 2 agree at every number, so an equality over 2 ^ k numbers is a test of k.
--   Additive              f of a sum is the sum of the f's
--   itself, down, up, low, plus, after    the ways to make one
--   alike                 what agrees at the first k powers of 2 agrees below 2 ^ k
-- Assumes nothing.
use mathlib.Core.Path.{◌≡◌, refl, sym, ap, ap₂, ◌∙◌}
use Prim.Native.Nat.{ℕ, zero, suc, ◌*◌, ◌/◌, ◌%◌, ◌^◌, ◌<◌}
use native.Mathlib.Nat.{mod-lt, add-zero, zero-mul, one-mul, pow-suc, div-lt_iff_lt-mul}
use native.Mathlib.Omega.{arith}
use lib.Dec.{T, eqb, eqb→eq}
use lib.Pow.{pow_pos, split}
use lib.Bits.{bit_xor, xor_self, xor_block, xor_shifted, xor_shr, xor_mod}
use Rattle.base.proofs.Span.{below, passes}
use Rattle.crc.proofs.Xor.{xor_middle, no_more}

abbrev pub Additive : (ℕ → ℕ) → Type 0
Additive f = (x y : ℕ) → f (bit_xor x y) ≡ bit_xor (f x) (f y)

pub itself : Additive (λ x. x)
itself x y = refl

pub down : (k : ℕ) → Additive (λ x. x / 2 ^ k)
down k x y = xor_shr x y k

pub low : (k : ℕ) → Additive (λ x. x % 2 ^ k)
low k x y = xor_mod x y k

pub up : (k : ℕ) → Additive (λ x. x * 2 ^ k)
up k x y = sym (simp add-zero at (xor_block k x y 0 0 (pow_pos k) (pow_pos k)))

pub plus : (f g : ℕ → ℕ) → Additive f → Additive g → Additive (λ x. bit_xor (f x) (g x))
plus f g hf hg x y = ap₂ bit_xor (hf x y) (hg x y) ∙ xor_middle (f x) (f y) (g x) (g y)

pub after : (f g : ℕ → ℕ) → Additive f → Additive g → Additive (λ x. g (f x))
after f g hf hg x y = ap g (hf x y) ∙ hg (f x) (f y)

module _ (f g : ℕ → ℕ) (hf : Additive f) (hg : Additive g) where
  -- both are 0 at 0
  nought : f 0 ≡ g 0
  nought = hf 0 0 ∙ xor_self (f 0) ∙ sym (hg 0 0 ∙ xor_self (g 0))

  -- so they agree at a power of 2, taken or not
  one_bit : (k t : ℕ) → t < 2 → f (2 ^ k) ≡ g (2 ^ k) → f (t * 2 ^ k) ≡ g (t * 2 ^ k)
  one_bit k zero h e = ap f (zero-mul (2 ^ k)) ∙ nought ∙ ap g (sym (zero-mul (2 ^ k)))
  one_bit k (suc zero) h e = ap f (one-mul (2 ^ k)) ∙ e ∙ ap g (sym (one-mul (2 ^ k)))
  one_bit k (suc (suc t)) h e = absurd (no_more h)

  -- and at a number, by its highest bit and the others
  bit_by_bit : (k : ℕ) → ((i : ℕ) → i < k → f (2 ^ i) ≡ g (2 ^ i)) → (m : ℕ) → m < 2 ^ k → f m ≡ g m
  bit_by_bit zero e m h = let z : m ≡ 0 = omega arith in ap f z ∙ nought ∙ ap g (sym z)
  bit_by_bit (suc k) e m h =
      let t : ℕ = m / 2 ^ k in
      let r : ℕ = m % 2 ^ k in
      let hr : r < 2 ^ k = mod-lt m (pow_pos k) in
      let ht : t < 2 = (div-lt_iff_lt-mul (pow_pos k)).1 (omega (arith, pow-suc 2 k)) in
      let parts : m ≡ bit_xor (t * 2 ^ k) r = sym (split m k) ∙ sym (xor_shifted t k r hr) in
      ap f parts
      ∙ hf (t * 2 ^ k) r
      ∙ ap₂ bit_xor (one_bit k t ht (e k (omega arith))) (bit_by_bit k (λ i hi. e i (omega arith)) r hr)
      ∙ sym (hg (t * 2 ^ k) r)
      ∙ ap g (sym parts)

  -- the powers of 2 by a test that antt computes
  pub alike : (k : ℕ) → T (passes (λ i. eqb (f (2 ^ i)) (g (2 ^ i))) 0 k) → (m : ℕ) → m < 2 ^ k → f m ≡ g m
  alike k t = bit_by_bit k (λ i h. eqb→eq (f (2 ^ i)) (g (2 ^ i)) (below (λ i. eqb (f (2 ^ i)) (g (2 ^ i))) k t i h))
