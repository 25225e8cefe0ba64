-- The bits of protection groups, worked from the highest down.
--   bit_small   a group's bit is 0 or 1
--   bits_half   fewer than 32 bits leave room for one more in 32
--   bits_all    the bits from group 0 of 32 on are all of them
--   group_bit   bit i of the 32 is that of the group i after the addressed one
-- Assumes nothing.
use mathlib.Core.Path.{◌≡◌, sym, ap, ap₂, ◌∙◌}
use mathlib.Core.Bool.{Bool, true, false}
use mathlib.Core.List.{List}
use Prim.Native.Nat.{ℕ, zero, suc, ◌+◌, ◌-◌, ◌/◌, ◌%◌, ◌^◌, ◌≤◌, ◌<◌}
use native.Mathlib.Nat.{add-zero, pow-suc, pow-succ', div-div-eq-div-mul}
use native.Mathlib.Omega.{arith}
use lib.Dec.{eqb}
use lib.ListN.{get_or}
use lib.Pow.{pow_mono}
use Rattle.base.specs.Choice.{pick}
use Rattle.store.specs.Map.{bit_of, bits_from, protection_bits}

small : (t : Bool) → pick t 0 1 ≤ 1
small true = omega arith
small false = omega arith

pub bit_small : (map : List ℕ) (group : ℕ) → bit_of map group ≤ 1
bit_small map group = small (eqb (get_or map group 0) 0)

bits_small : (map : List ℕ) (group n : ℕ) → bits_from map group n < 2 ^ n
unfolding bits_from
bits_small map group zero = omega arith
bits_small map group (suc n) = omega (arith, bit_small map group, bits_small map (suc group) n, pow-suc 2 n)

pub bits_half : (map : List ℕ) (group n : ℕ) → n ≤ 31 → bits_from map group n < 2147483648
bits_half map group n h = omega (arith, bits_small map group n, pow_mono {i = n} {j = 31} h)

pub bits_all : (map : List ℕ) (group i bits : ℕ) → i ≡ 0 → bits ≡ bits_from map (group + i) (32 - i) → bits ≡ protection_bits map group
unfolding protection_bits
bits_all map group i bits z e =
    let g : group + i ≡ group = omega arith in
    let n : 32 - i ≡ 32 = omega arith in
    e ∙ ap₂ (bits_from map) g n

-- (b + 2 x) / 2^i % 2 is b at 0, and x / 2^(i - 1) % 2 further on
bit_at : (map : List ℕ) (group n i : ℕ) → i < n → bits_from map group n / 2 ^ i % 2 ≡ bit_of map (group + i)
unfolding bits_from
bit_at map group zero i h = absurd (omega arith)
bit_at map group (suc n) zero h =
    let low : bits_from map group (suc n) / 1 % 2 ≡ bit_of map group = omega (arith, bit_small map group) in
    low ∙ ap (bit_of map) (sym (add-zero group))
bit_at map group (suc n) (suc i) h =
    let rest : bits_from map group (suc n) / 2 ≡ bits_from map (suc group) n = omega (arith, bit_small map group) in
    let place : suc group + i ≡ group + suc i = omega arith in
    ap (λ (k : ℕ). bits_from map group (suc n) / k % 2) (pow-succ' 2 i)
    ∙ ap (λ (k : ℕ). k % 2) (sym (div-div-eq-div-mul (bits_from map group (suc n)) 2 (2 ^ i)))
    ∙ ap (λ (k : ℕ). k / 2 ^ i % 2) rest
    ∙ bit_at map (suc group) n i (omega arith)
    ∙ ap (bit_of map) place

pub group_bit : (map : List ℕ) (group i : ℕ) → i < 32 → protection_bits map group / 2 ^ i % 2 ≡ bit_of map (group + i)
unfolding protection_bits
group_bit map group i h = bit_at map group 32 i h
