-- The rule of a table of check sums, by one test that antt computes over the whole table; and the bound of an index made by bit_xor.
--   remainders   a table of 256 entries that passes the test holds the check sum of each byte
--   index_lt     the sum of two bytes is a byte
-- Assumes nothing.
use mathlib.Core.Path.{◌≡◌, subst⁻¹}
use mathlib.Core.List.{List, [], ◌∷◌}
use Prim.Native.Nat.{ℕ, ◌<◌}
use lib.Bits.{bit_xor, xor_lt}
use lib.Dec.{T, eqb, eqb→eq}
use lib.ListN.{length, get_or}
use Rattle.base.proofs.Table.{every, at}
use Rattle.crc.specs.Table.{Remainders}

pub remainders : (sum : List ℕ → ℕ) (table : List ℕ) → T (every (λ b x. eqb x (sum (b ∷ []))) 0 table) → length table ≡ 256 → Remainders sum table
unfolding Remainders
remainders sum table t n b h =
    eqb→eq (get_or table b 0) (sum (b ∷ [])) (at (λ b x. eqb x (sum (b ∷ []))) 0 table t b (subst⁻¹ (λ (m : ℕ). b < m) n h))

pub index_lt : (x y : ℕ) → x < 256 → y < 256 → bit_xor x y < 256
index_lt = xor_lt 8
