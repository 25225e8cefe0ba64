-- The contest of CMD2 as code finds it, in bytes: the smallest CID of those that are sent, if any was. That its holders are those that are
-- heard to the last bit is proved (`holders` of bus, proofs/Winners).
-- Assumes nothing.
use Rattle.std.specs.Prelude.{Bool, true, false, List, ℕ, eqb, ltb, Option, None, Some}
use Rattle.std.specs.declared.cmp.Ordering.{Ordering}
use Rattle.std.specs.declared.cmp.Ordering.TheVariants.{Less, Equal, Greater}
use Rattle.base.specs.Choice.{pick}
use Rattle.crc.specs.Bits.{bits, spelt}

-- a register as a number, its first bit highest
unfoldable pub cid_number : List ℕ → ℕ
cid_number register = spelt (bits register)

unfoldable pub order_of : List ℕ → List ℕ → Ordering
order_of a b = pick (ltb (cid_number a) (cid_number b)) Less (pick (eqb (cid_number a) (cid_number b)) Equal Greater)

abbrev pub by_order : {A : Type 0} → Ordering → A → A → A → A
by_order Less a b c = a
by_order Equal a b c = b
by_order Greater a b c = c

-- the smallest CID among those that were sent, if any was
abbrev pub Low : Type 0
Low = Option (List ℕ)

-- no CID yet, and one that was sent
unfoldable pub no_low : Low
no_low = None

abbrev pub low_by : List ℕ → Low
low_by cid = Some cid

-- whether a CID is smaller than the one that was found, as any is where none was
unfoldable pub is_lower : Low → List ℕ → Bool
is_lower None cid = true
is_lower (Some low) cid = by_order (order_of cid low) true false false

-- what was found, or one more CID where nothing smaller was found
unfoldable pub lower_of : Low → List ℕ → Low
lower_of low cid = pick (is_lower low cid) (low_by cid) low

-- whether a CID is the one that was found
unfoldable pub is_low : Low → List ℕ → Bool
is_low None cid = false
is_low (Some low) cid = by_order (order_of cid low) false true false
