-- The numbers of the refusals: no two refusals share one, and each of 1 to 21 is taken.
--   by_number   the refusal of a refusal's number is that refusal
--   number_by   the number of the refusal of n is n, for n from 1 to 21
--   by_12       what a rule speaks of by its number is the refusal: `by 12`, computed
--   unnumbered  what it would speak of by 0 or by 22 is no refusal, so that there is no such rule
-- Assumes nothing.
use mathlib.Core.Path.{◌≡◌, refl}
use Prim.Native.Nat.{ℕ, ◌≤◌}
use native.Mathlib.Omega.{arith}
use lib.Dec.{eqb→eq}
use Rattle.base.specs.Numbered.{InTable}
use Rattle.base.specs.Refusals.{number_of, refusal_of, is_refusal, by}
use Rattle.base.specs.declared.Refusal.{Refusal}
use Rattle.base.specs.declared.Refusal.TheVariants.{FrameLength, FrameBits, FrameCrc, Index, PayloadLength, OutputShort, MemorySize, Map, RegisterLastByte, Ocr, PasswordLength, Lent, BusCards, BusIndex, NoBlock, BlockLength, BlockCrc, PastEnd, Protected, LockFailed, BlockCrosses}
use Rattle.base.proofs.Span.{span}

pub by_number : (r : Refusal) → refusal_of (number_of r) ≡ r
by_number FrameLength = refl
by_number FrameBits = refl
by_number FrameCrc = refl
by_number Index = refl
by_number PayloadLength = refl
by_number OutputShort = refl
by_number MemorySize = refl
by_number Map = refl
by_number RegisterLastByte = refl
by_number Ocr = refl
by_number PasswordLength = refl
by_number Lent = refl
by_number BusCards = refl
by_number BusIndex = refl
by_number NoBlock = refl
by_number BlockLength = refl
by_number BlockCrc = refl
by_number PastEnd = refl
by_number Protected = refl
by_number LockFailed = refl
by_number BlockCrosses = refl

pub number_by : (n : ℕ) → 1 ≤ n → n ≤ 21 → number_of (refusal_of n) ≡ n
number_by n lo hi = eqb→eq (number_of (refusal_of n)) n (span is_refusal 1 21 tt n lo (omega arith))

pub by_12 : by 12 ≡ Lent
by_12 = refl

pub unnumbered : (InTable Refusal (is_refusal 0) ≡ Unit {0}) × (InTable Refusal (is_refusal 22) ≡ Unit {0})
unnumbered = (refl, refl)
