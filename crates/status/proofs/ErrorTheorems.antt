-- What is set, cleared and shown of the error bits, bit by bit.
--   by_place        the error bit at an error bit's place is itself, so no two share a place
--   unplaced        what a rule would speak of as bit 14, or 25, is no error bit, so that there is no such rule
--   all_bits        the word with every error bit is 0xFDC0A000, and that without 23 and 22 is 0xFF3FFFFF
--   named_shown     a named bit is shown as it is
--   stray_unshown   a bit that has no name is never shown
--   set_shows, set_others         a bit that is set is shown, and every other bit is as it was
--   command_bits_clear, others_kept   a taken command without R1 clears 23 and 22, and keeps every other bit
--   same_shown      errors that agree on the named bits show the same
-- Assumes nothing.
use mathlib.Core.Path.{◌≡◌, refl, sym, ap, ◌∙◌, subst}
use mathlib.Core.Bool.{Bool, true, false}
use mathlib.Core.List.{[], ◌∷◌}
use Prim.Native.Nat.{ℕ, ◌-◌, ◌^◌, ◌<◌, min, max}
use native.Mathlib.Nat.{min-zero, max-zero, lt_of_lt_of_le}
use native.Mathlib.Omega.{arith}
use borrow.Author.Tests.{ltb-true, ltb-false, eqb-true, ne_eqb}
use lib.Dec.{T, eqb, eqb→eq, ltb}
use lib.Pow.{pow_mono}
use Rattle.base.proofs.Cases.{cases}
use Rattle.base.proofs.Span.{below}
use Rattle.base.specs.Choice.{pick}
use Rattle.base.specs.Numbered.{InTable}
use Rattle.status.specs.Bits.{bit_at}
use Rattle.status.specs.ErrorBits.{place_of, error_bits, error_bit_at, is_error_bit, error_bit, word_with}
use Rattle.status.specs.Status.{with_bit, command_bits_cleared, shown}
use Rattle.status.specs.declared.ErrorBit.{ErrorBit}
use Rattle.status.specs.declared.ErrorBit.TheVariants.{OutOfRange, AddressError, BlockLenError, EraseSeqError, EraseParam, WpViolation, LockUnlockFailed, ComCrcError, IllegalCommand, WpEraseSkip, EraseReset}
use Rattle.status.specs.declared.Errors.{Errors}
use Rattle.status.proofs.Bits.{bit_lt, bit_and_lem, bit_or_lem, same_bits, bit_high, bit_other}

-- all error bits, and all bits of 32 but 23 and 22
abbrev all : ℕ
all = word_with error_bits

abbrev all_but : ℕ
all_but = 2 ^ 32 - 1 - word_with (error_bit 23 ∷ error_bit 22 ∷ [])

pub all_bits : (all ≡ 0xFDC0A000) × (all_but ≡ 0xFF3FFFFF)
all_bits = (refl, refl)

-- each bit of them: one computed test of 32 places
right : ℕ → Bool
right k = pick (is_error_bit k) (eqb (bit_at k all) 1) (eqb (bit_at k all) 0)

right_but : ℕ → Bool
right_but k = pick (eqb k 23) true (pick (eqb k 22) true (eqb (bit_at k all_but) 1))

right_at : (k : ℕ) → k < 32 → T (right k)
unfolding right
right_at k h = below right 32 tt k h

unnamed : (k : ℕ) → is_error_bit k ≡ false → bit_at k all ≡ 0
unfolding right
unnamed k e =
    cases (ltb k 32)
    (λ (t : ltb k 32 ≡ true). eqb→eq (bit_at k all) 0 (rw e at (right_at k (ltb-true k 32 t))))
    (λ (t : ltb k 32 ≡ false). bit_high k all (lt_of_lt_of_le (omega arith) (pow_mono (ltb-false k 32 t))))

-- each error bit by its case
each : (b : ErrorBit) → (error_bit_at (place_of b) ≡ b) × ((bit_at (place_of b) all ≡ 1) × (bit_at (place_of b) (2 ^ place_of b) ≡ 1))
each OutOfRange = (refl, (refl, refl))
each AddressError = (refl, (refl, refl))
each BlockLenError = (refl, (refl, refl))
each EraseSeqError = (refl, (refl, refl))
each EraseParam = (refl, (refl, refl))
each WpViolation = (refl, (refl, refl))
each LockUnlockFailed = (refl, (refl, refl))
each ComCrcError = (refl, (refl, refl))
each IllegalCommand = (refl, (refl, refl))
each WpEraseSkip = (refl, (refl, refl))
each EraseReset = (refl, (refl, refl))

pub by_place : (b : ErrorBit) → error_bit_at (place_of b) ≡ b
by_place b = (each b).0

pub unplaced : (InTable ErrorBit (is_error_bit 14) ≡ Unit {0}) × (InTable ErrorBit (is_error_bit 25) ≡ Unit {0})
unplaced = (refl, refl)

pub named_shown : (e : Errors) (b : ErrorBit) → bit_at (place_of b) (shown e) ≡ bit_at (place_of b) e.bits
named_shown e b =
    bit_and_lem (place_of b) e.bits all ∙ ap (min (bit_at (place_of b) e.bits)) (each b).1.0 ∙ omega (arith, bit_lt (place_of b) e.bits)

pub stray_unshown : (e : Errors) (k : ℕ) → ((b : ErrorBit) → place_of b ≡ k → ⊥) → bit_at k (shown e) ≡ 0
stray_unshown e k h =
    bit_and_lem k e.bits all ∙ ap (min (bit_at k e.bits)) (unnamed k (ne_eqb (place_of (error_bit_at k)) k (h (error_bit_at k)))) ∙ min-zero (bit_at k e.bits)

pub set_shows : (e : Errors) (b : ErrorBit) → bit_at (place_of b) (shown (with_bit e b)) ≡ 1
set_shows e b =
    named_shown (with_bit e b) b
    ∙ bit_or_lem (place_of b) e.bits (2 ^ place_of b)
    ∙ ap (max (bit_at (place_of b) e.bits)) (each b).1.1
    ∙ omega (arith, bit_lt (place_of b) e.bits)

pub set_others : (e : Errors) (b : ErrorBit) (k : ℕ) → (k ≡ place_of b → ⊥) → bit_at k (with_bit e b).bits ≡ bit_at k e.bits
set_others e b k h =
    bit_or_lem k e.bits (2 ^ place_of b) ∙ ap (max (bit_at k e.bits)) (bit_other k (place_of b) h) ∙ max-zero (bit_at k e.bits)

pub command_bits_clear : (e : Errors) → (bit_at 23 (command_bits_cleared e).bits ≡ 0) × (bit_at 22 (command_bits_cleared e).bits ≡ 0)
command_bits_clear e =
    (bit_and_lem 23 e.bits all_but ∙ min-zero (bit_at 23 e.bits), bit_and_lem 22 e.bits all_but ∙ min-zero (bit_at 22 e.bits))

pub others_kept : (e : Errors) (k : ℕ) → k < 32 → (k ≡ 23 → ⊥) → (k ≡ 22 → ⊥) → bit_at k (command_bits_cleared e).bits ≡ bit_at k e.bits
unfolding right_but
others_kept e k h h23 h22 =
    let kept : bit_at k all_but ≡ 1 = eqb→eq (bit_at k all_but) 1 (simp (ne_eqb k 23 h23, ne_eqb k 22 h22) at (below right_but 32 tt k h)) in
    bit_and_lem k e.bits all_but ∙ ap (min (bit_at k e.bits)) kept ∙ omega (arith, bit_lt k e.bits)

pub same_shown : (e f : Errors) → ((b : ErrorBit) → bit_at (place_of b) e.bits ≡ bit_at (place_of b) f.bits) → shown e ≡ shown f
same_shown e f h =
    same_bits (shown e) (shown f)
    (λ k.
    cases (is_error_bit k)
    (λ (t : is_error_bit k ≡ true).
    let p : place_of (error_bit_at k) ≡ k = eqb-true (place_of (error_bit_at k)) k t in
    subst (λ (j : ℕ). bit_at j (shown e) ≡ bit_at j (shown f)) p (named_shown e (error_bit_at k) ∙ h (error_bit_at k) ∙ sym (named_shown f (error_bit_at k))))
    (λ (t : is_error_bit k ≡ false).
    let off : bit_at k all ≡ 0 = unnamed k t in
    simp (bit_and_lem, off, min-zero)))
