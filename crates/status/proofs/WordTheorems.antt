-- What a status tells whoever reads it.
--   word_state, word_locked, word_buffer_empty   bits 12 to 9 are the number of the state, bit 25 the lock flag, bit 8 is 0 in prg and dis alone
--   word_shown        the error bits are those that are shown
--   word_determines   so equal words come from the same shown bits, lock flag and state
--   stray_hidden      errors that agree on the named bits give the same words
--   in_stby, in_tran, in_prg, crc_in_tran, stray_in_tran   computed
-- Assumes nothing.
use mathlib.Core.Path.{◌≡◌, refl, sym, ap, ap₂, ◌∙◌}
use mathlib.Core.Bool.{Bool, true, false}
use Prim.Native.Nat.{ℕ, ◌+◌, ◌*◌, ◌/◌, ◌%◌, ◌^◌, ◌<◌}
use native.Mathlib.Nat.{min-zero, add_assoc}
use native.Mathlib.Omega.{arith}
use lib.Bits.{bit_and, bit_or, and_zero_r, and_self, and_mod, and_block, and_shifted, and_comm, or_disjoint, or_zero_r}
use Rattle.states.specs.States.{column_number}
use Rattle.states.specs.declared.Column.{Column}
use Rattle.states.specs.declared.Column.TheVariants.{Stby, Tran, Prg}
use Rattle.status.specs.Bits.{bit_at}
use Rattle.status.specs.ErrorBits.{place_of, error_bits, error_bit, word_with}
use Rattle.status.specs.Status.{no_errors, with_bit, shown, flag, buffer_empty, word_of}
use Rattle.status.specs.declared.ErrorBit.{ErrorBit}
use Rattle.status.specs.declared.Errors.{Errors}
use Rattle.status.proofs.Bits.{bit_and_lem, and_assoc, and_or}
use Rattle.status.proofs.ErrorTheorems.{same_shown}
use Rattle.states.proofs.Columns.{column_by, column_placed}
use Rattle.status.proofs.Fields.{flag_lt}

-- what stands beside the error bits
abbrev beside : Bool → Column → ℕ
beside locked on = flag locked * 2 ^ 25 + (column_number on * 2 ^ 9 + flag (buffer_empty on) * 2 ^ 8)

-- shown error bits leave bits 12 to 0 and bit 25 free
low_free : (e : Errors) → shown e % 8192 ≡ 0
low_free e = and_mod e.bits (word_with error_bits) 13 ∙ and_zero_r (e.bits % 8192)

lock_free : (e : Errors) → shown e / 33554432 % 2 ≡ 0
lock_free e = bit_and_lem 25 e.bits (word_with error_bits) ∙ min-zero (bit_at 25 e.bits)

module _ (e : Errors) (locked : Bool) (on : Column) where
  pub word_state : word_of e locked on / 2 ^ 9 % 2 ^ 4 ≡ column_number on
  unfolding word_of
  word_state = omega (arith, low_free e, flag_lt (buffer_empty on), (column_placed on).0)

  pub word_locked : bit_at 25 (word_of e locked on) ≡ flag locked
  unfolding word_of
  word_locked = omega (arith, low_free e, lock_free e, flag_lt locked, flag_lt (buffer_empty on), (column_placed on).0)

  pub word_buffer_empty : bit_at 8 (word_of e locked on) ≡ flag (buffer_empty on)
  unfolding word_of
  word_buffer_empty = omega (arith, low_free e, flag_lt (buffer_empty on))

-- all error bits: those from 25 on, and those from 13 to 24
abbrev high : ℕ
high = word_with error_bits / 2 ^ 25

abbrev middle : ℕ
middle = word_with error_bits / 2 ^ 13 % 2 ^ 12

-- none of them stands where another field is
free_25 : (b : Bool) → bit_and high (flag b) ≡ 0
free_25 true = refl
free_25 false = refl

apart : (locked : Bool) (on : Column) → bit_and (word_with error_bits) (beside locked on) ≡ 0
apart locked on =
    let low : ℕ = column_number on * 2 ^ 9 + flag (buffer_empty on) * 2 ^ 8 in
    let small : low < 2 ^ 13 = omega (arith, flag_lt (buffer_empty on), (column_placed on).0) in
    and_block 25 high (flag locked) (middle * 2 ^ 13) low (omega arith) (omega arith)
    ∙ ap₂ (λ (x y : ℕ). x * 2 ^ 25 + y) (free_25 locked) (and_shifted middle 13 low small)

module _ (e : Errors) (locked : Bool) (on : Column) where
  as_or : word_of e locked on ≡ bit_or (shown e) (beside locked on)
  unfolding word_of
  as_or =
      add_assoc (shown e) (flag locked * 2 ^ 25) (column_number on * 2 ^ 9 + flag (buffer_empty on) * 2 ^ 8)
      ∙ sym
      (or_disjoint (shown e) (beside locked on)
      (and_assoc e.bits (word_with error_bits) (beside locked on) ∙ ap (bit_and e.bits) (apart locked on) ∙ and_zero_r e.bits))

  pub word_shown : bit_and (word_of e locked on) (word_with error_bits) ≡ shown e
  word_shown =
      ap (λ (x : ℕ). bit_and x (word_with error_bits)) as_or
      ∙ and_or (shown e) (beside locked on) (word_with error_bits)
      ∙ ap₂ bit_or
      (and_assoc e.bits (word_with error_bits) (word_with error_bits) ∙ ap (bit_and e.bits) (and_self (word_with error_bits)))
      (and_comm (beside locked on) (word_with error_bits) ∙ apart locked on)
      ∙ or_zero_r (shown e)

-- flags from their numbers
flag_back : (b c : Bool) → flag b ≡ flag c → b ≡ c
flag_back true true h = refl
flag_back true false h = absurd (omega arith)
flag_back false true h = absurd (omega arith)
flag_back false false h = refl

pub word_determines : (e f : Errors) (l m : Bool) (c d : Column) → word_of e l c ≡ word_of f m d → (shown e ≡ shown f) × ((l ≡ m) × (c ≡ d))
word_determines e f l m c d same =
    let bits : shown e ≡ shown f = sym (word_shown e l c) ∙ ap (λ (x : ℕ). bit_and x (word_with error_bits)) same ∙ word_shown f m d in
    let locked : flag l ≡ flag m = sym (word_locked e l c) ∙ ap (bit_at 25) same ∙ word_locked f m d in
    let state : column_number c ≡ column_number d = sym (word_state e l c) ∙ ap (λ (x : ℕ). x / 2 ^ 9 % 2 ^ 4) same ∙ word_state f m d in
    (bits, (flag_back l m locked, sym (column_placed c).1 ∙ ap column_by state ∙ (column_placed d).1))

pub stray_hidden : (e f : Errors) → ((b : ErrorBit) → bit_at (place_of b) e.bits ≡ bit_at (place_of b) f.bits)
    → (locked : Bool) (on : Column) → word_of e locked on ≡ word_of f locked on
unfolding word_of
stray_hidden e f h locked on =
    ap (λ (x : ℕ). x + flag locked * 2 ^ 25 + (column_number on * 2 ^ 9 + flag (buffer_empty on) * 2 ^ 8)) (same_shown e f h)

-- ---- computed
-- nothing pending, unlocked
pub in_stby : word_of no_errors false Stby ≡ 0x700
unfolding word_of
in_stby = refl

pub in_tran : word_of no_errors false Tran ≡ 0x900
unfolding word_of
in_tran = refl

-- bit 8 is 0
pub in_prg : word_of no_errors false Prg ≡ 0xE00
unfolding word_of
in_prg = refl

-- bit 23 pending, the card locked
pub crc_in_tran : word_of (with_bit no_errors (error_bit 23)) true Tran ≡ 0x02800900
unfolding word_of
crc_in_tran = refl

-- all 32 bits set, 21 named by nothing among them
pub stray_in_tran : word_of (record { bits = 0xFFFFFFFF }) false Tran ≡ 0xFDC0A900
unfolding word_of
stray_in_tran = refl
