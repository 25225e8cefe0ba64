-- Wrong answers that the promises rule out, each refuted at a sample that antt computes: a call's answer is the definition, so a call
-- that gave the wrong answer would make the two equal. First what is right:
--   all_r1, all_second    every error bit set, and bits without a name
--   quiet                 nothing pending, in Idle and elsewhere
-- Then what is wrong:
--   second_without_31     bit 31 missing in R2's second byte
--   r1_without_29         bit 29 missing in R1's bit 6
--   r1_with_24            bit 24, which only R2 can show, in R1's bit 6
--   second_without_15     bit 15 missing in R2's bit 1
--   second_unlocked       the lock flag missing
--   stray_shown           a bit without a name shown
--   idle_unsaid           Idle missing in R1
--   r1_clears_24          an R1 that clears bit 24, which it does not show
--   r1_leaves_29          an R1 that clears one of the two bits of its bit 6 only
--   r2_leaves_24          an R2 that leaves bit 24
--   r2_leaves_30          an R2 that clears what its second byte shows only
-- Assumes nothing.
use mathlib.Core.Path.{◌≡◌, refl}
use mathlib.Core.Bool.{true, false}
use native.Mathlib.Omega.{arith}
use Rattle.status.specs.ErrorBits.{error_bit}
use Rattle.status.specs.Status.{no_errors, with_bit}
use Rattle.status.specs.declared.ErrorBit.{ErrorBit}
use Rattle.status.specs.declared.Errors.{Errors}
use Rattle.spi_answers.specs.Answers.{r1_of, second_of, cleared_r1, cleared_r2}

abbrev alone : ErrorBit → Errors
alone bit = with_bit no_errors bit

abbrev every : Errors
every = record { bits = 0xFFFFFFFF }

pub all_r1 : r1_of every true ≡ 0x7F
unfolding r1_of
all_r1 = refl

pub all_second : second_of every true ≡ 0xE3
unfolding second_of
all_second = refl

pub quiet : (r1_of no_errors true ≡ 1) × ((r1_of no_errors false ≡ 0) × (second_of no_errors false ≡ 0))
unfolding r1_of second_of
quiet = (refl, (refl, refl))

second_without_31 : second_of (alone (error_bit 31)) false ≡ 0 → ⊥
unfolding second_of
second_without_31 e = omega arith

r1_without_29 : r1_of (alone (error_bit 29)) false ≡ 0 → ⊥
unfolding r1_of
r1_without_29 e = omega arith

r1_with_24 : r1_of (alone (error_bit 24)) false ≡ 0x40 → ⊥
unfolding r1_of
r1_with_24 e = omega arith

second_without_15 : second_of (alone (error_bit 15)) false ≡ 0 → ⊥
unfolding second_of
second_without_15 e = omega arith

second_unlocked : second_of no_errors true ≡ 0 → ⊥
unfolding second_of
second_unlocked e = omega arith

-- bit 21 has no name
stray_shown : r1_of (record { bits = 0x00200000 }) false ≡ 2 → ⊥
unfolding r1_of
stray_shown e = omega arith

idle_unsaid : r1_of no_errors true ≡ 0 → ⊥
unfolding r1_of
idle_unsaid e = omega arith

r1_clears_24 : (cleared_r1 (alone (error_bit 24))).bits ≡ 0 → ⊥
unfolding cleared_r1
r1_clears_24 e = omega arith

r1_leaves_29 : (cleared_r1 (alone (error_bit 29))).bits ≡ 0x20000000 → ⊥
unfolding cleared_r1
r1_leaves_29 e = omega arith

r2_leaves_24 : (cleared_r2 (alone (error_bit 24))).bits ≡ 0x01000000 → ⊥
unfolding cleared_r2
r2_leaves_24 e = omega arith

r2_leaves_30 : (cleared_r2 (alone (error_bit 30))).bits ≡ 0x40000000 → ⊥
unfolding cleared_r2
r2_leaves_30 e = omega arith
