-- Bits cleared one after the other are cleared by one mask.
--   r1_mask, r2_mask   what R1, and R2, leaves of the error bits
-- Assumes nothing.
use mathlib.Core.Path.{◌≡◌, refl, ap, ◌∙◌}
use mathlib.Core.List.{List, [], ◌∷◌}
use Prim.Native.Nat.{ℕ, ◌-◌, ◌^◌}
use lib.Bits.{bit_and}
use lib.ListN.{drop}
use Rattle.status.proofs.Bits.{and_assoc}
use Rattle.status.specs.ErrorBits.{error_bit, word_with}
use Rattle.status.specs.declared.ErrorBit.{ErrorBit}
use Rattle.status.specs.declared.Errors.{Errors}
use Rattle.spi_answers.specs.Answers.{first, second, clears, clears_all, cleared_r1, cleared_r2}

abbrev mask_of : ErrorBit → ℕ
mask_of b = 2 ^ 32 - 1 - word_with (b ∷ [])

-- the masks of a list of bits, and of lists, laid on a mask
abbrev laid : ℕ → List ErrorBit → ℕ
laid mask [] = mask
laid mask (b ∷ bs) = laid (bit_and mask (mask_of b)) bs

abbrev laid_all : ℕ → List (List ErrorBit) → ℕ
laid_all mask [] = mask
laid_all mask (bs ∷ lists) = laid_all (laid mask bs) lists

abbrev pub masked : Errors → ℕ → Errors
masked e mask = record { bits = bit_and e.bits mask }

clears_masked : (bs : List ErrorBit) (e : Errors) (mask : ℕ) → clears bs (masked e mask) ≡ masked e (laid mask bs)
clears_masked [] e mask = refl
clears_masked (b ∷ bs) e mask =
    ap (λ (x : ℕ). clears bs (record { bits = x })) (and_assoc e.bits mask (mask_of b)) ∙ clears_masked bs e (bit_and mask (mask_of b))

all_masked : (lists : List (List ErrorBit)) (e : Errors) (mask : ℕ) → clears_all lists (masked e mask) ≡ masked e (laid_all mask lists)
all_masked [] e mask = refl
all_masked (bs ∷ lists) e mask = ap (clears_all lists) (clears_masked bs e mask) ∙ all_masked lists e (laid mask bs)

starts : (b : ErrorBit) (bs : List ErrorBit) (lists : List (List ErrorBit)) (e : Errors)
    → clears_all ((b ∷ bs) ∷ lists) e ≡ masked e (laid_all (laid (mask_of b) bs) lists)
starts b bs lists e = ap (clears_all lists) (clears_masked bs e (mask_of b)) ∙ all_masked lists e (laid (mask_of b) bs)

pub r1_mask : (e : Errors) → cleared_r1 e ≡ masked e 0x0F3FDFFF
unfolding cleared_r1
r1_mask e = starts (error_bit 31) (error_bit 29 ∷ []) (drop 1 first) e

pub r2_mask : (e : Errors) → cleared_r2 e ≡ masked e 0x023F5FFF
unfolding cleared_r1 cleared_r2
r2_mask e = ap (clears_all second) (r1_mask e) ∙ all_masked second e 0x0F3FDFFF
