-- Error bits that can wait for the next R1.
--   none_pending     no bit
--   set_pending      one of the list, set
--   set_either       one of both lists, set, whatever the mode
--   taken_pending    what a taken command leaves of them
-- Assumes nothing.
use mathlib.Core.Path.{◌≡◌, refl, sym, ap, ap₂, ◌∙◌}
use mathlib.Core.Bool.{Bool, true, false}
use mathlib.Core.List.{[], ◌∷◌}
use Prim.Native.Nat.{ℕ, ◌-◌, ◌^◌}
use lib.Bits.{bit_and, bit_or, and_comm}
use Rattle.status.proofs.Bits.{and_assoc, and_or}
use Rattle.status.specs.ErrorBits.{place_of, error_bit, word_with}
use Rattle.status.specs.Status.{no_errors, with_bit, command_bits_cleared}
use Rattle.status.specs.declared.ErrorBit.{ErrorBit}
use Rattle.status.specs.declared.Errors.{Errors}
use Rattle.made.specs.Made.{pending_bits, Pending}

abbrev listed : Bool → ℕ
listed spi = word_with (pending_bits spi)

pub none_pending : (spi : Bool) → Pending spi no_errors
none_pending spi = refl

-- a bit is one of the list if its word is
pub set_pending : (spi : Bool) (errors : Errors) (bit : ErrorBit) → bit_and (2 ^ place_of bit) (listed spi) ≡ 2 ^ place_of bit → Pending spi errors
    → Pending spi (with_bit errors bit)
set_pending spi errors bit one h = and_or errors.bits (2 ^ place_of bit) (listed spi) ∙ ap₂ bit_or h one

pub set_either : (spi : Bool) (errors : Errors) (bit : ErrorBit) → bit_and (2 ^ place_of bit) (listed true) ≡ 2 ^ place_of bit
    → bit_and (2 ^ place_of bit) (listed false) ≡ 2 ^ place_of bit → Pending spi errors → Pending spi (with_bit errors bit)
set_either true errors bit in_spi_lem in_mmc_lem h = set_pending true errors bit in_spi_lem h
set_either false errors bit in_spi_lem in_mmc_lem h = set_pending false errors bit in_mmc_lem h

pub taken_pending : (spi : Bool) (errors : Errors) → Pending spi errors → Pending spi (command_bits_cleared errors)
taken_pending spi errors h =
    let others : ℕ = 2 ^ 32 - 1 - word_with (error_bit 23 ∷ error_bit 22 ∷ []) in
    and_assoc errors.bits others (listed spi)
    ∙ ap (bit_and errors.bits) (and_comm others (listed spi))
    ∙ sym (and_assoc errors.bits (listed spi) others)
    ∙ ap (λ (bits : ℕ). bit_and bits others) h
