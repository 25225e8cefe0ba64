-- What a command's argument is where check 6 finds no error in it, and where the lock lets it through.
--   address_right, length_right, read_right, write_right, group_right    by the command's order of errors
--   passes, unlocked    what passes a lock passes where there is none; what a lock would stop and is let through meets none
-- Assumes nothing.
use mathlib.Core.Path.{◌≡◌, refl}
use mathlib.Core.Bool.{Bool, true, false, not}
use Prim.Native.Nat.{ℕ, ◌+◌, ◌/◌, ◌%◌, ◌≤◌, ◌<◌}
use borrow.Author.Tests.{leb-true, ltb-true, eqb-true, not-true}
use lib.Dec.{eqb, leb, ltb}
use Rattle.base.proofs.Cases.{clash, passed}
use Rattle.base.specs.Choice.{unless}
use Rattle.command.specs.Arguments.{address_fault, length_fault, read_fault, write_fault, group_fault}
use Rattle.command.specs.Obey.{passes_lock}
use Rattle.card_record.specs.Record.{crosses}
use Rattle.status.specs.ErrorBits.{error_bit}
use Rattle.status.specs.declared.ErrorBit.{ErrorBit}
use Rattle.wire.specs.Blocks.{longest_block}
use Rattle.std.specs.Prelude.{Option, Some, None}

-- a test that would have set a bit held, and so did those behind it
right : (t : Bool) (bit : ErrorBit) (rest : Option ErrorBit) → unless t (Some bit) rest ≡ None → (t ≡ true) × (rest ≡ None)
right t bit rest e = passed t (Some bit) rest None (λ (z : Some bit ≡ None). clash cc) e

module _ (argument : ℕ) where
  pub address_right : address_fault argument ≡ None → 1 ≤ argument / 65536
  address_right e = leb-true 1 (argument / 65536) (right (leb 1 (argument / 65536)) (error_bit 31) None e).0

  pub length_right : length_fault argument ≡ None → (1 ≤ argument) × (argument ≤ 2048)
  length_right e =
      let some = right (leb 1 argument) (error_bit 29) _ e in
      let few = right (leb argument longest_block) (error_bit 29) None some.1 in
      (leb-true 1 argument some.0, leb-true argument longest_block few.0)

  pub read_right : (length size : ℕ) → read_fault argument length size ≡ None → (argument + length ≤ size) × (crosses argument length ≡ false)
  read_right length size e =
      let inside = right (leb (argument + length) size) (error_bit 31) _ e in
      let whole = right (not (crosses argument length)) (error_bit 30) None inside.1 in
      (leb-true (argument + length) size inside.0, not-true (crosses argument length) whole.0)

  pub write_right : (length size : ℕ) → write_fault argument length size ≡ None → (length ≡ 512) × ((argument + 512 ≤ size) × (argument % 512 ≡ 0))
  write_right length size e =
      let long = right (eqb length 512) (error_bit 29) _ e in
      let inside = right (leb (argument + 512) size) (error_bit 31) _ long.1 in
      let aligned = right (eqb (argument % 512) 0) (error_bit 30) None inside.1 in
      (eqb-true length 512 long.0, (leb-true (argument + 512) size inside.0, eqb-true (argument % 512) 0 aligned.0))

  pub group_right : (size : ℕ) → group_fault argument size ≡ None → argument < size
  group_right size e = ltb-true argument size (right (ltb argument size) (error_bit 31) None e).0

pub passes : (locked : Bool) (index : ℕ) → passes_lock true index ≡ true → passes_lock locked index ≡ true
passes true index e = e
passes false index e = refl

pub unlocked : (locked : Bool) (index : ℕ) → passes_lock true index ≡ false → passes_lock locked index ≡ true → locked ≡ false
unlocked true index stopped e = clash cc
unlocked false index stopped e = refl
