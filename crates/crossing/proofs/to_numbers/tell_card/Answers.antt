-- `crossing::to_numbers::tell_card` meets its contract: that the numbers stand for the record is `crossing`.
-- Assumes nothing.
use mathlib.Core.Path.{◌≡◌, ap, ◌∙◌}
use mathlib.Core.List.{List}
use Prim.Native.Nat.{ℕ}
use borrow.Author.Rules.{rules}
use native.Mathlib.Omega.{arith}
use lib.ListN.{length}
use Rattle.crossing.specs.Record.{card_of, Within}
use Rattle.crossing.proofs.Crossing.{mode_behind, lock_behind, registers_behind, crossing}
use Rattle.crossing.proofs.to_numbers.tell_card.Goals as goal

pub returns : goal.returns
returns c =
    let card = c.args.card in
    let numbers = c.args.numbers.now in
    let long : length numbers ≡ 13 = search rules in
    let both = mode_behind card.link card.mode numbers _ _ c.put_link.ensures c.put_mode.ensures in
    let three = lock_behind card.link card.mode card.lock numbers _ _ both c.put_lock.ensures in
    let told = registers_behind card numbers _ _ long three c.put_registers.ensures in
    -- the type of a record says it
    let within : Within card =
    record { link = record { address = omega arith; length = omega arith }; password_length = omega arith; groups = omega arith } in
    record {
      numbers = told;
      crossing = ap (λ (l : List ℕ). card_of l card.registers.cid card.registers.csd card.lock.password) told ∙ crossing card within;
    }
