-- `measured_bus::addresses_of` meets its contract: one address more at each place, and all of them in the end.
-- Assumes nothing.
use mathlib.Core.Path.{◌≡◌}
use Prim.Native.Nat.{◌<◌}
use native.Mathlib.Omega.{arith}
use borrow.Author.Rules.{rules}
use lib.ListN.{length, replicate}
use Rattle.measured_bus.proofs.Turns.{filled_turn, filled_all}
use Rattle.measured_bus.proofs.addresses_of.Invariants.{address}
use Rattle.measured_bus.proofs.addresses_of.Goals as goal

pub loop-place-preserved : goal.loop-place-preserved
loop-place-preserved c = let l = c.loop-place in
    let cards = c.args.bus.cards in
    let long : length cards ≡ 30 = search rules in
    let there : l.place < length cards = omega arith in
    let room : l.place < 30 = omega arith in
    filled_turn address l.place cards (replicate 30 0) l.addresses _ there room l.invariant

pub returns : goal.returns
returns c = let l = c.loop-place in
    let cards = c.args.bus.cards in
    let long : length cards ≡ 30 = search rules in
    filled_all address l.place cards l.addresses long (omega arith) l.invariant
