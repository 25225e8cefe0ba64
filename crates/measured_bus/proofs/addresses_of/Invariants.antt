-- `measured_bus::addresses_of` meets its contract. The loop's invariant: the addresses of the first places, zeros behind them.
-- Assumes nothing.
use mathlib.Core.List.{◌++◌, map}
use mathlib.Core.Path.{◌≡◌}
use Prim.Native.Nat.{ℕ}
use lib.ListN.{take, drop, replicate}
use Rattle.card_record.specs.declared.Card.{Card}
use Rattle.measured_bus.proofs.addresses_of.Given as goal

abbrev pub address : Card → ℕ
address card = card.link.address

abbrev pub invariant-loop-place : goal.invariant-loop-place
invariant-loop-place l = l.addresses ≡ map address (take l.place l.bus.cards) ++ drop l.place (replicate 30 0)
