-- `rounds::well_formed` meets its contract: what each card's type says, place by place.
-- Assumes nothing.
use Prim.Native.Nat.{ℕ, ◌<◌}
use lib.ListN.{get_or}
use Rattle.card_record.specs.Making.{refused_make}
use Rattle.rounds.specs.Demand3.{CidBytes}
use Rattle.rounds.proofs.well_formed.Given as goal

abbrev pub invariant-loop-card : goal.invariant-loop-card
invariant-loop-card l = (k : ℕ) → k < l.card-index → CidBytes (get_or l.fn.bus.cards k refused_make).registers.cid
