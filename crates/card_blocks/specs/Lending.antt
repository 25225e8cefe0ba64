-- What a card is lent at a call, as one value: its memory and its protection map.
-- Assumes nothing.
use Rattle.std.specs.Prelude.{◌≡◌}
use Rattle.card_blocks.specs.declared.Lending.{Lending}
use Rattle.store.specs.Lent.{Lent, lent_of}

-- what they hold
abbrev pub held : Lending → Lent
held lent = lent_of lent.memory.now lent.map.now

-- the same memory and map, and what they hold afterwards
pub record Leaves (before after : Lending) (lent : Lent) : Type 0 where
  pub memory : after.memory.ghost_name ≡ before.memory.ghost_name
  pub map : after.map.ghost_name ≡ before.map.ghost_name
  pub holds : held after ≡ lent
