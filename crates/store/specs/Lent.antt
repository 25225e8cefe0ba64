-- Document 01, "Memory of one card": what a card is lent at a call, and whether it is the card's.
-- Assumes nothing.
use Rattle.std.specs.Prelude.{Bool, ◌&&◌, List, ℕ, ◌*◌, eqb, length, Result, Ok, Err}
use Rattle.base.specs.Choice.{unless}
use Rattle.base.specs.Refusals.{by}
use Rattle.base.specs.Sizes.{protection_group_size}
use Rattle.base.specs.declared.Refusal.{Refusal}
use Rattle.store.specs.Map.{map_right}

-- what a card is lent: its memory, and its protection map
pub record Lent : Type 0 where
  pub memory : List ℕ
  pub map : List ℕ

-- what judging may see of it: how many bytes of memory there are, and the map. The contents it never sees
pub record Seen : Type 0 where
  pub bytes : ℕ
  pub map : List ℕ

abbrev pub lent_of : List ℕ → List ℕ → Lent
lent_of memory map = record { memory = memory; map = map }

abbrev pub seen_of : ℕ → List ℕ → Seen
seen_of bytes map = record { bytes = bytes; map = map }

abbrev pub seen : Lent → Seen
seen lent = seen_of (length lent.memory) lent.map

-- what is lent, with one part changed and the others as they were
abbrev pub with_memory : Lent → List ℕ → Lent
with_memory lent memory = lent_of memory lent.map

abbrev pub with_map : Lent → List ℕ → Lent
with_map lent map = lent_of lent.memory map

-- 12: "lent memory or map differs in length from the card's, or a map entry is not 0 or 1"
abbrev pub lent_right : Seen → ℕ → Bool
lent_right seen groups = eqb seen.bytes (groups * protection_group_size) && map_right seen.map groups

-- whether what is lent is that of a card of so many groups, and else the refusal
abbrev pub lending_of : Seen → ℕ → Result Unit Refusal
lending_of seen groups = unless (lent_right seen groups) (Err (by 12)) (Ok tt)

-- a call that looks at what is lent first: what a refusal gives, and what comes after it
abbrev pub once_lent : {A : Type 0} → Result Unit Refusal → (Refusal → A) → A → A
once_lent (Ok tt) refusing rest = rest
once_lent (Err refusal) refusing rest = refusing refusal
