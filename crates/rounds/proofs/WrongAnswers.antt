-- Wrong answers that the promises rule out. `well_formed` hands on what the type of a bus says, so here are buses that no value of the type
-- is: what it promises is not so of them.
--   places_29    a bus of 29 places
--   cid_of_15    one with a CID of 15 bytes
--   byte_256     one with a CID that holds 256
-- Assumes nothing.
use mathlib.Core.List.{List, ◌∷◌}
use Prim.Native.Nat.{ℕ}
use native.Mathlib.Omega.{arith}
use lib.ListN.{replicate}
use Rattle.bus.specs.declared.Bus.{Bus}
use Rattle.card_record.specs.Making.{refused_make}
use Rattle.card_record.specs.declared.Card.{Card}
use Rattle.rounds.specs.Demand3.{WellFormed}

-- a card with a CID, and the bus that has it in its first place, among so many
abbrev with : List ℕ → Card
with cid =
    record {
      registers = record { cid = cid; csd = replicate 16 0; ocr = 0; groups = 0 };
      lock = refused_make.lock;
      link = refused_make.link;
      mode = refused_make.mode;
    }

abbrev first : List ℕ → ℕ → Bus
first cid others = record { cards = with cid ∷ replicate others refused_make; count = 1 }

places_29 : WellFormed (first (replicate 16 0) 28) → ⊥
places_29 w = omega (arith, w.0)

cid_of_15 : WellFormed (first (replicate 15 0) 29) → ⊥
cid_of_15 w = omega (arith, (w.1 0 (omega arith)).0)

byte_256 : WellFormed (first (replicate 16 256) 29) → ⊥
byte_256 w = omega (arith, (w.1 0 (omega arith)).1 0)
