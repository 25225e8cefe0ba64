-- Wrong answers that the promises rule out, each refuted at a sample that antt computes: a call's answer is the definition, so a call
-- that gave the wrong answer would make the two equal. (Others are tried as must-fail edits.)
--   size_below, size_above     a size just below the smallest allowed, one just above the largest
--   size_between               a size that is no multiple of 8,192
--   entry_two, map_longer      a map with an entry of 2, one with an entry too many
--   memory_short               a lent memory a byte short, taken for the card's
--   lent_longer, lent_entry    a lent map with an entry too many, one with an entry of 2, taken for the card's
--   lent_as_map                a wrong lent map told by the number that a map has when a card is made
--   short_written              a sector written with fewer bytes than it has
--   part_past_end, part_cut    a part that ends past the memory, and the bytes of it that are there
--   group_past_map             a sector whose group the map does not have, taken for free
--   next_group, own_group      the last sector of a free group taken for one of the protected group behind it, and the other way round
--   whole_card                 a sector of a card that is protected whole, taken for free
--   set_as_clear, set_both     CMD28 that clears, CMD28 that sets the next group too
--   bits_turned, bits_past     the addressed group in the highest bit, groups past the end read as 1
--   zeros, byte_left           a forced erase that fills with 0, one that leaves the last byte
--   one_left, all_set          a forced erase that leaves an entry of the map set, one that sets them
-- Assumes nothing.
use mathlib.Core.Path.{◌≡◌, ap}
use mathlib.Core.Bool.{true, false}
use mathlib.Core.List.{List, [], ◌∷◌, ◌++◌}
use Prim.Native.Nat.{ℕ}
use native.Mathlib.Omega.{arith}
use lib.ListN.{get_or, replicate}
use Rattle.base.proofs.Cases.{clash}
use Rattle.base.specs.Refusals.{by}
use Rattle.store.specs.Lent.{seen_of, lending_of}
use Rattle.store.specs.Map.{entries_right, map_right, protected_in, group_set, bits_from, protection_bits, map_cleared}
use Rattle.store.specs.Memory.{size_allowed, sector_written, inside, part_read, all_erased}
use Rattle.std.specs.Prelude.{Ok, Err}

size_below : size_allowed 8191 ≡ true → ⊥
size_below e = clash cc

size_above : size_allowed 33562624 ≡ true → ⊥
size_above e = clash cc

size_between : size_allowed 8704 ≡ true → ⊥
size_between e = clash cc

entry_two : map_right (0 ∷ 2 ∷ []) 2 ≡ true → ⊥
unfolding entries_right
entry_two e = clash cc

map_longer : map_right (0 ∷ 0 ∷ []) 1 ≡ true → ⊥
unfolding entries_right
map_longer e = clash cc

memory_short : lending_of (seen_of 8191 (0 ∷ [])) 1 ≡ Ok tt → ⊥
unfolding entries_right
memory_short e = clash cc

lent_longer : lending_of (seen_of 8192 (0 ∷ 0 ∷ [])) 1 ≡ Ok tt → ⊥
unfolding entries_right
lent_longer e = clash cc

lent_entry : lending_of (seen_of 8192 (2 ∷ [])) 1 ≡ Ok tt → ⊥
unfolding entries_right
lent_entry e = clash cc

lent_as_map : lending_of (seen_of 8192 (2 ∷ [])) 1 ≡ Err (by 8) → ⊥
unfolding entries_right
lent_as_map e = clash cc

short_written : sector_written (replicate 512 1) 0 (replicate 511 2) ≡ replicate 511 2 ++ 1 ∷ [] → ⊥
unfolding sector_written
short_written e = let z : ◌≡◌ {A = ℕ} 1 2 = ap (λ (l : List ℕ). get_or l 0 0) e in omega arith

part_past_end : inside (1 ∷ 2 ∷ 3 ∷ []) 2 2 ≡ true → ⊥
part_past_end e = clash cc

part_cut : part_read (1 ∷ 2 ∷ 3 ∷ []) 2 (0 ∷ 0 ∷ []) ≡ 3 ∷ 0 ∷ [] → ⊥
unfolding part_read
part_cut e = let z : ◌≡◌ {A = ℕ} 0 3 = ap (λ (l : List ℕ). get_or l 0 0) e in omega arith

group_past_map : protected_in (0 ∷ []) false 16 ≡ false → ⊥
group_past_map e = clash cc

next_group : protected_in (0 ∷ 1 ∷ []) false 15 ≡ true → ⊥
next_group e = clash cc

own_group : protected_in (0 ∷ 1 ∷ []) false 16 ≡ false → ⊥
own_group e = clash cc

whole_card : protected_in (0 ∷ []) true 0 ≡ false → ⊥
whole_card e = clash cc

set_as_clear : group_set (1 ∷ []) 0 true ≡ 0 ∷ [] → ⊥
set_as_clear e = let z : ◌≡◌ {A = ℕ} 1 0 = ap (λ (l : List ℕ). get_or l 0 0) e in omega arith

set_both : group_set (0 ∷ 0 ∷ []) 0 true ≡ 1 ∷ 1 ∷ [] → ⊥
set_both e = clash (ap (λ (l : List ℕ). get_or l 1 0) e)

bits_turned : protection_bits (1 ∷ 0 ∷ []) 0 ≡ 0x80000000 → ⊥
unfolding protection_bits bits_from
bits_turned e = omega (arith, e)

bits_past : protection_bits (0 ∷ []) 1 ≡ 0xFFFFFFFF → ⊥
unfolding protection_bits bits_from
bits_past e = omega (arith, e)

zeros : all_erased (1 ∷ []) ≡ 0 ∷ [] → ⊥
zeros e = let z : ◌≡◌ {A = ℕ} 0xFF 0 = ap (λ (l : List ℕ). get_or l 0 0) e in omega arith

one_left : map_cleared (0 ∷ 1 ∷ []) ≡ 0 ∷ 1 ∷ [] → ⊥
one_left e = clash (ap (λ (l : List ℕ). get_or l 1 0) e)

byte_left : all_erased (0xFF ∷ 1 ∷ []) ≡ 0xFF ∷ 1 ∷ [] → ⊥
byte_left e = let z : ◌≡◌ {A = ℕ} 0xFF 1 = ap (λ (l : List ℕ). get_or l 1 0) e in omega arith

all_set : map_cleared (0 ∷ []) ≡ 1 ∷ [] → ⊥
all_set e = clash (ap (λ (l : List ℕ). get_or l 0 0) e)
