-- Document 01, "Memory of one card": "The map has one byte per protection group, 0 or 1".
-- Assumes nothing.
use Rattle.std.specs.Prelude.{Bool, true, ◌&&◌, ◌||◌, not, List, ℕ, zero, suc, ◌+◌, ◌*◌, ◌/◌, eqb, leb, length, get_or, replicate, set}
use Rattle.base.specs.Choice.{pick}

-- each of the first n entries is 0 or 1
unfoldable pub entries_right : List ℕ → ℕ → Bool
entries_right map zero = true
entries_right map (suc n) = leb (get_or map n 0) 1 && entries_right map n

-- 8: "map length or a map entry wrong"
abbrev pub map_right : List ℕ → ℕ → Bool
map_right map groups = eqb (length map) groups && entries_right map (length map)

-- the protection group of a sector: 16 sectors are one
abbrev pub group_of : ℕ → ℕ
group_of sector = sector / 16

-- whether the map protects a group; one that the map does not have counts as protected
abbrev pub guards : List ℕ → ℕ → Bool
guards map group = leb (length map) group || not (eqb (get_or map group 0) 0)

-- whether a sector is protected: the whole card is ("CSD bit 13 (permanent) or 12 (temporary) protects the whole card"), or its group
abbrev pub protected_in : List ℕ → Bool → ℕ → Bool
protected_in map whole sector = whole || guards map (group_of sector)

-- "CMD28, 29: set, clear the addressed group"; a group that the map does not have changes nothing
abbrev pub group_set : List ℕ → ℕ → Bool → List ℕ
group_set map group on = set map group (pick on 1 0)

-- a group's bit: "groups past the end read 0"
abbrev pub bit_of : List ℕ → ℕ → ℕ
bit_of map group = pick (eqb (get_or map group 0) 0) 0 1

-- the number of n bits, "the lowest bit is the addressed group"
unfoldable pub bits_from : List ℕ → ℕ → ℕ → ℕ
bits_from map group zero = 0
bits_from map group (suc n) = bit_of map group + 2 * bits_from map (suc group) n

-- CMD30: "32 bits"
unfoldable pub protection_bits : List ℕ → ℕ → ℕ
protection_bits map group = bits_from map group 32

-- "forced erase .. clears the map"
abbrev pub map_cleared : List ℕ → List ℕ
map_cleared map = replicate (length map) 0
