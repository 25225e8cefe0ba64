-- Bits and bytes. Document 01, "Frames and blocks": the first bit sent is the highest.
-- Assumes nothing.
use Rattle.std.specs.Prelude.{List, [], ◌∷◌, ◌++◌, ℕ, zero, suc, ◌+◌, ◌*◌, ◌/◌, ◌%◌, ◌^◌, ◌<◌, take, drop}

-- the k low bits of a number, in the order in which they are sent
abbrev pub bits_of : ℕ → ℕ → List ℕ
bits_of zero x = []
bits_of (suc k) x = (x / 2 ^ k % 2) ∷ bits_of k x

-- the bits of a list of bytes, in the order in which they are sent
unfoldable pub bits : List ℕ → List ℕ
bits [] = []
bits (b ∷ bs) = bits_of 8 b ++ bits bs

-- the number that bits spell, where those before them spelt s
abbrev pub onward : ℕ → List ℕ → ℕ
onward s [] = s
onward s (a ∷ l) = onward (s * 2 + a) l

-- the number that bits spell
abbrev pub spelt : List ℕ → ℕ
spelt l = onward 0 l

-- the first n bytes that bits spell, eight bits each
abbrev pub octets : ℕ → List ℕ → List ℕ
octets zero l = []
octets (suc n) l = spelt (take 8 l) ∷ octets n (drop 8 l)

-- a list of numbers below m: of bits for 2, of bytes for 256
abbrev pub Below : ℕ → List ℕ → Type 0
Below m [] = Unit {0}
Below m (x ∷ l) = (x < m) × Below m l
