-- Theorems of data blocks, over the definitions that the contracts of `write_block` and `check_block` name.
--   check_after_write   what is written checks, with the length of its payload; check_back, from the front of an output
--   write_after_check   any block that checks is the one that the writer gives for its payload
--   Good, good          what is known of a block that checks
--   flip_refused        any one flipped bit of a good block is refused 17
-- Assumes nothing.
use mathlib.Core.Path.{◌≡◌, refl, sym, ap, ap₂, ◌∙◌, subst}
use mathlib.Core.List.{List, [], ◌∷◌, ◌++◌}
use Prim.Native.Nat.{ℕ, zero, suc, ◌+◌, ◌-◌, ◌*◌, ◌/◌, ◌%◌, ◌≤◌, ◌<◌}
use native.Mathlib.Nat.{add-zero}
use native.Mathlib.Omega.{arith}
use borrow.Author.Tests.{eq-eqb, ne_eqb, le-leb, eqb-true, leb-true}
use lib.Dec.{eqb, leb}
use lib.ListN.{length, take, drop, get_or, length-append, length-drop, length-set, take-append-drop}
use lib.Seq.{get_or-append-add, get_or-drop, take-append_seam}
use Rattle.base.specs.Choice.{unless}
use Rattle.base.specs.Output.{laid}
use Rattle.base.specs.Refusals.{by}
use Rattle.base.specs.declared.Refusal.{Refusal}
use Rattle.base.proofs.Cases.{unrefused, passed}
use Rattle.base.proofs.Output.{front}
use Rattle.crc.specs.Bits.{bits, spelt, Below}
use Rattle.crc.specs.Crc.{remainder, check_sum, generator16, crc16}
use Rattle.crc.specs.Flip.{flip}
use Rattle.crc.proofs.Bits.{bits_below, bits_octets, bits_take, bits_drop, onward_bits, length_bits, length_octets, octets_below}
use Rattle.crc.proofs.Flips.{flip_below, flip_found}
use Rattle.crc.proofs.Steps.{low16, p16}
use Rattle.wire.specs.Blocks.{longest_block, block_of, block_written, payload_of, crc_in, checked_of}
use Rattle.wire.specs.Flipped.{flipped}
use Rattle.std.specs.Prelude.{Result, Ok, Err}

-- ---- by the tests of the rule
-- a block of a good length is judged by its CRC16 alone
judged : (b : List ℕ) → 3 ≤ length b → length b ≤ 2050
    → checked_of b ≡ unless (eqb (crc_in b) (crc16 (payload_of b))) (Err (by 17)) (Ok (length b - 2))
unfolding checked_of
judged b lo hi = simp (le-leb 3 (length b) lo, le-leb (length b) 2050 hi)

pub record Good (b : List ℕ) (n : ℕ) : Type 0 where
  pub low : 3 ≤ length b
  pub high : length b ≤ 2050
  pub crc : crc_in b ≡ crc16 (payload_of b)
  pub long : length b - 2 ≡ n

pub good : (b : List ℕ) (n : ℕ) → checked_of b ≡ Ok n → Good b n
unfolding checked_of
good b n e =
    let t0 = passed (leb 3 (length b)) (Err (by 5)) _ (Ok n) unrefused e in
    let t1 = passed (leb (length b) (longest_block + 2)) (Err (by 5)) _ (Ok n) unrefused t0.1 in
    let t2 = passed (eqb (crc_in b) (crc16 (payload_of b))) (Err (by 17)) _ (Ok n) unrefused t1.1 in
    let last : ◌≡◌ {A = Result ℕ Refusal} (Ok (length b - 2)) (Ok n) = t2.1 in
    record {
      low = leb-true 3 (length b) t0.0;
      high = leb-true (length b) 2050 t1.0;
      crc = eqb-true (crc_in b) (crc16 (payload_of b)) t2.0;
      long = cc;
    }

-- ---- what is written checks
pub long : (p : List ℕ) → length (block_of p) ≡ length p + 2
unfolding block_of
long p = length-append p (crc16 p / 256 ∷ crc16 p % 256 ∷ [])

pub check_after_write : (p : List ℕ) → 1 ≤ length p → length p ≤ longest_block → checked_of (block_of p) ≡ Ok (length p)
unfolding block_of
check_after_write p lo hi =
    let v : ℕ = crc16 p in
    let vs : List ℕ = v / 256 ∷ v % 256 ∷ [] in
    let n : ℕ = length p in
    let long : length (p ++ vs) ≡ n + 2 = length-append p vs in
    let e2 : length (p ++ vs) - 2 ≡ n = omega arith in
    let e1 : length (p ++ vs) - 1 ≡ n + 1 = omega arith in
    let hi8 : get_or (p ++ vs) n 0 ≡ v / 256 = ap (λ (k : ℕ). get_or (p ++ vs) k 0) (sym (add-zero n)) ∙ get_or-append-add p vs 0 0 in
    let lo8 : get_or (p ++ vs) (n + 1) 0 ≡ v % 256 = get_or-append-add p vs 1 0 in
    let w : v / 256 * 256 + v % 256 ≡ v = omega arith in
    judged (p ++ vs) (omega arith) (omega arith)
    ∙ simp (e2, e1, hi8, lo8, take-append_seam p vs, w, eq-eqb v v refl)

-- the same of what a call leaves at the front of any output that is long enough
pub check_back : (p out : List ℕ) → 1 ≤ length p → length p ≤ longest_block → length p + 2 ≤ length out
    → checked_of (take (length p + 2) (laid (block_written p out) (block_of p) out)) ≡ Ok (length p)
unfolding block_written
check_back p out lo hi ho =
    simp (le-leb 1 (length p) lo, le-leb (length p) longest_block hi)
    (ap checked_of (front (block_of p) out (length p + 2) (long p) ho) ∙ check_after_write p lo hi)

-- ---- any block that checks is the one that the writer gives
-- the last two bytes of a block
last_two : (b : List ℕ) → 2 ≤ length b → drop (length b - 2) b ≡ get_or b (length b - 2) 0 ∷ get_or b (length b - 1) 0 ∷ []
last_two b h =
    let m : ℕ = length b - 2 in
    let e : m + 1 ≡ length b - 1 = omega arith in
    two (drop m b) (length-drop m b ∙ omega arith)
    ∙ ap₂ (λ (x y : ℕ). x ∷ y ∷ []) (get_or-drop m b 0 0 ∙ ap (λ (k : ℕ). get_or b k 0) (add-zero m)) (get_or-drop m b 1 0 ∙ ap (λ (k : ℕ). get_or b k 0) e)
  where
    two : (l : List ℕ) → length l ≡ 2 → l ≡ get_or l 0 0 ∷ get_or l 1 0 ∷ []
    two [] e = absurd (omega arith)
    two (x ∷ []) e = absurd (omega arith)
    two (x ∷ y ∷ []) e = refl
    two (x ∷ y ∷ z ∷ l) e = absurd (omega arith)

get_or_below : (m : ℕ) (l : List ℕ) (k : ℕ) → 0 < m → Below m l → get_or l k 0 < m
get_or_below m [] k h b = h
get_or_below m (x ∷ l) zero h b = b.0
get_or_below m (x ∷ l) (suc k) h b = get_or_below m l k h b.1

pub write_after_check : (b : List ℕ) → Below 256 b → (n : ℕ) → checked_of b ≡ Ok n → b ≡ block_of (take n b)
unfolding block_of
write_after_check b bb n e =
    let g = good b n e in
    let v : ℕ = crc16 (payload_of b) in
    let x : ℕ = get_or b (length b - 2) 0 in
    let y : ℕ = get_or b (length b - 1) 0 in
    let hx : x < 256 = get_or_below 256 b (length b - 2) (omega arith) bb in
    let hy : y < 256 = get_or_below 256 b (length b - 1) (omega arith) bb in
    let ex : x ≡ v / 256 = omega (arith, g.crc) in
    let ey : y ≡ v % 256 = omega (arith, g.crc) in
    let split : b ≡ payload_of b ++ (v / 256 ∷ v % 256 ∷ []) =
    sym (take-append-drop (length b - 2) b) ∙ ap (λ (l : List ℕ). payload_of b ++ l) (last_two b (omega (arith, g.low)) ∙ ap₂ (λ (p q : ℕ). p ∷ q ∷ []) ex ey)
    in
    subst (λ (k : ℕ). b ≡ take k b ++ (crc16 (take k b) / 256 ∷ crc16 (take k b) % 256 ∷ [])) g.long split

-- ---- one flipped bit
pair : (x y : ℕ) → x < 256 → y < 256 → spelt (bits (x ∷ y ∷ [])) ≡ x * 256 + y
unfolding bits
pair x y hx hy = onward_bits 0 x (y ∷ []) hx ∙ onward_bits (0 * 256 + x) y [] hy ∙ omega arith

-- the rule of the CRC16, by the bits of the block: what stands after the payload's bits is their remainder
rule : (b : List ℕ) → Below 256 b → 2 ≤ length b
    → (crc_in b ≡ crc16 (payload_of b))
    ≡ (spelt (drop ((length b - 2) * 8) (bits b)) ≡ remainder 16 generator16 (take ((length b - 2) * 8) (bits b)))
unfolding crc16 check_sum
rule b bb h =
    let m : ℕ = length b - 2 in
    let x : ℕ = get_or b m 0 in
    let y : ℕ = get_or b (length b - 1) 0 in
    ap₂ (λ (p : ℕ) (q : List ℕ). p ≡ remainder 16 generator16 q)
    (sym
    (ap spelt (bits_drop m b (omega arith) ∙ ap bits (last_two b h))
    ∙ pair x y (get_or_below 256 b m (omega arith) bb) (get_or_below 256 b (length b - 1) (omega arith) bb)))
    (sym (bits_take m b (omega arith)))

pub flip_refused : (b : List ℕ) → Below 256 b → (n : ℕ) → checked_of b ≡ Ok n → (k : ℕ) → k < length b * 8
    → checked_of (flipped k b) ≡ Err (by 17)
flip_refused b bb n e k hk =
    let g = good b n e in
    let w : List ℕ = bits b in
    let v : List ℕ = flip k w in
    let c : List ℕ = flipped k b in
    let m : ℕ = (length b - 2) * 8 in
    let lw : length w ≡ length b * 8 = length_bits b in
    let lv : length v ≡ length b * 8 = length-set w k (1 - get_or w k 0) ∙ lw in
    let bv : Below 2 v = flip_below k w (bits_below b) in
    let lc : length c ≡ length b = length_octets (length b) v in
    let bc : bits c ≡ v = bits_octets (length b) v lv bv in
    let low = g.low in
    let high = g.high in
    let wrong : crc_in c ≡ crc16 (payload_of c) → ⊥ = λ (f : crc_in c ≡ crc16 (payload_of c)).
    flip_found 16 low16 p16 refl m k w (bits_below b) (lw ∙ omega arith) (omega arith)
    (subst (λ (P : Type 0). P) (rule b bb (omega arith)) g.crc)
    (subst (λ (l : List ℕ). spelt (drop m l) ≡ remainder 16 generator16 (take m l)) bc
    (subst (λ (j : ℕ). spelt (drop ((j - 2) * 8) (bits c)) ≡ remainder 16 generator16 (take ((j - 2) * 8) (bits c))) lc
    (subst (λ (P : Type 0). P) (rule c (octets_below (length b) v lv bv) (omega arith)) f)))
    in
    judged c (omega arith) (omega arith) ∙ simp (ne_eqb (crc_in c) (crc16 (payload_of c)) wrong)
