-- The frames of specs/, which are laid out in bits, by their bytes.
--   crc7_bits     the CRC7 of bytes is that of their bits
--   last_is       the byte that closes bytes is their CRC7, times 2, plus 1
--   sealed_bits   bytes closed by that byte are their bits closed by CRC7 and a 1
--   first_bits    the bits of a frame's first byte: 0, the transmission bit, the index
--   word_bytes    the four bytes of a 32-bit number, highest first
--   word_bits     the bits of a 32-bit number, by them
--   frame_bytes   a frame of 48 bits, by its six bytes
--   framing_is    a frame's fields, by its six bytes; framing_good, where the framing bits are right
--   r3_bytes_lem      an R3, by its six bytes
-- Assumes nothing.
use mathlib.Core.Path.{◌≡◌, refl, sym, ap, ap₂, ◌∙◌, subst⁻¹}
use mathlib.Core.List.{List, [], ◌∷◌, ◌++◌, append_assoc}
use Prim.Native.Nat.{ℕ, ◌+◌, ◌*◌, ◌/◌, ◌%◌, ◌^◌, ◌<◌}
use native.Mathlib.Nat.{mod-eq_of_lt}
use native.Mathlib.Omega.{arith}
use lib.Dec.{eqb}
use borrow.Author.Tests.{eq-eqb}
use lib.ListN.{length, get_or, take}
use Rattle.std.specs.Int.{w32, to_be_bytes}
use Rattle.base.specs.Choice.{unless}
use Rattle.base.specs.Refusals.{by}
use Rattle.crc.specs.Bits.{bits_of, bits, spelt, octets}
use Rattle.crc.specs.Crc.{check_sum, crc7}
use Rattle.crc.proofs.Bits.{bits_append, bits_of_append, bits_of_low, bits_of_spelt, bits_of_below, below_append, octets_bits, spelt_bits_of}
use Rattle.crc.proofs.Steps.{crc7_lt}
use Rattle.wire.specs.Frames.{crc7_of, sealed, field, fields_of, framing_of, as_fields}
use Rattle.wire.specs.Responses.{last_byte, r3_frame}
use Rattle.wire.specs.declared.R3.{R3}
use Rattle.std.specs.Prelude.{Result, Ok, Err}
use Rattle.base.specs.declared.Refusal.{Refusal}
use Rattle.wire.specs.declared.Fields.{Fields}

pub crc7_bits : (bs : List ℕ) → crc7_of (bits bs) ≡ crc7 bs
unfolding crc7 check_sum crc7_of
crc7_bits bs = refl

pub last_is : (bs : List ℕ) → last_byte bs ≡ crc7 bs * 2 + 1
unfolding last_byte
last_is bs =
    ap (λ (c : ℕ). spelt (bits_of 7 c) * 2 + 1) (crc7_bits bs)
    ∙ ap (λ (x : ℕ). x * 2 + 1) (spelt_bits_of 7 (crc7 bs) ∙ mod-eq_of_lt (crc7_lt bs))

pub last_lt : (bs : List ℕ) → last_byte bs < 256
last_lt bs = subst⁻¹ (λ (x : ℕ). x < 256) (last_is bs) (omega (arith, crc7_lt bs))

pub sealed_bits : (bs : List ℕ) → sealed (bits bs) ≡ bits (bs ++ (last_byte bs ∷ []))
unfolding sealed last_byte bits
sealed_bits bs =
    let closing : List ℕ = bits_of 7 (crc7_of (bits bs)) ++ (1 ∷ []) in
    append_assoc (bits bs) (bits_of 7 (crc7_of (bits bs))) (1 ∷ [])
    ∙ ap (λ (l : List ℕ). bits bs ++ l) (sym (bits_of_spelt closing (below_append 2 (bits_of 7 (crc7_of (bits bs))) (1 ∷ []) (bits_of_below 7 (crc7_of (bits bs))) (omega arith, tt))))
    ∙ sym (bits_append bs (last_byte bs ∷ []))

pub first_bits : (t i : ℕ) → t < 2 → i < 64 → bits_of 8 (t * 64 + i) ≡ 0 ∷ t ∷ bits_of 6 i
first_bits t i ht hi =
    let x : ℕ = t * 64 + i in
    let e0 : x / 128 % 2 ≡ 0 = omega arith in
    let e1 : x / 64 % 2 ≡ t = omega arith in
    let e2 : x % 64 ≡ i % 64 = omega arith in
    ap₂ (λ (a b : ℕ). a ∷ b ∷ bits_of 6 x) e0 e1
    ∙ ap (λ (l : List ℕ). 0 ∷ t ∷ l) (sym (bits_of_low 6 x) ∙ ap (bits_of 6) e2 ∙ bits_of_low 6 i)

-- the four bytes of a 32-bit number, highest first
abbrev pub bytes4 : ℕ → List ℕ
bytes4 w = w / 16777216 ∷ w / 65536 % 256 ∷ w / 256 % 256 ∷ w % 256 ∷ []

pub word_bytes : (w : ℕ) → w < 2 ^ 32 → to_be_bytes w32 w ≡ bytes4 w
word_bytes w h =
    let e : w / 16777216 % 256 ≡ w / 16777216 = omega arith in
    ap (λ (x : ℕ). x ∷ w / 65536 % 256 ∷ w / 256 % 256 ∷ w % 256 ∷ []) e

pub word_bits : (w : ℕ) → bits_of 32 w ≡ bits (bytes4 w)
unfolding bits
word_bits w =
    bits_of_append 8 24 w
    ∙ ap (λ (l : List ℕ). bits_of 8 (w / 16777216) ++ l)
    (bits_of_append 8 16 w
    ∙ ap₂ (λ (k l : List ℕ). k ++ l) (sym (bits_of_low 8 (w / 65536)))
    (bits_of_append 8 8 w ∙ ap₂ (λ (k l : List ℕ). k ++ l) (sym (bits_of_low 8 (w / 256))) (sym (bits_of_low 8 w))))

pub frame_bytes : (first w : ℕ) → first < 256 → w < 2 ^ 32
    → octets 6 (sealed (bits_of 8 first ++ bits_of 32 w)) ≡ (first ∷ bytes4 w) ++ (last_byte (first ∷ bytes4 w) ∷ [])
unfolding bits
frame_bytes first w hf hw =
    let h : List ℕ = first ∷ bytes4 w in
    ap (λ (l : List ℕ). octets 6 (sealed (bits_of 8 first ++ l))) (word_bits w)
    ∙ ap (octets 6) (sealed_bits h)
    ∙ octets_bits (h ++ (last_byte h ∷ [])) (hf, (omega arith, (omega arith, (omega arith, (omega arith, (last_lt h, tt))))))

pub six_bytes : (f : List ℕ) → length f ≡ 6 → f ≡ get_or f 0 0 ∷ get_or f 1 0 ∷ get_or f 2 0 ∷ get_or f 3 0 ∷ get_or f 4 0 ∷ get_or f 5 0 ∷ []
six_bytes [] e = absurd (omega arith)
six_bytes (b0 ∷ []) e = absurd (omega arith)
six_bytes (b0 ∷ b1 ∷ []) e = absurd (omega arith)
six_bytes (b0 ∷ b1 ∷ b2 ∷ []) e = absurd (omega arith)
six_bytes (b0 ∷ b1 ∷ b2 ∷ b3 ∷ []) e = absurd (omega arith)
six_bytes (b0 ∷ b1 ∷ b2 ∷ b3 ∷ b4 ∷ []) e = absurd (omega arith)
six_bytes (b0 ∷ b1 ∷ b2 ∷ b3 ∷ b4 ∷ b5 ∷ []) e = refl
six_bytes (b0 ∷ b1 ∷ b2 ∷ b3 ∷ b4 ∷ b5 ∷ b6 ∷ f) e = absurd (omega arith)

-- what framing_of says of six bytes
abbrev by_bytes : (b0 b1 b2 b3 b4 b5 : ℕ) → Result Fields Refusal
by_bytes b0 b1 b2 b3 b4 b5 =
    unless (eqb (b0 / 128) 0) (Err (by 2))
    (unless (eqb (b0 / 64 % 2) 1) (Err (by 2))
    (unless (eqb (b5 % 2) 1) (Err (by 2))
    (Ok (as_fields (b0 % 64) (spelt (bits (b1 ∷ b2 ∷ b3 ∷ b4 ∷ []))) (eqb (b5 / 2) (crc7 (b0 ∷ b1 ∷ b2 ∷ b3 ∷ b4 ∷ [])))))))

six : (b0 b1 b2 b3 b4 b5 : ℕ) → b0 < 256 → b5 < 256 → framing_of (b0 ∷ b1 ∷ b2 ∷ b3 ∷ b4 ∷ b5 ∷ []) ≡ by_bytes b0 b1 b2 b3 b4 b5
unfolding framing_of fields_of bits
six b0 b1 b2 b3 b4 b5 h0 h5 =
    let f : List ℕ = bits (b0 ∷ b1 ∷ b2 ∷ b3 ∷ b4 ∷ b5 ∷ []) in
    let start : field f 0 1 ≡ b0 / 128 = omega arith in
    let transmission : field f 1 1 ≡ b0 / 64 % 2 = omega arith in
    let end : field f 47 1 ≡ b5 % 2 = omega arith in
    let index : field f 2 6 ≡ b0 % 64 = spelt_bits_of 6 b0 in
    let crc : field f 40 7 ≡ b5 / 2 =
    ap (λ (l : List ℕ). spelt (take 7 l)) (bits_of_append 7 1 b5) ∙ spelt_bits_of 7 (b5 / 2) ∙ mod-eq_of_lt {n = b5 / 2} {m = 128} (omega arith)
    in
    simp (start, transmission, end, index, crc, crc7_bits (b0 ∷ b1 ∷ b2 ∷ b3 ∷ b4 ∷ []))

pub framing_is : (f : List ℕ) → length f ≡ 6 → ((k : ℕ) → get_or f k 0 < 256)
    → framing_of f ≡ by_bytes (get_or f 0 0) (get_or f 1 0) (get_or f 2 0) (get_or f 3 0) (get_or f 4 0) (get_or f 5 0)
framing_is f e h = ap framing_of (six_bytes f e) ∙ six (get_or f 0 0) (get_or f 1 0) (get_or f 2 0) (get_or f 3 0) (get_or f 4 0) (get_or f 5 0) (h 0) (h 5)

-- what six bytes mean whose framing bits are right
abbrev pub meaning : List ℕ → ℕ → ℕ → Result Fields Refusal
meaning f argument crc = Ok (as_fields (get_or f 0 0 % 64) argument (eqb (get_or f 5 0 / 2) crc))

good : (b0 b5 : ℕ) (x : Result Fields Refusal) → b0 / 128 ≡ 0 → b0 / 64 % 2 ≡ 1 → b5 % 2 ≡ 1
    → unless (eqb (b0 / 128) 0) (Err (by 2)) (unless (eqb (b0 / 64 % 2) 1) (Err (by 2)) (unless (eqb (b5 % 2) 1) (Err (by 2)) x)) ≡ x
good b0 b5 x e0 e1 e5 = simp (eq-eqb (b0 / 128) 0 e0, eq-eqb (b0 / 64 % 2) 1 e1, eq-eqb (b5 % 2) 1 e5)

pub framing_good : (f : List ℕ) → length f ≡ 6 → ((k : ℕ) → get_or f k 0 < 256) → get_or f 0 0 / 128 ≡ 0 → get_or f 0 0 / 64 % 2 ≡ 1 → get_or f 5 0 % 2 ≡ 1
    → framing_of f
    ≡ meaning f (spelt (bits (get_or f 1 0 ∷ get_or f 2 0 ∷ get_or f 3 0 ∷ get_or f 4 0 ∷ [])))
    (crc7 (get_or f 0 0 ∷ get_or f 1 0 ∷ get_or f 2 0 ∷ get_or f 3 0 ∷ get_or f 4 0 ∷ []))
framing_good f n h e0 e1 e5 = framing_is f n h ∙ good (get_or f 0 0) (get_or f 5 0) _ e0 e1 e5

abbrev pub r3_bytes : ℕ → List ℕ
r3_bytes x = 0x3F ∷ (128 + x / 16777216 % 128) ∷ x / 65536 % 256 ∷ x / 256 % 256 ∷ x % 256 ∷ 0xFF ∷ []

-- with the highest of 32 bits set
top_bits : (x v : ℕ) → v ≡ 2147483648 + x % 2147483648 → 1 ∷ bits_of 31 x ≡ bits (bytes4 v)
top_bits x v e =
    let top : v / 2147483648 % 2 ≡ 1 = omega arith in
    let rest : v % 2147483648 ≡ x % 2147483648 = omega arith in
    sym (ap₂ (λ (b : ℕ) (l : List ℕ). b ∷ l) top (sym (bits_of_low 31 v) ∙ ap (bits_of 31) rest ∙ bits_of_low 31 x)) ∙ word_bits v

top_bytes : (x v : ℕ) → v ≡ 2147483648 + x % 2147483648 → 0x3F ∷ bytes4 v ++ (0xFF ∷ []) ≡ r3_bytes x
top_bytes x v e =
    let e1 : v / 16777216 ≡ 128 + x / 16777216 % 128 = omega arith in
    let e2 : v / 65536 % 256 ≡ x / 65536 % 256 = omega arith in
    let e3 : v / 256 % 256 ≡ x / 256 % 256 = omega arith in
    let e4 : v % 256 ≡ x % 256 = omega arith in
    λ k. 0x3F ∷ e1 k ∷ e2 k ∷ e3 k ∷ e4 k ∷ 0xFF ∷ []

laid_top : (x v : ℕ) → v ≡ 2147483648 + x % 2147483648 → octets 4 (1 ∷ bits_of 31 x) ≡ bytes4 v
laid_top x v e = ap (octets 4) (top_bits x v e) ∙ octets_bits (bytes4 v) (omega arith, (omega arith, (omega arith, (omega arith, tt))))

pub r3_bytes_lem : (r : R3) → r3_frame r ≡ r3_bytes r.ocr
unfolding r3_frame
r3_bytes_lem r =
    ap (λ (l : List ℕ). 0x3F ∷ l ++ (0xFF ∷ [])) (laid_top r.ocr (2147483648 + r.ocr % 2147483648) refl)
    ∙ top_bytes r.ocr (2147483648 + r.ocr % 2147483648) refl
