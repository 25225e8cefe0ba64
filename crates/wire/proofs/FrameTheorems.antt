-- Theorems of command frames, over the definitions that the contracts of `read_frame` and `write_command` name.
--   read_after_write   what is written is read back; read_back, from the front of an output
--   write_after_read   any frame that is read is the one that the writer gives for what was read
--   Sent, read         what is known of the bits of a frame that is read; framing, of how it is framed
-- Assumes nothing.
use mathlib.Core.Path.{◌≡◌, refl, sym, ap, ap₂, ◌∙◌, subst, subst⁻¹}
use mathlib.Core.Bool.{Bool, true, false}
use mathlib.Core.List.{List, [], ◌∷◌, ◌++◌}
use Prim.Native.Nat.{ℕ, ◌+◌, ◌*◌, ◌/◌, ◌%◌, ◌^◌, ◌≤◌, ◌<◌}
use native.Mathlib.Nat.{mod-eq_of_lt}
use native.Mathlib.Omega.{arith}
use borrow.Author.Tests.{eq-eqb, eqb-true, le-leb}
use lib.Dec.{eqb}
use lib.ListN.{length, take, drop, get_or, length-drop}
use lib.Seq.{length-take-le}
use Rattle.base.specs.Choice.{unless}
use Rattle.base.specs.Output.{fits, laid}
use Rattle.base.specs.Refusals.{by}
use Rattle.base.specs.declared.Refusal.{Refusal}
use Rattle.base.proofs.Cases.{clash, unrefused, passed}
use Rattle.base.proofs.Output.{front}
use Rattle.crc.specs.Bits.{bits_of, bits, spelt, octets, Below}
use Rattle.crc.proofs.Bits.{below_append, below_take, below_drop, bits_of_below, bits_below, length_bits, bits_of_spelt, bits_octets, octets_bits, spelt_bits_of, spelt_lt}
use Rattle.crc.proofs.Remainder.{the_remainder}
use Rattle.crc.proofs.Steps.{low7, p7}
use Rattle.wire.specs.Frames.{crc7_of, sealed, command_frame, indexed, field, as_fields, as_command, fields_of, framing_of, checked, frame_of}
use Rattle.wire.proofs.InBytes.{six_bytes}
use Rattle.wire.proofs.Told.{fields_told, command_told}
use Rattle.std.specs.Prelude.{Result, Ok, Err}
use Rattle.wire.specs.declared.Command.{Command}
use Rattle.wire.specs.declared.Fields.{Fields}

-- the 48 bits of a command
abbrev command_bits : ℕ → ℕ → List ℕ
command_bits i a = sealed (0 ∷ 1 ∷ bits_of 6 i ++ bits_of 32 a)

sealed_below : (l : List ℕ) → Below 2 l → Below 2 (sealed l)
unfolding sealed
sealed_below l h = below_append 2 (l ++ bits_of 7 (crc7_of l)) (1 ∷ []) (below_append 2 l (bits_of 7 (crc7_of l)) h (bits_of_below 7 (crc7_of l))) (omega arith, tt)

-- the bits of a written command are those that it is laid out in
command_bits_lem : (i a : ℕ) → bits (command_frame i a) ≡ command_bits i a
unfolding command_frame sealed
command_bits_lem i a =
    bits_octets 6 (command_bits i a) refl
    (sealed_below (0 ∷ 1 ∷ bits_of 6 i ++ bits_of 32 a) (omega arith, (omega arith, below_append 2 (bits_of 6 i) (bits_of 32 a) (bits_of_below 6 i) (bits_of_below 32 a))))

crc7_small : (l : List ℕ) → Below 2 l → crc7_of l < 128
unfolding crc7_of
crc7_small l b = (the_remainder 7 low7 p7 l b).lower

-- they are framed, and their CRC7 is right
sent_command : (i a : ℕ) → i < 64 → a < 2 ^ 32 → fields_of (command_bits i a) ≡ Ok (as_fields i a true)
unfolding fields_of sealed
sent_command i a hi ha =
    let l : List ℕ = 0 ∷ 1 ∷ bits_of 6 i ++ bits_of 32 a in
    let c : ℕ = crc7_of l in
    let b : Below 2 l = (omega arith, (omega arith, below_append 2 (bits_of 6 i) (bits_of 32 a) (bits_of_below 6 i) (bits_of_below 32 a))) in
    let ec : spelt (bits_of 7 c) ≡ c = spelt_bits_of 7 c ∙ mod-eq_of_lt (crc7_small l b) in
    ap₂ (λ (x y : ℕ). Ok (as_fields x y (eqb (spelt (bits_of 7 c)) c))) (spelt_bits_of 6 i ∙ mod-eq_of_lt hi) (spelt_bits_of 32 a ∙ mod-eq_of_lt ha)
    ∙ ap (λ (right : Bool). Ok (as_fields i a right)) (eq-eqb (spelt (bits_of 7 c)) c ec)

pub read_after_write : (i a : ℕ) → i < 64 → a < 2 ^ 32 → frame_of (command_frame i a) ≡ Ok (as_command i a)
unfolding frame_of framing_of command_frame
read_after_write i a hi ha = ap checked (ap fields_of (command_bits_lem i a) ∙ sent_command i a hi ha)

-- the same of what a call leaves at the front of any output that is long enough
pub read_back : (i a : ℕ) (out : List ℕ) → i < 64 → a < 2 ^ 32 → 6 ≤ length out
    → frame_of (take 6 (laid (indexed i (command_frame i a) out) (command_frame i a) out)) ≡ Ok (as_command i a)
unfolding command_frame
read_back i a out hi ha ho =
    let f : List ℕ = command_frame i a in
    ap (λ (t : Bool). frame_of (take 6 (laid (unless t (Err (by 4)) (fits f out)) f out))) (le-leb i 63 (omega arith))
    ∙ ap frame_of (front f out 6 refl ho)
    ∙ read_after_write i a hi ha

-- ---- what is known of bits that are read as a command
pub record Sent (w : List ℕ) (i a : ℕ) : Type 0 where
  pub start : field w 0 1 ≡ 0
  pub transmission : field w 1 1 ≡ 1
  pub end : field w 47 1 ≡ 1
  pub index : field w 2 6 ≡ i
  pub argument : field w 8 32 ≡ a
  pub crc : field w 40 7 ≡ crc7_of (take 40 w)

sent : (w : List ℕ) (i a : ℕ) → fields_of w ≡ Ok (as_fields i a true) → Sent w i a
unfolding fields_of
sent w i a e =
    let t0 = passed (eqb (field w 0 1) 0) (Err (by 2)) _ (Ok (as_fields i a true)) unrefused e in
    let t1 = passed (eqb (field w 1 1) 1) (Err (by 2)) _ (Ok (as_fields i a true)) unrefused t0.1 in
    let t2 = passed (eqb (field w 47 1) 1) (Err (by 2)) _ (Ok (as_fields i a true)) unrefused t1.1 in
    let last = fields_told t2.1 in
    record {
      start = eqb-true (field w 0 1) 0 t0.0;
      transmission = eqb-true (field w 1 1) 1 t1.0;
      end = eqb-true (field w 47 1) 1 t2.0;
      index = ap (λ (f : Fields). f.index) last;
      argument = ap (λ (f : Fields). f.argument) last;
      crc = eqb-true (field w 40 7) (crc7_of (take 40 w)) (ap (λ (f : Fields). f.crc_right) last);
    }

-- a command that is read came in a frame with the right CRC7
framed_right : (x y : ℕ) (right : Bool) (i a : ℕ) → checked (Ok (as_fields x y right)) ≡ Ok (as_command i a)
    → ◌≡◌ {A = Result Fields Refusal} (Ok (as_fields x y right)) (Ok (as_fields i a true))
framed_right x y true i a e =
    let told = command_told e in
    ap₂ (λ (p q : ℕ). Ok (as_fields p q true)) (ap (λ (c : Command). c.index) told) (ap (λ (c : Command). c.argument) told)
framed_right x y false i a e = clash cc

pub framing : (g : Result Fields Refusal) (i a : ℕ) → checked g ≡ Ok (as_command i a) → g ≡ Ok (as_fields i a true)
framing (Ok fields) i a e = framed_right fields.index fields.argument fields.crc_right i a e
framing (Err r) i a e = clash cc

pub read : (f : List ℕ) (i a : ℕ) → frame_of f ≡ Ok (as_command i a) → (length f ≡ 6) × Sent (bits f) i a
unfolding frame_of framing_of
read f i a e =
    let t = passed (eqb (length f) 6) (Err (by 1)) (fields_of (bits f)) (Ok (as_fields i a true)) unrefused (framing (framing_of f) i a e) in
    (eqb-true (length f) 6 t.0, sent (bits f) i a t.1)

-- ---- any frame that is read is the one that the writer gives
-- bits of which i and a were read, closed by their CRC7 and a 1, are the command's
sent_is : (b0 b1 b2 b3 b4 b5 i a : ℕ) → Sent (bits (b0 ∷ b1 ∷ b2 ∷ b3 ∷ b4 ∷ b5 ∷ [])) i a
    → bits (b0 ∷ b1 ∷ b2 ∷ b3 ∷ b4 ∷ b5 ∷ []) ≡ command_bits i a
unfolding bits sealed
sent_is b0 b1 b2 b3 b4 b5 i a s =
    let w : List ℕ = bits (b0 ∷ b1 ∷ b2 ∷ b3 ∷ b4 ∷ b5 ∷ []) in
    let h : List ℕ = 0 ∷ 1 ∷ bits_of 6 i ++ bits_of 32 a in
    let word : List ℕ = bits (b1 ∷ b2 ∷ b3 ∷ b4 ∷ []) in
    let e0 : b0 / 128 % 2 ≡ 0 = omega (arith, s.start) in
    let e1 : b0 / 64 % 2 ≡ 1 = omega (arith, s.transmission) in
    let e47 : b5 / 1 % 2 ≡ 1 = omega (arith, s.end) in
    let ei : bits_of 6 b0 ≡ bits_of 6 i = sym (bits_of_spelt (bits_of 6 b0) (bits_of_below 6 b0)) ∙ ap (bits_of 6) s.index in
    let ea : word ≡ bits_of 32 a = sym (bits_of_spelt word (bits_below (b1 ∷ b2 ∷ b3 ∷ b4 ∷ []))) ∙ ap (bits_of 32) s.argument in
    let eh : take 40 w ≡ h = λ k. e0 k ∷ e1 k ∷ (ei k ++ ea k) in
    let ec : take 7 (drop 40 w) ≡ bits_of 7 (crc7_of h) =
    sym (bits_of_spelt (take 7 (bits_of 8 b5)) (below_take 2 7 (bits_of 8 b5) (bits_of_below 8 b5))) ∙ ap (bits_of 7) (s.crc ∙ ap crc7_of eh)
    in
    λ k. eh k ++ ec k ++ (e47 k ∷ [])

-- a field of n bits is below 2 ^ n
field_lt : (w : List ℕ) (k n : ℕ) → Below 2 w → k + n ≤ length w → field w k n < 2 ^ n
field_lt w k n b h =
    subst (λ (m : ℕ). field w k n < 2 ^ m) (length-take-le n (drop k w) (rw (length-drop k w) (omega arith)))
    (spelt_lt (take n (drop k w)) (below_take 2 n (drop k w) (below_drop 2 k w b)))

pub write_after_read : (f : List ℕ) → Below 256 f → (i a : ℕ) → frame_of f ≡ Ok (as_command i a) → (i < 64) × (a < 2 ^ 32) × (f ≡ command_frame i a)
unfolding command_frame
write_after_read f b i a e =
    let r = read f i a e in
    let b48 = bits_below f in
    let n48 : length (bits f) ≡ 48 = length_bits f ∙ ap (λ (n : ℕ). n * 8) r.0 in
    let is : bits f ≡ command_bits i a =
    subst⁻¹ (λ (g : List ℕ). Sent (bits g) i a → bits g ≡ command_bits i a) (six_bytes f r.0)
    (sent_is (get_or f 0 0) (get_or f 1 0) (get_or f 2 0) (get_or f 3 0) (get_or f 4 0) (get_or f 5 0) i a) r.1
    in (
      subst (λ (x : ℕ). x < 2 ^ 6) r.1.index (field_lt (bits f) 2 6 b48 (omega arith)),
      subst (λ (x : ℕ). x < 2 ^ 32) r.1.argument (field_lt (bits f) 8 32 b48 (omega arith)),
      sym (octets_bits f b) ∙ ap₂ octets r.0 is,
    )
