-- What the code of a round shows at its steps.
--   cid_read      16 bytes read from a place of 480 are that place's CID
--   written       a command frame written over six bytes is the frame
--   filled_turn, filled_all     one address more, and all of them
-- Assumes nothing.
use mathlib.Core.Path.{◌≡◌, refl, sym, ap, ◌∙◌}
use mathlib.Core.List.{List, [], ◌∷◌, ◌++◌, map, append-nil}
use Prim.Native.Nat.{ℕ, zero, suc, ◌+◌, ◌*◌, ◌%◌, ◌≤◌, ◌<◌}
use native.Mathlib.Numerals.{add-one}
use native.Mathlib.Omega.{arith}
use borrow.Author.Tests.{le-leb}
use lib.ListN.{length, take, drop, get_or, set, replicate}
use lib.Seq.{take_all}
use Rattle.base.specs.Output.{laid}
use Rattle.card_record.specs.declared.Card.{Card}
use Rattle.crc.proofs.Bits.{length_octets}
use Rattle.crc.specs.Bits.{bits_of}
use Rattle.store.specs.Memory.{contents, part_read}
use Rattle.wire.specs.Frames.{command_frame, sealed, indexed}
use Rattle.measured_bus.specs.Rounds.{cid_at}
use Rattle.std.specs.Prelude.{Result, Ok}
use Rattle.base.specs.declared.Refusal.{Refusal}

pub cid_read : (cids : List ℕ) (place : ℕ) → length cids ≡ 480 → part_read (contents cids) (place % 30 * 16) (replicate 16 0) ≡ cid_at cids place
unfolding part_read cid_at
cid_read cids place long = simp (le-leb (place % 30 * 16 + 16) (length cids) (omega arith))

-- a frame is six bytes
six : (index argument : ℕ) → length (command_frame index argument) ≡ 6
unfolding command_frame
six index argument = length_octets 6 (sealed (0 ∷ 1 ∷ bits_of 6 index ++ bits_of 32 argument))

pub written : (index argument : ℕ) (answer : Result ℕ Refusal) (last : List ℕ) → index ≤ 63
    → answer ≡ indexed index (command_frame index argument) (replicate 6 0)
    → last ≡ laid answer (command_frame index argument) (replicate 6 0)
    → last ≡ command_frame index argument
written index argument answer last small e o =
    let frame = command_frame index argument in
    let done : answer ≡ Ok 6 = e ∙ simp (le-leb index 63 small, six) in
    o ∙ ap (λ (r : Result ℕ Refusal). laid r frame (replicate 6 0)) done ∙ simp (six, append-nil)

filled_suc : (f : Card → ℕ) (i : ℕ) (l : List Card) (o : List ℕ) (d : Card) → i < length l → i < length o
    → set (map f (take i l) ++ drop i o) i (f (get_or l i d)) ≡ map f (take (suc i) l) ++ drop (suc i) o
filled_suc f i [] o d h k = absurd (omega arith)
filled_suc f i (a ∷ l) [] d h k = absurd (omega arith)
filled_suc f zero (a ∷ l) (x ∷ o) d h k = refl
filled_suc f (suc i) (a ∷ l) (x ∷ o) d h k = ap (λ (t : List ℕ). f a ∷ t) (filled_suc f i l o d (omega arith) (omega arith))

pub filled_turn : (f : Card → ℕ) (i : ℕ) (l : List Card) (o m : List ℕ) (d : Card) → i < length l → i < length o
    → m ≡ map f (take i l) ++ drop i o → set m i (f (get_or l i d)) ≡ map f (take (i + 1) l) ++ drop (i + 1) o
filled_turn f i l o m d h k e =
    ap (λ (x : List ℕ). set x i (f (get_or l i d))) e ∙ filled_suc f i l o d h k
    ∙ ap (λ (n : ℕ). map f (take n l) ++ drop n o) (sym (add-one i))

pub filled_all : (f : Card → ℕ) (i : ℕ) (l : List Card) (m : List ℕ) → length l ≡ 30 → i ≡ 30
    → m ≡ map f (take i l) ++ drop i (replicate 30 0) → m ≡ map f l
filled_all f i l m long all e =
    e ∙ ap (λ (n : ℕ). map f (take n l) ++ drop n (replicate 30 0)) all ∙ append-nil (map f (take 30 l)) ∙ ap (map f) (take_all 30 l (omega arith))
