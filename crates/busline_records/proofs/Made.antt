-- The card of a record of kind 01, in full.
--   register_right_lem   15 bytes with their last byte are a right register
--   make_done        a card with such a CID is never refused, and this is its record
--   card_of_lem          so is the card of any record
-- Assumes nothing.
use mathlib.Core.Path.{◌≡◌, refl, sym, ap, ◌∙◌}
use mathlib.Core.Bool.{true}
use mathlib.Core.List.{List, [], ◌∷◌, ◌++◌}
use Prim.Native.Nat.{ℕ}
use borrow.Author.Tests.{eq-eqb}
use lib.ListN.{length, take, get_or, replicate}
use lib.Seq.{take_at, get_or-append_seam}
use Rattle.crc.specs.Bits.{bits}
use Rattle.crc.specs.Crc.{divide, remainder}
use Rattle.lock.specs.Passwords.{stored, holding, powered_of, lock_made as lock_made_of}
use Rattle.base.specs.Output.{copied}
use Rattle.base.proofs.Copying.{copied_length}
use Rattle.card_record.specs.Making.{password_made, made_of}
use Rattle.card_record.specs.declared.Made.{Made}
use Rattle.store.specs.Map.{entries_right}
use Rattle.wire.specs.Frames.{crc7_of}
use Rattle.wire.specs.Responses.{last_byte, register_right}
use Rattle.busline_records.specs.Cards.{dock_csd, made_with, card_made, dock_card}
use Rattle.busline_records.specs.Reading.{cid_body, register_of, identifier_of}
use Rattle.std.specs.Prelude.{Ok}

pub register_right_lem : (fifteen : List ℕ) → length fifteen ≡ 15 → register_right (register_of fifteen) ≡ true
unfolding register_right register_of
register_right_lem f n =
    let last : ℕ = last_byte f in
    let all : List ℕ = f ++ (last ∷ []) in
    let t : take 15 all ≡ f = take_at f (last ∷ []) 15 n in
    let g : get_or all 15 0 ≡ last = ap (λ (k : ℕ). get_or all k 0) (sym n) ∙ get_or-append_seam f last [] 0 in
    eq-eqb (get_or all 15 0) (last_byte (take 15 all)) (g ∙ ap last_byte (sym t))

csd_right : register_right dock_csd ≡ true
unfolding register_right last_byte crc7_of remainder divide bits
csd_right = refl

pub make_done : (cid : List ℕ) → register_right cid ≡ true → made_with cid ≡ record { card = dock_card cid; making = Ok tt }
unfolding made_with made_of password_made lock_made_of powered_of stored holding entries_right dock_card
make_done cid right = simp (right, csd_right)

pub card_of_lem : (s : List ℕ) → card_made s ≡ dock_card (identifier_of s)
unfolding card_made
card_of_lem s =
    ap (λ (m : Made). m.card)
    (make_done (identifier_of s)
    (register_right_lem (copied (cid_body s) (replicate 15 0) 0) (copied_length (cid_body s) (replicate 15 0) 0)))
