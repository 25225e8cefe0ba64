-- What a card leaves of what it was lent, it can be lent again: "The map has one byte per protection group, 0 or 1".
--   step_lent_lem          what is lent rightly to a card (`RightlyLent`) is so after any call
--   run_lent           and after any list of calls
--   made_stays_lent    so is what a card was made with
--   two_unright        a CMD28 that wrote 2 would not leave it so
-- Assumes nothing.
use mathlib.Core.Path.{◌≡◌, refl, sym, ap, ◌∙◌}
use mathlib.Core.Bool.{Bool, true, false, not, ◌&&◌}
use mathlib.Core.List.{List, [], ◌∷◌}
use Prim.Native.Nat.{ℕ, zero, suc, ◌/◌, ◌≤◌}
use native.Mathlib.Omega.{arith}
use borrow.Author.Tests.{leb-true, le-leb, eqb-true}
use lib.Dec.{eqb, leb}
use lib.ListN.{length, get_or, set, replicate, length-set}
use Rattle.base.proofs.Cases.{guarded, clash, first, last}
use Rattle.base.specs.Choice.{pick}
use Rattle.base.specs.Refusals.{by}
use Rattle.base.specs.declared.Refusal.{Refusal}
use Rattle.card_blocks.specs.BlockIn.{stored_by, block_judged}
use Rattle.card_blocks.specs.Framing.{unstarted}
use Rattle.card.specs.Frame.{frame_judged, changed_by}
use Rattle.card.specs.Step.{lent_after}
use Rattle.card.specs.declared.Call.{Call}
use Rattle.card.specs.declared.Call.TheVariants.{Frame, BlockIn, BlockOut, WorkDone, PowerOn}
use Rattle.card_blocks.specs.declared.Storing.{Storing}
use Rattle.card_blocks.specs.declared.Storing.TheVariants.{Nothing as Unstored, Sector, All}
use Rattle.command.specs.declared.Change.{Change}
use Rattle.command.specs.declared.Change.TheVariants.{Nothing, Protect, Erase}
use Rattle.lock.specs.Passwords.{lock_made as lock_made_of}
use Rattle.lock.specs.declared.Lock.{Lock}
use Rattle.moves.specs.Rows.{window}
use Rattle.card_record.specs.Making.{failed_make, locked_by, password_made, made_of}
use Rattle.card_record.specs.declared.Card.{Card}
use Rattle.card_record.specs.declared.Made.{Made as MadeOf}
use Rattle.card_record.specs.declared.Registers.{Registers}
use Rattle.store.proofs.OnceLent.{right_parts, parts_right}
use Rattle.store.specs.Lent.{Lent, Seen, seen_of, seen, lending_of}
use Rattle.store.specs.Map.{entries_right, map_right, group_set}
use Rattle.store.specs.Memory.{size_allowed}
use Rattle.wire.specs.Responses.{register_right}
use Rattle.made.proofs.Kept.{registers_kept}
use Rattle.made.proofs.Run.{lent_lengths}
use Rattle.made.proofs.Stays.{whole_groups}
use Rattle.made.specs.Run.{World, Input, next, run_of, made_lent, begun}
use Rattle.std.specs.Prelude.{Result, Ok, Err}

-- ---- the entries of a map
set_small : (l : List ℕ) (i j v : ℕ) → v ≤ 1 → get_or l j 0 ≤ 1 → get_or (set l i v) j 0 ≤ 1
set_small [] zero j v h k = k
set_small [] (suc i) j v h k = k
set_small (x ∷ l) zero zero v h k = h
set_small (x ∷ l) zero (suc j) v h k = k
set_small (x ∷ l) (suc i) zero v h k = k
set_small (x ∷ l) (suc i) (suc j) v h k = set_small l i j v h k

entries_set : (map : List ℕ) (group v n : ℕ) → v ≤ 1 → entries_right map n ≡ true → entries_right (set map group v) n ≡ true
unfolding entries_right
entries_set map group v zero h e = refl
entries_set map group v (suc n) h e =
    let small = leb-true (get_or map n 0) 1 (first (leb (get_or map n 0) 1) (entries_right map n) e) in
    ap (λ (t : Bool). t && entries_right (set map group v) n) (le-leb (get_or (set map group v) n 0) 1 (set_small map group n v h small))
    ∙ entries_set map group v n h (last (leb (get_or map n 0) 1) (entries_right map n) e)

zeros : (m n : ℕ) → ◌≡◌ {A = ℕ} (get_or (replicate m 0) n 0) 0
zeros zero n = refl
zeros (suc m) zero = refl
zeros (suc m) (suc n) = zeros m n

entries_clear : (m n : ℕ) → entries_right (replicate m 0) n ≡ true
unfolding entries_right
entries_clear m zero = refl
entries_clear m (suc n) = ap (λ (k : ℕ). leb k 1 && entries_right (replicate m 0) n) (zeros m n) ∙ entries_clear m n

-- all entries of a map
abbrev Entries : List ℕ → Type 0
Entries map = entries_right map (length map) ≡ true

bit_small : (on : Bool) → pick on 1 0 ≤ 1
bit_small true = omega arith
bit_small false = omega arith

changed_entries : (card : Card) (change : Change) (lent : Lent) → Entries lent.map → Entries (changed_by card change lent).map
changed_entries card Nothing lent e = e
changed_entries card (Protect group on) lent e =
    ap (entries_right (group_set lent.map group on)) (length-set lent.map group (pick on 1 0))
    ∙ entries_set lent.map group (pick on 1 0) (length lent.map) (bit_small on) e
changed_entries card Erase lent e = e

stored_entries : (block : List ℕ) (storing : Storing) (lent : Lent) → Entries lent.map → Entries (stored_by block storing lent).map
stored_entries block Unstored lent e = e
stored_entries block (Sector sector) lent e = e
stored_entries block All lent e = entries_clear (length lent.map) (length (replicate (length lent.map) 0))

lent_entries : (card : Card) (call : Call) (input : List ℕ) (lent : Lent) → Entries lent.map → Entries (lent_after card call input lent).map
lent_entries card (Frame wins selected) input lent e = changed_entries card (frame_judged card wins selected input (seen lent)).change lent e
lent_entries card BlockIn input lent e = stored_entries (unstarted card.mode.spi input) (block_judged card input (seen lent)).storing lent e
lent_entries card BlockOut input lent e = e
lent_entries card WorkDone input lent e = e
lent_entries card PowerOn input lent e = e

-- ---- what is lent
-- it is right for the card
abbrev pub RightlyLent : World → Type 0
RightlyLent world = lending_of (seen world.lent) world.card.registers.groups ≡ Ok tt

pub step_lent_lem : (world : World) (input : Input) → RightlyLent world → RightlyLent (next world input)
unfolding next
step_lent_lem world input right =
    let groups : ℕ = world.card.registers.groups in
    let after : Lent = lent_after world.card input.call input.bytes world.lent in
    let parts = right_parts (seen world.lent) groups right in
    let same = lent_lengths world.card input.call input.bytes world.lent in
    ap (λ (r : Registers). lending_of (seen after) r.groups)
    (registers_kept world.card input.call input.bytes (seen world.lent) (length input.output))
    ∙ parts_right (seen after) groups (same.memory ∙ parts.0) (same.map ∙ parts.1.0)
    (lent_entries world.card input.call input.bytes world.lent parts.1.1)

pub run_lent : (world : World) (inputs : List Input) → RightlyLent world → RightlyLent (run_of world inputs)
unfolding run_of
run_lent world [] right = right
run_lent world (input ∷ inputs) right = run_lent (next world input) inputs (step_lent_lem world input right)

-- ---- making
-- what making was lent is right for the card that it made
module _ (seen : Seen) where
  abbrev Lends : MadeOf → Type 0
  Lends made = made.making ≡ Ok tt → lending_of seen made.card.registers.groups ≡ Ok tt

  password_lent : (registers : Registers) (made : Result Lock Refusal) → lending_of seen registers.groups ≡ Ok tt → Lends (locked_by registers made)
  password_lent registers (Ok lock) right e = right
  password_lent registers (Err refusal) right e = clash cc

  refused_lent : (refusal : Refusal) → Lends (failed_make refusal)
  refused_lent refusal e = clash cc

  make_lent : (cid csd : List ℕ) (ocr : ℕ) (password : List ℕ) → Lends (made_of cid csd ocr password seen.bytes seen.map)
  unfolding made_of password_made
  make_lent cid csd ocr password =
      guarded Lends (size_allowed seen.bytes) (λ e. refused_lent (by 7))
      (λ allowed.
      guarded Lends (map_right seen.map (seen.bytes / 8192)) (λ e. refused_lent (by 8))
      (λ right.
      guarded Lends (register_right cid) (λ e. refused_lent (by 9))
      (λ c.
      guarded Lends (register_right csd) (λ e. refused_lent (by 9))
      (λ d.
      guarded Lends (not (eqb (window ocr) 0)) (λ e. refused_lent (by 10))
      (λ o.
      password_lent (record { cid = cid; csd = csd; ocr = ocr; groups = seen.bytes / 8192 }) (lock_made_of password)
      (parts_right seen (seen.bytes / 8192) (sym (whole_groups seen.bytes allowed))
      (eqb-true (length seen.map) (seen.bytes / 8192) (first (eqb (length seen.map) (seen.bytes / 8192)) (entries_right seen.map (length seen.map)) right))
      (last (eqb (length seen.map) (seen.bytes / 8192)) (entries_right seen.map (length seen.map)) right)))))))

pub made_stays_lent : (cid csd : List ℕ) (ocr : ℕ) (password : List ℕ) (lent : Lent) (inputs : List Input)
    → (made_lent cid csd ocr password lent).making ≡ Ok tt → RightlyLent (run_of (begun cid csd ocr password lent) inputs)
made_stays_lent cid csd ocr password lent inputs e =
    run_lent (begun cid csd ocr password lent) inputs (make_lent (seen lent) cid csd ocr password e)

-- ---- a wrong answer: a map whose set groups hold another number
abbrev group_set_to : ℕ → List ℕ → ℕ → Bool → List ℕ
group_set_to entry map group on = set map group (pick on entry 0)

two_unright : ((map : List ℕ) (group : ℕ) (on : Bool) → lending_of (seen_of 8192 map) 1 ≡ Ok tt → lending_of (seen_of 8192 (group_set_to 2 map group on)) 1 ≡ Ok tt) → ⊥
unfolding entries_right
two_unright keeps = let right = keeps (0 ∷ []) 0 true refl in clash cc
