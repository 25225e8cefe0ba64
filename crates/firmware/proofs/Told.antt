-- The thirteen numbers after a call that tells some of them.
--   link_front, lock_front    those of the link and the mode, or of these and the lock, at the front and the others as they were
--   after_left, after_told    where the call's number leaves the record, and where it does not
--   frame_left                the same of a frame
--   linked, registers_kept    numbers of which the link's and the mode's are told stand for the card with these, and so for the same registers
--   powered                   power-on tells those of the link, the mode and the lock
--   works, rests_told         work done alters the state's in prg and dis, and leaves it in every other state
-- Assumes nothing.
use mathlib.Core.Path.{◌≡◌, sym, ap, ◌∙◌}
use mathlib.Core.Bool.{Bool, true, false}
use mathlib.Core.List.{List, ◌++◌}
use Prim.Native.Nat.{ℕ}
use lib.Dec.{eqb}
use lib.ListN.{drop, get_or, set}
use lib.Seq.{get_or-drop, set-get_or}
use Rattle.base.specs.Choice.{pick}
use Rattle.card_record.specs.Power.{powered_on, worked}
use Rattle.card_record.specs.Record.{with_link, with_lock, with_mode}
use Rattle.card_record.specs.declared.Card.{Card}
use Rattle.card_record.specs.declared.Link.{Link}
use Rattle.card_record.specs.declared.Mode.{Mode}
use Rattle.crossing.proofs.Crossing.{nine, eleven, link_told, link_and_lock_told}
use Rattle.crossing.specs.Record.{link_of, mode_of, lock_of, registers_of, card_of, link_numbers, mode_numbers, lock_numbers}
use Rattle.lock.specs.declared.Lock.{Lock}
use Rattle.firmware.specs.Answers.{leaves_record, numbers_after, frame_numbers, fronted, worked_number}
use Rattle.firmware.proofs.Kept.{powered_password, powered_parts, worked_told}

-- the registers that numbers stand for are the same where the link's and the mode's are told
pub registers_kept : (link : Link) (mode : Mode) (numbers cid csd : List ℕ)
    → registers_of (link_numbers link ++ mode_numbers mode ++ drop 9 numbers) cid csd ≡ registers_of numbers cid csd
unfolding registers_of link_numbers mode_numbers
registers_kept link mode numbers cid csd = simp (get_or-drop 9 numbers 2 0, get_or-drop 9 numbers 3 0)

-- numbers that are told at the front, and the others as they were
pub link_front : (link : Link) (mode : Mode) (numbers : List ℕ)
    → link_numbers link ++ mode_numbers mode ++ drop 9 numbers ≡ fronted (link_numbers link ++ mode_numbers mode) numbers
link_front link mode numbers = ap (λ (n : ℕ). link_numbers link ++ mode_numbers mode ++ drop n numbers) (sym (nine link mode))

pub lock_front : (link : Link) (mode : Mode) (lock : Lock) (numbers : List ℕ)
    → link_numbers link ++ mode_numbers mode ++ lock_numbers lock ++ drop 11 numbers
    ≡ fronted (link_numbers link ++ mode_numbers mode ++ lock_numbers lock) numbers
lock_front link mode lock numbers =
    ap (λ (n : ℕ). link_numbers link ++ mode_numbers mode ++ lock_numbers lock ++ drop n numbers) (sym (eleven link mode lock))

pub after_left : (number : ℕ) (told before : List ℕ) → leaves_record number ≡ true → before ≡ numbers_after number told before
after_left number told before leaves = sym (ap (λ (b : Bool). pick b before (fronted told before)) leaves)

pub after_told : (number : ℕ) (told before : List ℕ) → leaves_record number ≡ false → fronted told before ≡ numbers_after number told before
after_told number told before leaves = sym (ap (λ (b : Bool). pick b before (fronted told before)) leaves)

pub frame_left : (number : ℕ) (next : Card) (before : List ℕ) → leaves_record number ≡ true → before ≡ frame_numbers number next before
frame_left number next before leaves =
    sym (ap (λ (b : Bool).
    pick b before (pick (eqb number 3) (set before 4 next.link.errors.bits) (fronted (link_numbers next.link ++ mode_numbers next.mode) before))) leaves)

module _ (numbers cid csd password : List ℕ) where
  abbrev card : Card
  card = card_of numbers cid csd password

  -- numbers of which the link's and the mode's are told stand for the card with these
  pub linked : (link : Link) (mode : Mode) (after : List ℕ) → after ≡ link_numbers link ++ mode_numbers mode ++ drop 9 numbers
      → (link_of after ≡ link) × (mode_of after ≡ mode)
      → (after ≡ fronted (link_numbers link ++ mode_numbers mode) numbers) × (card_of after cid csd password ≡ with_mode (with_link card link) mode)
  linked link mode after told stands = (
    told ∙ link_front link mode numbers,
    ap (λ (l : List ℕ). card_of l cid csd password) told
        ∙ link_told link mode numbers cid csd password (sym (ap link_of told) ∙ stands.0) (sym (ap mode_of told) ∙ stands.1),
  )

  -- ---- power-on and work done
  pub powered : (next : Card) (after : List ℕ) → next ≡ powered_on card
      → after ≡ link_numbers next.link ++ mode_numbers next.mode ++ lock_numbers next.lock ++ drop 11 numbers
      → (link_of after ≡ next.link) × (mode_of after ≡ next.mode) × (lock_of after next.lock.password ≡ next.lock)
      → (after ≡ fronted (link_numbers (powered_on card).link ++ mode_numbers (powered_on card).mode ++ lock_numbers (powered_on card).lock) numbers)
      × (card_of after cid csd password ≡ powered_on card)
  powered next after same told each =
      let kept : password ≡ next.lock.password = sym (ap (λ (c : Card). c.lock.password) same ∙ powered_password numbers cid csd password) in
      let stands : card_of after cid csd password ≡ with_mode (with_link (with_lock card next.lock) next.link) next.mode =
      ap (card_of after cid csd) kept ∙ ap (λ (l : List ℕ). card_of l cid csd next.lock.password) told
      ∙ link_and_lock_told next.link next.mode next.lock numbers cid csd password (sym (ap link_of told) ∙ each.0)
      (sym (ap mode_of told) ∙ each.1) (sym (ap (λ (l : List ℕ). lock_of l next.lock.password) told) ∙ each.2)
      in (
        told ∙ lock_front next.link next.mode next.lock numbers
            ∙ ap (λ (c : Card). fronted (link_numbers c.link ++ mode_numbers c.mode ++ lock_numbers c.lock) numbers) same,
        stands ∙ ap (λ (c : Card). with_mode (with_link (with_lock card c.lock) c.link) c.mode) same ∙ powered_parts card,
      )

  -- the state's number is this one, where work done looks at it
  pub works : (state : ℕ) → get_or numbers 0 0 ≡ state
      → (set numbers 0 (worked_number state) ≡ set numbers 0 (worked_number (get_or numbers 0 0)))
      × (card_of (set numbers 0 (worked_number state)) cid csd password ≡ worked card)
  works state is =
      let told = ap (λ (n : ℕ). set numbers 0 (worked_number n)) (sym is) in
      (told, ap (λ (l : List ℕ). card_of l cid csd password) told ∙ worked_told numbers cid csd password)

  pub rests_told : eqb (get_or numbers 0 0) 11 ≡ false → eqb (get_or numbers 0 0) 12 ≡ false
      → (numbers ≡ set numbers 0 (worked_number (get_or numbers 0 0))) × (card_of numbers cid csd password ≡ worked card)
  rests_told not_prg not_dis =
      let told : numbers ≡ set numbers 0 (worked_number (get_or numbers 0 0)) = sym (simp (not_prg, not_dis) (set-get_or numbers 0 0)) in
      (told, ap (λ (l : List ℕ). card_of l cid csd password) told ∙ worked_told numbers cid csd password)
