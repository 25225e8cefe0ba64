-- Which requests are granted, requests after one another, power-on, and making a card.
--   shown               a payload that carries the stored password presents it, whatever its byte 0 and whatever follows
--   unlock_granted, clear_granted, lock_granted    so unlock is granted on a locked card, clear and lock on an unlocked one
--   set_granted         on an unlocked card so are set, and set and lock, with the stored password and 1 to 16 new bytes
--   set_then_clear      the password that a granted set stored clears it, and leaves none
--   lock_then_unlock    lock, and then unlock with the same password, give the record back
--   powered_locks       power-on locks exactly if a password is stored
--   powered_keeps       and keeps the password
--   made_stores         a card made with 0 to 16 bytes stores them, and is locked exactly if they are not 0
--   made_refuses        more are refused 11, and nothing is stored
-- Assumes nothing.
use mathlib.Core.Path.{◌≡◌, refl, sym, ap, ◌∙◌}
use mathlib.Core.Bool.{Bool, true, false}
use mathlib.Core.List.{List, ◌∷◌, ◌++◌}
use Prim.Native.Nat.{ℕ, suc, ◌≤◌, ◌<◌}
use native.Mathlib.Omega.{arith}
use borrow.Author.Tests.{leb-true, le-leb, lt-leb}
use lib.Dec.{leb}
use lib.ListN.{length, take, drop}
use lib.Seq.{take-append_seam, drop-append_seam}
use Rattle.base.specs.Refusals.{by}
use Rattle.lock.specs.Passwords.{stored, holding, no_password, flagged, powered_of, lock_made}
use Rattle.lock.specs.Requests.{old_of, new_of, settable, presented, request_of}
use Rattle.lock.specs.declared.Answer.TheVariants.{Granted}
use Rattle.lock.specs.declared.Lock.{Lock}
use Rattle.lock.specs.declared.Requested.{Requested}
use Rattle.lock.proofs.Carried.{with_password, whole_with, carried_with}
use Rattle.lock.proofs.Laws.{set_holds}
use Rattle.lock.proofs.Same.{same_itself}
use Rattle.lock.proofs.Stored.{stored_holding}
use Rattle.std.specs.Prelude.{Ok, Err}

pub shown : (lock : Lock) (k : ℕ) (bytes more : List ℕ) → bytes ≡ stored lock → 1 ≤ length bytes → presented lock (with_password k bytes more) ≡ true
unfolding presented
shown lock k bytes more e h =
    let w = whole_with k bytes more in
    simp (w, carried_with k bytes more, ← e, le-leb 1 (length bytes) h) (same_itself bytes)

-- a granted request, and the record that it leaves
abbrev granted : Lock → Requested
granted next = record { lock = next; answer = Granted }

module _ (lock : Lock) (bytes more : List ℕ) (protected : Bool) (is : bytes ≡ stored lock) (some : 1 ≤ length bytes) where
  long : leb 1 (suc (suc (length (bytes ++ more)))) ≡ true
  long = le-leb 1 (suc (suc (length (bytes ++ more)))) (omega arith)

  pub unlock_granted : lock.locked ≡ true → request_of lock (with_password 0 bytes more) protected ≡ granted (flagged lock false)
  unfolding request_of
  unlock_granted l = simp (long, l, shown lock 0 bytes more is some)

  pub clear_granted : lock.locked ≡ false → request_of lock (with_password 2 bytes more) protected ≡ granted no_password
  unfolding request_of
  clear_granted l = simp (long, l, shown lock 2 bytes more is some)

  pub lock_granted : lock.locked ≡ false → request_of lock (with_password 4 bytes more) protected ≡ granted (flagged lock true)
  unfolding request_of
  lock_granted l = simp (long, l, shown lock 4 bytes more is some)

-- a new password behind the stored one
module _ (lock : Lock) (new more : List ℕ) (protected : Bool) (some : 1 ≤ length new) (few : length new ≤ 16) where
  abbrev total : List ℕ
  total = stored lock ++ new

  new_with : (k : ℕ) → new_of lock (with_password k total more) ≡ new
  unfolding new_of
  new_with k = ap (drop (length (stored lock))) (carried_with k total more) ∙ drop-append_seam (stored lock) new

  old_with : (k : ℕ) → old_of lock (with_password k total more) ≡ stored lock
  unfolding old_of
  old_with k = ap (take (length (stored lock))) (carried_with k total more) ∙ take-append_seam (stored lock) new

  settable_with : (k : ℕ) → settable lock (with_password k total more) ≡ true
  unfolding settable
  settable_with k =
      let w = whole_with k total more in
      simp (w, new_with k, old_with k, le-leb 1 (length new) some, le-leb (length new) 16 few) (same_itself (stored lock))

  pub set_granted : lock.locked ≡ false
      → (request_of lock (with_password 1 total more) protected ≡ granted (holding new false))
      × (request_of lock (with_password 5 total more) protected ≡ granted (holding new true))
  unfolding request_of
  set_granted l =
      let long : leb 1 (suc (suc (length (total ++ more)))) ≡ true = le-leb 1 (suc (suc (length (total ++ more)))) (omega arith) in
      (simp (long, l, settable_with 1, new_with 1), simp (long, l, settable_with 5, new_with 5))

-- ---- after one another
pub set_then_clear : (lock : Lock) (rest more : List ℕ) (first second : Bool) → lock.locked ≡ false → (request_of lock (1 ∷ rest) first).answer ≡ Granted
    → request_of (request_of lock (1 ∷ rest) first).lock (with_password 2 (new_of lock (1 ∷ rest)) more) second ≡ granted no_password
unfolding holding
set_then_clear lock rest more first second l e =
    let new : List ℕ = new_of lock (1 ∷ rest) in
    let g = (set_holds lock rest first).0 e in
    ap (λ (x : Lock). request_of x (with_password 2 new more) second) g.0
    ∙ clear_granted (holding new lock.locked) new more second (sym (stored_holding new lock.locked g.2)) g.1 l

pub lock_then_unlock : (lock : Lock) (more other : List ℕ) (first second : Bool) → lock.locked ≡ false → 1 ≤ length (stored lock)
    → request_of (request_of lock (with_password 4 (stored lock) more) first).lock (with_password 0 (stored lock) other) second ≡ granted lock
unfolding stored
lock_then_unlock lock more other first second l some =
    ap (λ (x : Requested). request_of x.lock (with_password 0 (stored lock) other) second) (lock_granted lock (stored lock) more first refl some l)
    ∙ unlock_granted (flagged lock true) (stored lock) other second refl some refl
    ∙ ap (λ (f : Bool). granted (flagged lock f)) (sym l)

-- ---- power-on and making
pub powered_locks : (lock : Lock) → ((powered_of lock).locked ≡ true → 1 ≤ length (stored lock)) × (1 ≤ length (stored lock) → (powered_of lock).locked ≡ true)
unfolding powered_of
powered_locks lock = (leb-true 1 (length (stored lock)), le-leb 1 (length (stored lock)))

pub powered_keeps : (lock : Lock) → ((powered_of lock).password ≡ lock.password) × ((powered_of lock).length ≡ lock.length)
unfolding powered_of
powered_keeps lock = (refl, refl)

pub made_stores : (bytes : List ℕ) → length bytes ≤ 16
    → (lock : Lock) × ((lock_made bytes ≡ Ok lock) × (stored lock ≡ bytes) × (lock.locked ≡ leb 1 (length bytes)))
unfolding lock_made powered_of stored
made_stores bytes h =
    let s = stored_holding bytes false h in
    (powered_of (holding bytes false), (simp (le-leb (length bytes) 16 h), s, ap (λ (l : List ℕ). leb 1 (length l)) s))

pub made_refuses : (bytes : List ℕ) → 16 < length bytes → lock_made bytes ≡ Err (by 11)
unfolding lock_made
made_refuses bytes h = simp (lt-leb (length bytes) 16 h)
