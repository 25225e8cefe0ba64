-- Laws of the lock requests, for any record, any bytes behind byte 0 and any protection.
--   failed_keeps       a failed request changes nothing
--   empty_fails        a payload of 0 bytes fails
--   others_fail        so does a byte 0 that is not listed
--   locked_only        a locked card grants only 0 and 8
--   unlocked_never     an unlocked one never grants 0 or 8
--   short_fails        a block too short for byte 1 or for the length it gives fails, but for 8: byte 0 alone is enough for nothing else
--   erased             8 needs byte 0 only, and no byte behind it is read
--   erase_protected    it fails on a protected card
--   wrong_fails        clear, lock and unlock fail without the stored password, byte for byte
--   prefix_fails       so a shorter or a longer one fails
--   none_fails         and they fail where no password is stored
--   old_needed         set fails without the old password, on an unlocked card too
--   few_fails, many_fail    a total that leaves a new password of 0 bytes, or of over 16
--   set_holds          a granted set leaves a record of the new password, which has 1 to 16 bytes
--   set_stores         after a granted set the new password is stored; set and lock locks at once, set leaves the flag
--   surplus_ignored    bytes behind those that byte 1 tells of do not count
-- Assumes nothing.
use mathlib.Core.Path.{◌≡◌, refl, sym, ap, ap₂, ◌∙◌}
use mathlib.Core.Bool.{Bool, true, false, not}
use mathlib.Core.List.{List, [], ◌∷◌, ◌++◌}
use Prim.Native.Nat.{ℕ, suc, ◌+◌, ◌≤◌, ◌<◌}
use native.Mathlib.Omega.{arith}
use borrow.Author.Tests.{le-leb, ne_eqb}
use lib.Dec.{eqb, leb}
use lib.ListN.{length, take, drop, get_or}
use Rattle.base.specs.Choice.{unless}
use Rattle.base.proofs.Cases.{cases, picked, guarded, clash}
use Rattle.lock.specs.Passwords.{stored, same, holding, no_password, flagged}
use Rattle.lock.specs.Requests.{asked_by, password_length, password_in, long_enough, old_of, new_of, settable, presented, allowed, request_failed, granted_if, done_of, request_of}
use Rattle.lock.specs.declared.Answer.TheVariants.{Granted, Erased, Failed}
use Rattle.lock.specs.declared.Operation.{Operation}
use Rattle.lock.specs.declared.Operation.TheVariants.{Unlock, Set, Clear, Lock as ToLock, SetAndLock, ForcedErase, Unknown}
use Rattle.lock.specs.declared.Lock.{Lock}
use Rattle.lock.specs.declared.Requested.{Requested}
use Rattle.lock.proofs.Carried.{with_password, whole_with, carried_with, presented_cut, settable_cut, settable_few, settable_many, settable_parts, new_length}
use Rattle.lock.proofs.Same.{same_differ}
use Rattle.lock.proofs.Stored.{stored_holding}

-- a payload that begins with the byte k fails
abbrev pub Fails : Lock → List ℕ → Bool → ℕ → Type 0
Fails lock rest protected k = request_of lock (k ∷ rest) protected ≡ request_failed lock

-- ---- what a failed request leaves
module _ (lock : Lock) where
  abbrev Kept : Requested → Type 0
  Kept r = r.answer ≡ Failed → r.lock ≡ lock

  kept_unless : (t : Bool) (rest : Requested) → Kept rest → Kept (unless t (request_failed lock) rest)
  kept_unless t rest k = guarded Kept t (λ f e. refl) (λ h. k)

  kept_granted : (next : Lock) → Kept (record { lock = next; answer = Granted })
  kept_granted next e = clash cc

  kept_erased : (next : Lock) → Kept (record { lock = next; answer = Erased })
  kept_erased next e = clash cc

  kept_done : (asked : Operation) (payload : List ℕ) (protected : Bool) → Kept (done_of asked lock payload protected)
  kept_done Unlock p b = kept_unless (presented lock p) _ (kept_granted (flagged lock false))
  kept_done Set p b = kept_unless (settable lock p) _ (kept_granted (holding (new_of lock p) lock.locked))
  kept_done Clear p b = kept_unless (presented lock p) _ (kept_granted no_password)
  kept_done ToLock p b = kept_unless (presented lock p) _ (kept_granted (flagged lock true))
  kept_done SetAndLock p b = kept_unless (settable lock p) _ (kept_granted (holding (new_of lock p) true))
  kept_done ForcedErase p b = kept_unless (not b) _ (kept_erased no_password)
  kept_done Unknown p b = λ (e : Failed ≡ Failed). refl

  pub failed_keeps : (payload : List ℕ) (protected : Bool) → (request_of lock payload protected).answer ≡ Failed → (request_of lock payload protected).lock ≡ lock
  unfolding request_of
  failed_keeps p b =
      kept_unless (leb 1 (length p)) _ (kept_unless (allowed (get_or p 0 0) lock.locked) _ (kept_done (asked_by (get_or p 0 0)) p b))

  pub empty_fails : (protected : Bool) → request_of lock [] protected ≡ request_failed lock
  unfolding request_of
  empty_fails b = refl

-- ---- which requests fail
always : {A : Type 0} (t : Bool) (x : A) → unless t x x ≡ x
always true x = refl
always false x = refl

module _ (lock : Lock) (rest : List ℕ) (protected : Bool) where
  -- a payload of a byte 0 at least: the flag decides, and then the request
  begun : (k : ℕ) → request_of lock (k ∷ rest) protected ≡ unless (allowed k lock.locked) (request_failed lock) (done_of (asked_by k) lock (k ∷ rest) protected)
  unfolding request_of
  begun k = simp (le-leb 1 (suc (length rest)) (omega arith))

  -- a request that fails whatever the flag
  done_fails : (k : ℕ) → done_of (asked_by k) lock (k ∷ rest) protected ≡ request_failed lock → Fails lock rest protected k
  done_fails k e = begun k ∙ ap (unless (allowed k lock.locked) (request_failed lock)) e ∙ always (allowed k lock.locked) (request_failed lock)

  pub others_fail : (k : ℕ) → (k ≡ 0 → ⊥) → (k ≡ 1 → ⊥) → (k ≡ 2 → ⊥) → (k ≡ 4 → ⊥) → (k ≡ 5 → ⊥) → (k ≡ 8 → ⊥) → Fails lock rest protected k
  others_fail k n0 n1 n2 n4 n5 n8 =
      done_fails k (simp (ne_eqb k 0 n0, ne_eqb k 1 n1, ne_eqb k 2 n2, ne_eqb k 4 n4, ne_eqb k 5 n5, ne_eqb k 8 n8))

  pub locked_only : lock.locked ≡ true → (k : ℕ) → (k ≡ 0 → ⊥) → (k ≡ 8 → ⊥) → Fails lock rest protected k
  locked_only l k n0 n8 = begun k ∙ simp (l, ne_eqb k 0 n0, ne_eqb k 8 n8)

  pub unlocked_never : lock.locked ≡ false → Fails lock rest protected 0 × Fails lock rest protected 8
  unlocked_never l = (begun 0 ∙ simp l, begun 8 ∙ simp l)

  pub erased : lock.locked ≡ true → request_of lock (8 ∷ rest) false ≡ record { lock = no_password; answer = Erased }
  unfolding request_of
  erased l = simp (le-leb 1 (suc (length rest)) (omega arith), l)

  pub erase_protected : protected ≡ true → Fails lock rest protected 8
  erase_protected p = done_fails 8 (simp p)

  -- the requests for the stored password, and those that set one
  unpresented : ((k : ℕ) → presented lock (k ∷ rest) ≡ false) → Fails lock rest protected 0 × Fails lock rest protected 2 × Fails lock rest protected 4
  unpresented e = (done_fails 0 (simp (e 0)), done_fails 2 (simp (e 2)), done_fails 4 (simp (e 4)))

  unsettable : ((k : ℕ) → settable lock (k ∷ rest) ≡ false) → Fails lock rest protected 1 × Fails lock rest protected 5
  unsettable e = (done_fails 1 (simp (e 1)), done_fails 5 (simp (e 5)))

  -- what a payload carries does not depend on its byte 0, so it is named at one
  pub wrong_fails : (password_in (0 ∷ rest) ≡ stored lock → ⊥) → Fails lock rest protected 0 × Fails lock rest protected 2 × Fails lock rest protected 4
  unfolding presented password_in
  wrong_fails ne =
      let e : same (password_in (0 ∷ rest)) (stored lock) ≡ false = same_differ (password_in (0 ∷ rest)) (stored lock) ne in
      unpresented (λ (k : ℕ).
      ap (λ (t : Bool). unless (long_enough (k ∷ rest)) false (unless (leb 1 (length (stored lock))) false t)) e
      ∙ ap (unless (long_enough (k ∷ rest)) false) (always (leb 1 (length (stored lock))) false)
      ∙ always (long_enough (k ∷ rest)) false)

  pub prefix_fails : (length (password_in (0 ∷ rest)) ≡ length (stored lock) → ⊥) → Fails lock rest protected 0 × Fails lock rest protected 2 × Fails lock rest protected 4
  prefix_fails ne = wrong_fails (λ (e : password_in (0 ∷ rest) ≡ stored lock). ne (ap length e))

  pub none_fails : length (stored lock) ≡ 0 → Fails lock rest protected 0 × Fails lock rest protected 2 × Fails lock rest protected 4
  unfolding presented
  none_fails e = unpresented (λ (k : ℕ). simp e (always (long_enough (k ∷ rest)) false))

  pub old_needed : (old_of lock (0 ∷ rest) ≡ stored lock → ⊥) → Fails lock rest protected 1 × Fails lock rest protected 5
  unfolding settable old_of new_of password_in
  old_needed ne =
      let e : same (old_of lock (0 ∷ rest)) (stored lock) ≡ false = same_differ (old_of lock (0 ∷ rest)) (stored lock) ne in
      let new : List ℕ = new_of lock (0 ∷ rest) in
      unsettable (λ (k : ℕ).
      ap (λ (t : Bool). unless (long_enough (k ∷ rest)) false (unless (leb 1 (length new)) false (unless (leb (length new) 16) false t))) e
      ∙ ap (λ (t : Bool). unless (long_enough (k ∷ rest)) false (unless (leb 1 (length new)) false t)) (always (leb (length new) 16) false)
      ∙ ap (unless (long_enough (k ∷ rest)) false) (always (leb 1 (length new)) false)
      ∙ always (long_enough (k ∷ rest)) false)

  -- a set of which blocks that are long enough fail fails
  whole_or_not : ((k : ℕ) → long_enough (k ∷ rest) ≡ true → settable lock (k ∷ rest) ≡ false) → Fails lock rest protected 1 × Fails lock rest protected 5
  whole_or_not f = unsettable (λ (k : ℕ). cases (long_enough (k ∷ rest)) (f k) (settable_cut lock (k ∷ rest)))

  pub few_fails : password_length (0 ∷ rest) < length (stored lock) + 1 → Fails lock rest protected 1 × Fails lock rest protected 5
  few_fails h = whole_or_not (λ (k : ℕ) (w : long_enough (k ∷ rest) ≡ true). settable_few lock (k ∷ rest) (length (stored lock)) refl w h)

  pub many_fail : length (stored lock) + 16 < password_length (0 ∷ rest) → Fails lock rest protected 1 × Fails lock rest protected 5
  many_fail h = whole_or_not (λ (k : ℕ) (w : long_enough (k ∷ rest) ≡ true). settable_many lock (k ∷ rest) (length (stored lock)) refl w h)

  pub short_fails : (k : ℕ) → (k ≡ 8 → ⊥) → long_enough (k ∷ rest) ≡ false → Fails lock rest protected k
  short_fails k n8 w =
      let P : Operation → Type 0 = λ (a : Operation). done_of a lock (k ∷ rest) protected ≡ request_failed lock in
      let by_password = presented_cut lock (k ∷ rest) w in
      let by_set = settable_cut lock (k ∷ rest) w in
      done_fails k (
      picked P (eqb k 0) (λ t. simp by_password)
      (λ t. picked P (eqb k 1) (λ t. simp by_set)
      (λ t. picked P (eqb k 2) (λ t. simp by_password)
      (λ t. picked P (eqb k 4) (λ t. simp by_password)
      (λ t. picked P (eqb k 5) (λ t. simp by_set)
      (λ t. simp (ne_eqb k 8 n8)))))))

-- ---- what a granted set leaves
granted_next : (t u : Bool) (lock next : Lock) → (unless t (request_failed lock) (granted_if u lock next)).answer ≡ Granted
    → (u ≡ true) × ((unless t (request_failed lock) (granted_if u lock next)).lock ≡ next)
granted_next true true lock next e = (refl, refl)
granted_next true false lock next e = clash cc
granted_next false u lock next e = clash cc

-- a granted request that begins with the byte k leaves a record of the new password, which has 1 to 16 bytes, and the flag
abbrev pub Holds : Lock → List ℕ → Bool → ℕ → Bool → Type 0
Holds lock rest protected k locked =
    (request_of lock (k ∷ rest) protected).answer ≡ Granted
    → ((request_of lock (k ∷ rest) protected).lock ≡ holding (new_of lock (k ∷ rest)) locked) × (1 ≤ length (new_of lock (k ∷ rest))) × (length (new_of lock (k ∷ rest)) ≤ 16)

abbrev pub Stores : Lock → List ℕ → Bool → ℕ → Bool → Type 0
Stores lock rest protected k locked =
    (request_of lock (k ∷ rest) protected).answer ≡ Granted
    → (stored (request_of lock (k ∷ rest) protected).lock ≡ new_of lock (k ∷ rest)) × ((request_of lock (k ∷ rest) protected).lock.locked ≡ locked)

module _ (lock : Lock) (rest : List ℕ) (protected : Bool) where
  holds : (k : ℕ) (locked : Bool) → done_of (asked_by k) lock (k ∷ rest) protected ≡ granted_if (settable lock (k ∷ rest)) lock (holding (new_of lock (k ∷ rest)) locked)
      → Holds lock rest protected k locked
  holds k locked is e =
      let p : List ℕ = k ∷ rest in
      let r : request_of lock p protected ≡ unless (allowed k lock.locked) (request_failed lock) (granted_if (settable lock p) lock (holding (new_of lock p) locked)) =
      begun lock rest protected k ∙ ap (unless (allowed k lock.locked) (request_failed lock)) is
      in
      let g = granted_next (allowed k lock.locked) (settable lock p) lock (holding (new_of lock p) locked) (sym (ap (λ (x : Requested). x.answer) r) ∙ e) in
      let s = settable_parts lock p (length (stored lock)) refl g.0 in
      let n = new_length lock p (length (stored lock)) refl s.0 in
      (ap (λ (x : Requested). x.lock) r ∙ g.1, omega arith, omega arith)

  stores : (k : ℕ) (locked : Bool) → Holds lock rest protected k locked → Stores lock rest protected k locked
  unfolding holding
  stores k locked h e =
      let g = h e in
      (ap stored g.0 ∙ stored_holding (new_of lock (k ∷ rest)) locked g.2, ap (λ (x : Lock). x.locked) g.0)

  pub set_holds : Holds lock rest protected 1 lock.locked × Holds lock rest protected 5 true
  set_holds = (holds 1 lock.locked refl, holds 5 true refl)

  pub set_stores : Stores lock rest protected 1 lock.locked × Stores lock rest protected 5 true
  set_stores = (stores 1 lock.locked (holds 1 lock.locked refl), stores 5 true (holds 5 true refl))

-- ---- what of a payload counts
module _ (lock : Lock) (protected : Bool) where
  counts : (asked : Operation) (p q : List ℕ) → presented lock p ≡ presented lock q → settable lock p ≡ settable lock q → new_of lock p ≡ new_of lock q
      → done_of asked lock p protected ≡ done_of asked lock q protected
  counts Unlock p q ep es en = simp ep
  counts Set p q ep es en = simp (es, en)
  counts Clear p q ep es en = simp ep
  counts ToLock p q ep es en = simp ep
  counts SetAndLock p q ep es en = simp (es, en)
  counts ForcedErase p q ep es en = refl
  counts Unknown p q ep es en = refl

  pub surplus_ignored : (k : ℕ) (bytes more other : List ℕ) → request_of lock (with_password k bytes more) protected ≡ request_of lock (with_password k bytes other) protected
  unfolding presented settable old_of new_of
  surplus_ignored k bytes more other =
      let p : List ℕ = with_password k bytes more in
      let q : List ℕ = with_password k bytes other in
      let n : ℕ = length (stored lock) in
      let ew : long_enough p ≡ long_enough q = whole_with k bytes more ∙ sym (whole_with k bytes other) in
      let ec : password_in p ≡ password_in q = carried_with k bytes more ∙ sym (carried_with k bytes other) in
      let ep : presented lock p ≡ presented lock q =
      ap₂ (λ (w : Bool) (c : List ℕ). unless w false (unless (leb 1 n) false (same c (stored lock)))) ew ec
      in
      let es : settable lock p ≡ settable lock q =
      ap₂ (λ (w : Bool) (c : List ℕ). unless w false (unless (leb 1 (length (drop n c))) false (unless (leb (length (drop n c)) 16) false (same (take n c) (stored lock))))) ew ec
      in
      begun lock (length bytes ∷ bytes ++ more) protected k
      ∙ ap (unless (allowed k lock.locked) (request_failed lock)) (counts (asked_by k) p q ep es (ap (drop n) ec))
      ∙ sym (begun lock (length bytes ∷ bytes ++ other) protected k)
