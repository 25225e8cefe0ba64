-- A password record that is made, and stays made.
--   holding_made    one that holds a password of up to 16 bytes
--   made_made       what making gives, refused or not
--   powered_made    after power-on
--   request_made    after any lock request
-- Assumes nothing.
use mathlib.Core.Path.{◌≡◌, refl, sym, ap, ◌∙◌}
use mathlib.Core.Bool.{Bool, true, false, not}
use mathlib.Core.List.{List, [], ◌++◌}
use Prim.Native.Nat.{ℕ, ◌-◌, ◌≤◌}
use native.Mathlib.Omega.{arith}
use borrow.Author.Tests.{leb-true}
use lib.Dec.{leb}
use lib.ListN.{length, take, replicate, get_or, take-append-drop}
use Rattle.base.proofs.Cases.{guarded, never}
use Rattle.lock.proofs.Carried.{new_length, presented_parts, settable_parts}
use Rattle.lock.proofs.Stored.{stored_length, zeros_behind}
use Rattle.lock.specs.Passwords.{stored, holding, no_password, flagged, powered_of, lock_made}
use Rattle.lock.specs.Requests.{asked_by, new_of, settable, presented, allowed, granted_if, done_of, request_of}
use Rattle.lock.specs.declared.Operation.{Operation}
use Rattle.lock.specs.declared.Operation.TheVariants.{Unlock, Set, Clear, Lock as ToLock, SetAndLock, ForcedErase, Unknown}
use Rattle.lock.specs.declared.Lock.{Lock}
use Rattle.std.specs.Prelude.{Result, IfOk}
use Rattle.base.specs.declared.Refusal.{Refusal}
use Rattle.lock.specs.declared.Requested.{Requested}
use Rattle.made.specs.Made.{MadeLock}

pub holding_made : (bytes : List ℕ) (locked : Bool) → length bytes ≤ 16 → (locked ≡ true → 1 ≤ length bytes) → MadeLock (holding bytes locked)
unfolding holding
holding_made bytes locked h some =
    let all : List ℕ = bytes ++ replicate (16 - length bytes) 0 in
    let behind = zeros_behind bytes locked h in
    record {
      bytes = behind.1;
      short = h;
      zeros = sym (take-append-drop (length bytes) all) ∙ ap (λ (l : List ℕ). take (length bytes) all ++ l) behind.0;
      locked = some;
    }

none_made : MadeLock no_password
none_made = holding_made [] false (omega arith) (λ e. never e)

module _ (lock : Lock) (made : MadeLock lock) where
  -- another flag, set only where a password is stored
  flagged_made : (locked : Bool) → (locked ≡ true → 1 ≤ length (stored lock)) → MadeLock (flagged lock locked)
  flagged_made locked some =
      record {
        bytes = made.bytes;
        short = made.short;
        zeros = made.zeros;
        locked = λ (e : locked ≡ true). omega (arith, some e, stored_length lock made.bytes);
      }

  pub powered_made : MadeLock (powered_of lock)
  unfolding powered_of
  powered_made = flagged_made (leb 1 (length (stored lock))) (leb-true 1 (length (stored lock)))

  -- a granted or failed request
  granted : (test : Bool) (next : Lock) → (test ≡ true → MadeLock next) → MadeLock (granted_if test lock next).lock
  granted test next good = guarded (λ (r : Requested). MadeLock r.lock) test (λ e. made) good

  set_made : (payload : List ℕ) (locked : Bool) → settable lock payload ≡ true → MadeLock (holding (new_of lock payload) locked)
  set_made payload locked t =
      let parts = settable_parts lock payload (length (stored lock)) refl t in
      let long = new_length lock payload (length (stored lock)) refl parts.0 in
      holding_made (new_of lock payload) locked (omega arith) (λ e. omega arith)

  done_made : (asked : Operation) (payload : List ℕ) (protected : Bool) → MadeLock (done_of asked lock payload protected).lock
  done_made Unlock payload protected =
      granted (presented lock payload) (flagged lock false) (λ t. flagged_made false (λ e. (presented_parts lock payload t).0))
  done_made Set payload protected = granted (settable lock payload) _ (set_made payload lock.locked)
  done_made Clear payload protected = granted (presented lock payload) no_password (λ t. none_made)
  done_made ToLock payload protected =
      granted (presented lock payload) (flagged lock true) (λ t. flagged_made true (λ e. (presented_parts lock payload t).0))
  done_made SetAndLock payload protected = granted (settable lock payload) _ (set_made payload true)
  done_made ForcedErase payload protected = guarded (λ (r : Requested). MadeLock r.lock) (not protected) (λ e. made) (λ e. none_made)
  done_made Unknown payload protected = made

  pub request_made : (payload : List ℕ) (protected : Bool) → MadeLock (request_of lock payload protected).lock
  unfolding request_of
  request_made payload protected =
      guarded (λ (r : Requested). MadeLock r.lock) (leb 1 (length payload)) (λ e. made)
      (λ e.
      guarded (λ (r : Requested). MadeLock r.lock) (allowed (get_or payload 0 0) lock.locked) (λ e. made)
      (λ e. done_made (asked_by (get_or payload 0 0)) payload protected))

pub made_made : (password : List ℕ) → IfOk (lock_made password) MadeLock
unfolding lock_made
made_made password =
    guarded (λ (made : Result Lock Refusal). IfOk made MadeLock) (leb (length password) 16) (λ e. tt)
    (λ e. powered_made (holding password false) (holding_made password false (leb-true (length password) 16 e) (λ e. never e)))
