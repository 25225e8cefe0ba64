-- Laws of the stored password.
--   stored_length   it has as many bytes as the record's length says, and 16 where that says more
--   stored_first    it is the first bytes of the record's 16
--   stored_holding  a record made to hold a password stores that password
--   zeros_behind    and has zeros behind it, 16 bytes in all
-- Assumes nothing.
use mathlib.Core.Path.{◌≡◌, sym, ap, ◌∙◌}
use mathlib.Core.Bool.{Bool}
use mathlib.Core.List.{List, ◌++◌}
use Prim.Native.Nat.{ℕ, ◌-◌, ◌≤◌, min}
use native.Mathlib.Nat.{min-eq_left}
use native.Mathlib.Omega.{arith}
use lib.ListN.{length, take, drop, replicate, length-append, length-replicate, length-take}
use lib.Seq.{take-append_seam, drop-append_seam}
use Rattle.lock.specs.Passwords.{stored, holding}
use Rattle.lock.specs.declared.Lock.{Lock}

pub stored_length : (lock : Lock) → length lock.password ≡ 16 → length (stored lock) ≡ min lock.length 16
unfolding stored
stored_length lock h = length-take (min lock.length 16) lock.password ∙ omega arith

pub stored_first : (lock : Lock) → length lock.password ≡ 16 → stored lock ≡ take (length (stored lock)) lock.password
unfolding stored
stored_first lock h = ap (λ (n : ℕ). take n lock.password) (sym (stored_length lock h))

pub stored_holding : (bytes : List ℕ) (locked : Bool) → length bytes ≤ 16 → stored (holding bytes locked) ≡ bytes
unfolding stored holding
stored_holding bytes locked h =
    let zeros : List ℕ = replicate (16 - length bytes) 0 in
    ap (λ (n : ℕ). take n (bytes ++ zeros)) (min-eq_left h) ∙ take-append_seam bytes zeros

pub zeros_behind : (bytes : List ℕ) (locked : Bool) → length bytes ≤ 16
    → (drop (length bytes) (holding bytes locked).password ≡ replicate (16 - length bytes) 0) × (length (holding bytes locked).password ≡ 16)
unfolding holding
zeros_behind bytes locked h =
    let zeros : List ℕ = replicate (16 - length bytes) 0 in
    (drop-append_seam bytes zeros, omega (arith, length-append bytes zeros, length-replicate {A = ℕ} (16 - length bytes) 0))
