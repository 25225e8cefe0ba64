-- What a block carries, seen from its byte 1 and the length of the stored password, as the code looks at it.
--   enough             a block that is long enough has 2 bytes and those that byte 1 tells of
--   carried_length     it carries as many bytes as byte 1 tells
--   whole_with, carried_with    a payload made of a password is long enough and carries it
--   new_length         of which the new password has those behind the old one
--   new_part           where the new password stands in the block
--   presented_cut .. presented_is    the tests of `presented` in their order, each where it decides
--   settable_cut .. settable_is      the same of `settable`
--   presented_parts, settable_parts, settable_two    what is known of a block that passes them
-- Assumes nothing.
use mathlib.Core.Path.{◌≡◌, sym, ap, ap₂, ◌∙◌}
use mathlib.Core.Bool.{true, false}
use mathlib.Core.List.{List, ◌∷◌, ◌++◌}
use Prim.Native.Nat.{ℕ, suc, ◌+◌, ◌-◌, ◌≤◌, ◌<◌}
use native.Mathlib.Omega.{arith}
use borrow.Author.Tests.{leb-true, le-leb, lt-leb}
use lib.Dec.{leb}
use lib.ListN.{length, take, drop, length-append, length-drop}
use lib.Seq.{length-take-le, take-take, take-add, take-append_seam, drop_at, drop-drop}
use Rattle.base.proofs.Cases.{never, passed}
use Rattle.lock.specs.Passwords.{stored, same}
use Rattle.lock.specs.Requests.{password_length, password_in, long_enough, old_of, new_of, settable, presented}
use Rattle.lock.specs.declared.Lock.{Lock}
use Rattle.lock.proofs.Same.{same_equal, same_length}

pub enough : (p : List ℕ) → long_enough p ≡ true → 2 + password_length p ≤ length p
enough p w = leb-true (2 + password_length p) (length p) w

pub carried_length : (p : List ℕ) → long_enough p ≡ true → length (password_in p) ≡ password_length p
unfolding password_in
carried_length p w = length-take-le (password_length p) (drop 2 p) (omega (arith, length-drop 2 p, enough p w))

pub presented_cut : (lock : Lock) (p : List ℕ) → long_enough p ≡ false → presented lock p ≡ false
unfolding presented
presented_cut lock p w = simp w

pub settable_cut : (lock : Lock) (p : List ℕ) → long_enough p ≡ false → settable lock p ≡ false
unfolding settable
settable_cut lock p w = simp w

pub presented_parts : (lock : Lock) (p : List ℕ) → presented lock p ≡ true → (1 ≤ length (stored lock)) × (password_in p ≡ stored lock)
unfolding presented
presented_parts lock p s =
    let t0 = passed (long_enough p) false _ true never s in
    let t1 = passed (leb 1 (length (stored lock))) false _ true never t0.1 in
    (leb-true 1 (length (stored lock)) t1.0, same_equal (password_in p) (stored lock) t1.1)

pub settable_two : (lock : Lock) (p : List ℕ) → settable lock p ≡ true → 2 ≤ length p
unfolding settable
settable_two lock p s = omega (arith, enough p (passed (long_enough p) false _ true never s).0)

-- the payload of a request k with a password, and what may follow it in the block
abbrev pub with_password : ℕ → List ℕ → List ℕ → List ℕ
with_password k bytes more = k ∷ length bytes ∷ bytes ++ more

pub whole_with : (k : ℕ) (bytes more : List ℕ) → long_enough (with_password k bytes more) ≡ true
whole_with k bytes more = le-leb (2 + length bytes) (suc (suc (length (bytes ++ more)))) (omega (arith, length-append bytes more))

pub carried_with : (k : ℕ) (bytes more : List ℕ) → password_in (with_password k bytes more) ≡ bytes
unfolding password_in
carried_with k bytes more = take-append_seam bytes more

-- the stored password has n bytes
module _ (lock : Lock) (p : List ℕ) (n : ℕ) (long : n ≡ length (stored lock)) where
  pub new_length : long_enough p ≡ true → length (new_of lock p) ≡ password_length p - n
  unfolding new_of
  new_length w = length-drop (length (stored lock)) (password_in p) ∙ ap₂ (λ (a b : ℕ). a - b) (carried_length p w) (sym long)

  pub new_part : long_enough p ≡ true → n ≤ password_length p → new_of lock p ≡ take (2 + password_length p - (2 + n)) (drop (2 + n) p)
  unfolding new_of password_in
  new_part w h =
      let e : ℕ = password_length p - n in
      let fits : n ≤ length (drop 2 p) = omega (arith, length-drop 2 p, enough p w) in
      let split : password_length p ≡ n + e = omega arith in
      let rest : e ≡ 2 + password_length p - (2 + n) = omega arith in
      ap₂ (λ (k b : ℕ). drop k (take b (drop 2 p))) (sym long) split
      ∙ ap (drop n) (take-add n e (drop 2 p))
      ∙ drop_at (take n (drop 2 p)) (take e (drop n (drop 2 p))) n (length-take-le n (drop 2 p) fits)
      ∙ ap₂ take rest (drop-drop n 2 p)

  pub presented_none : long_enough p ≡ true → n < 1 → presented lock p ≡ false
  unfolding presented
  presented_none w h = simp (w, ← long, lt-leb 1 n h)

  pub presented_other : long_enough p ≡ true → 1 ≤ n → (password_length p ≡ n → ⊥) → presented lock p ≡ false
  unfolding presented
  presented_other w h ne =
      simp (w, ← long, le-leb 1 n h) (same_length (password_in p) (stored lock) (λ (e : length (password_in p) ≡ length (stored lock)). ne (sym (carried_length p w) ∙ e ∙ sym long)))

  pub presented_is : long_enough p ≡ true → 1 ≤ n → password_length p ≡ n → presented lock p ≡ same (take (length (stored lock)) (drop 2 p)) (stored lock)
  unfolding presented password_in
  presented_is w h e = simp (w, ← long, le-leb 1 n h) (ap (λ (k : ℕ). same (take k (drop 2 p)) (stored lock)) e)

  pub settable_few : long_enough p ≡ true → password_length p < n + 1 → settable lock p ≡ false
  unfolding settable
  settable_few w h = simp (w, new_length w, lt-leb 1 (password_length p - n) (omega arith))

  pub settable_many : long_enough p ≡ true → n + 16 < password_length p → settable lock p ≡ false
  unfolding settable
  settable_many w h = simp (w, new_length w, le-leb 1 (password_length p - n) (omega arith), lt-leb (password_length p - n) 16 (omega arith))

  pub settable_is : long_enough p ≡ true → n + 1 ≤ password_length p → password_length p ≤ n + 16 → settable lock p ≡ same (take (length (stored lock)) (drop 2 p)) (stored lock)
  unfolding settable old_of password_in
  settable_is w lo hi =
      simp (w, new_length w, le-leb 1 (password_length p - n) (omega arith), le-leb (password_length p - n) 16 (omega arith))
      (ap (λ (l : List ℕ). same l (stored lock)) (take-take (length (stored lock)) (password_length p) (drop 2 p) (omega arith)))

  pub settable_parts : settable lock p ≡ true → (long_enough p ≡ true) × (n + 1 ≤ password_length p) × (password_length p ≤ n + 16)
  unfolding settable
  settable_parts s =
      let t0 = passed (long_enough p) false _ true never s in
      let t1 = passed (leb 1 (length (new_of lock p))) false _ true never t0.1 in
      let t2 = passed (leb (length (new_of lock p)) 16) false _ true never t1.1 in
      let lo = leb-true 1 (length (new_of lock p)) t1.0 in
      let hi = leb-true (length (new_of lock p)) 16 t2.0 in
      (t0.0, omega (arith, new_length t0.0), omega (arith, new_length t0.0))

-- the tests by which `lock::presented` and `lock::settable` answer, and what `lock::set_password` knows of a block that passes
pub ruleset presented_tests = (presented_cut, presented_none, presented_other, presented_is)

pub ruleset settable_tests = (settable_cut, settable_few, settable_many, settable_is)

pub ruleset set_laws = (settable_two, settable_parts, enough, new_part)
