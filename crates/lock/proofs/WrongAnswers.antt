-- Wrong answers that the promises rule out, each refuted at a sample that antt computes: a call's answer is the definition, so a call
-- that gave the wrong answer would make the two equal. (Others are tried as must-fail edits or refuted by Laws and Sequences.)
--   none_locked          no password, and locked
--   none_long            no password, and a length
--   powered_unlocks      power-on that unlocks a card with a password
--   made_unlocked        a card made with a password, and unlocked
--   prefix_unlocks       unlock with the first byte of two
--   longer_unlocks       unlock with a byte behind the password
--   set_without_old      set without the old password
--   erase_unlocked       forced erase on an unlocked card
--   new_of_17            set of 17 new bytes
--   surplus_refused      clear that fails for a byte behind the password
--   six_locks            byte 0 = 6
--   cleared_leaves_bytes clear that leaves the password's bytes behind its length of 0
-- Assumes nothing.
use mathlib.Core.Path.{◌≡◌, refl, sym, ap}
use mathlib.Core.Bool.{true, false}
use mathlib.Core.List.{List, [], ◌∷◌}
use Prim.Native.Nat.{ℕ}
use native.Mathlib.Omega.{arith}
use lib.ListN.{get_or, replicate}
use Rattle.base.proofs.Cases.{clash, never}
use Rattle.lock.specs.Passwords.{stored, same, holding, no_password, powered_of, lock_made}
use Rattle.lock.specs.Requests.{password_in, old_of, new_of, settable, presented, request_of}
use Rattle.lock.specs.declared.Answer.TheVariants.{Granted, Erased, Failed}
use Rattle.lock.specs.declared.Lock.{Lock}
use Rattle.std.specs.Prelude.{Ok}

-- a card with the password 7, 9
abbrev unlocked : Lock
unlocked = holding (7 ∷ 9 ∷ []) false

abbrev locked : Lock
locked = holding (7 ∷ 9 ∷ []) true

none_locked : no_password.locked ≡ true → ⊥
unfolding holding
none_locked e = clash cc

none_long : no_password.length ≡ 16 → ⊥
unfolding holding
none_long e = omega arith

powered_unlocks : (powered_of locked).locked ≡ false → ⊥
unfolding holding powered_of stored
powered_unlocks e = never (sym e)

made_unlocked : (lock : Lock) × ((lock_made (7 ∷ 9 ∷ []) ≡ Ok lock) × (lock.locked ≡ false → ⊥))
unfolding lock_made holding powered_of stored
made_unlocked = (powered_of (holding (7 ∷ 9 ∷ []) false), (refl, λ e. never (sym e)))

prefix_unlocks : (request_of locked (0 ∷ 1 ∷ 7 ∷ []) false).answer ≡ Granted → ⊥
unfolding request_of presented password_in same stored holding
prefix_unlocks e = clash cc

longer_unlocks : (request_of locked (0 ∷ 3 ∷ 7 ∷ 9 ∷ 0 ∷ []) false).answer ≡ Granted → ⊥
unfolding request_of presented password_in same stored holding
longer_unlocks e = clash cc

set_without_old : (request_of unlocked (1 ∷ 2 ∷ 5 ∷ 5 ∷ []) false).answer ≡ Granted → ⊥
unfolding request_of settable old_of new_of password_in same stored holding
set_without_old e = clash cc

erase_unlocked : (request_of unlocked (8 ∷ []) false).answer ≡ Erased → ⊥
unfolding request_of holding
erase_unlocked e = clash cc

new_of_17 : (request_of unlocked (1 ∷ 19 ∷ 7 ∷ 9 ∷ replicate 17 5) false).answer ≡ Granted → ⊥
unfolding request_of settable old_of new_of password_in same stored holding
new_of_17 e = clash cc

surplus_refused : (request_of unlocked (2 ∷ 2 ∷ 7 ∷ 9 ∷ 255 ∷ []) false).answer ≡ Failed → ⊥
unfolding request_of presented password_in same stored holding
surplus_refused e = clash cc

six_locks : (request_of unlocked (6 ∷ 2 ∷ 7 ∷ 9 ∷ []) false).answer ≡ Granted → ⊥
unfolding request_of holding
six_locks e = clash cc

cleared_leaves_bytes : (request_of unlocked (2 ∷ 2 ∷ 7 ∷ 9 ∷ []) false).lock.password ≡ unlocked.password → ⊥
unfolding request_of presented password_in same stored holding
cleared_leaves_bytes e = let z : ◌≡◌ {A = ℕ} 0 7 = ap (λ (l : List ℕ). get_or l 0 0) e in omega arith
