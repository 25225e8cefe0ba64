-- Every way in which a lock request can go, as far as the flag and what is lent are concerned: one list, and each request is on it.
--   Asks        failed; an unlock with the stored password at a locked card; another request at an unlocked one; a forced erase
--   asks        each request is one of these
--   asks_erase  a forced erase that is granted was asked for by byte 0, of a locked card that its CSD does not protect
-- Assumes nothing.
use mathlib.Core.Path.{◌≡◌}
use mathlib.Core.Bool.{Bool, true, false, not}
use mathlib.Core.List.{List}
use Prim.Native.Nat.{ℕ}
use borrow.Author.Tests.{eqb-true, not-true}
use lib.Dec.{eqb, leb}
use lib.ListN.{length, get_or}
use Rattle.base.proofs.Cases.{cases, picked, guarded, clash}
use Rattle.lock.specs.Passwords.{no_password, flagged}
use Rattle.lock.specs.Requests.{asked_by, settable, presented, allowed, request_failed, done_of, request_of}
use Rattle.lock.specs.declared.Answer.TheVariants.{Granted, Erased}
use Rattle.lock.specs.declared.Operation.{Operation}
use Rattle.lock.specs.declared.Lock.{Lock}
use Rattle.lock.specs.declared.Requested.{Requested}

module _ (lock : Lock) (payload : List ℕ) (protected : Bool) where
  pub data Asks : Requested → Type 0 where
    fails : Asks (request_failed lock)
    unlocks : get_or payload 0 0 ≡ 0 → lock.locked ≡ true → presented lock payload ≡ true → Asks (record { lock = flagged lock false; answer = Granted })
    others : (next : Lock) → lock.locked ≡ false → Asks (record { lock = next; answer = Granted })
    erases : get_or payload 0 0 ≡ 8 → lock.locked ≡ true → protected ≡ false → Asks (record { lock = no_password; answer = Erased })

  abbrev byte : ℕ
  byte = get_or payload 0 0

  abbrev Done : Operation → Type 0
  Done asked = Asks (done_of asked lock payload protected)

  first_zero : byte ≡ 0 → allowed byte lock.locked ≡ true → Done (asked_by byte)
  first_zero e a =
      rw e (guarded Asks (presented lock payload) (λ f. fails) (λ p. unlocks e (rw e at a) p))

  first_eight : byte ≡ 8 → allowed byte lock.locked ≡ true → Done (asked_by byte)
  first_eight e a =
      rw e (guarded Asks (not protected) (λ f. fails) (λ p. erases e (rw e at a) (not-true protected p)))

  -- set, clear, lock, set and lock, and what is not listed
  first_other : eqb byte 0 ≡ false → eqb byte 8 ≡ false → allowed byte lock.locked ≡ true → Done (asked_by byte)
  first_other n0 n8 a =
      let free : lock.locked ≡ false = not-true lock.locked (simp (n0, n8) at a) in
      simp (n0, n8)
      (picked Done (eqb byte 1) (λ t. guarded Asks (settable lock payload) (λ f. fails) (λ p. others _ free))
      (λ t. picked Done (eqb byte 2) (λ t. guarded Asks (presented lock payload) (λ f. fails) (λ p. others _ free))
      (λ t. picked Done (eqb byte 4) (λ t. guarded Asks (presented lock payload) (λ f. fails) (λ p. others _ free))
      (λ t. picked Done (eqb byte 5) (λ t. guarded Asks (settable lock payload) (λ f. fails) (λ p. others _ free)) (λ t. fails)))))

  pub asks : Asks (request_of lock payload protected)
  unfolding request_of
  asks =
      guarded Asks (leb 1 (length payload)) (λ f. fails)
      (λ l.
      guarded Asks (allowed byte lock.locked) (λ f. fails)
      (λ a.
      cases (eqb byte 0) (λ t. first_zero (eqb-true byte 0 t) a)
      (λ n0. cases (eqb byte 8) (λ t. first_eight (eqb-true byte 8 t) a) (λ n8. first_other n0 n8 a))))

  erase_asked : {requested : Requested} → Asks requested → requested.answer ≡ Erased → (byte ≡ 8) × ((lock.locked ≡ true) × (protected ≡ false))
  erase_asked fails e = clash cc
  erase_asked (unlocks b l p) e = clash cc
  erase_asked (others next l) e = clash cc
  erase_asked (erases b l p) e = (b, (l, p))

  pub asks_erase : (request_of lock payload protected).answer ≡ Erased → (get_or payload 0 0 ≡ 8) × ((lock.locked ≡ true) × (protected ≡ false))
  asks_erase = erase_asked asks
