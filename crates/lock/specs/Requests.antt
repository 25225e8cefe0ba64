-- Document 01, "Reading, writing, erasing, locking": the requests of CMD42. A request is the payload of its block.
-- Assumes nothing.
use Rattle.std.specs.Prelude.{Bool, true, false, not, List, ℕ, ◌+◌, eqb, leb, length, get_or, take, drop}
use Rattle.base.specs.Choice.{pick, unless}
use Rattle.lock.specs.Passwords.{longest_password, stored, same, holding, no_password, flagged}
use Rattle.lock.specs.declared.Answer.TheVariants.{Granted, Erased, Failed}
use Rattle.lock.specs.declared.Operation.{Operation}
use Rattle.lock.specs.declared.Operation.TheVariants.{Unlock, Set, Clear, Lock as ToLock, SetAndLock, ForcedErase, Unknown}
use Rattle.lock.specs.declared.Lock.{Lock}
use Rattle.lock.specs.declared.Requested.{Requested}

-- "Byte 0: 0 unlock, 1 set, 2 clear, 4 lock, 5 set and lock, 8 forced erase; others fail"
abbrev pub asked_by : ℕ → Operation
asked_by byte =
    pick (eqb byte 0) Unlock
    (pick (eqb byte 1) Set
    (pick (eqb byte 2) Clear
    (pick (eqb byte 4) ToLock
    (pick (eqb byte 5) SetAndLock
    (pick (eqb byte 8) ForcedErase
    Unknown)))))

-- "Byte 1 is the password length (in 1 and 5, of old and new together), bytes follow, surplus ignored"
abbrev pub password_length : List ℕ → ℕ
password_length payload = get_or payload 1 0

unfoldable pub password_in : List ℕ → List ℕ
password_in payload = take (password_length payload) (drop 2 payload)

-- "A block too short for byte 1 or for the length it gives fails"
abbrev pub long_enough : List ℕ → Bool
long_enough payload = leb (2 + password_length payload) (length payload)

-- "Set carries old then new": they are parted at the length of the stored password
unfoldable pub old_of : Lock → List ℕ → List ℕ
old_of lock payload = take (length (stored lock)) (password_in payload)

unfoldable pub new_of : Lock → List ℕ → List ℕ
new_of lock payload = drop (length (stored lock)) (password_in payload)

-- ".. new 1 to 16 bytes; old must match"
unfoldable pub settable : Lock → List ℕ → Bool
settable lock payload =
    unless (long_enough payload) false
    (unless (leb 1 (length (new_of lock payload))) false
    (unless (leb (length (new_of lock payload)) longest_password) false (same (old_of lock payload) (stored lock))))

-- "Clear, lock and unlock need the stored non-empty password"
unfoldable pub presented : Lock → List ℕ → Bool
presented lock payload =
    unless (long_enough payload) false (unless (leb 1 (length (stored lock))) false (same (password_in payload) (stored lock)))

-- "A locked card grants only 0 and 8; an unlocked one never grants 0 or 8"
abbrev pub allowed : ℕ → Bool → Bool
allowed byte locked = pick (eqb byte 0) locked (pick (eqb byte 8) locked (not locked))

-- 20: "lock request failed", and the record is as it was
abbrev pub request_failed : Lock → Requested
request_failed lock = record { lock = lock; answer = Failed }

-- a request that is granted if the test holds, with the record that it leaves then
abbrev pub granted_if : Bool → Lock → Lock → Requested
granted_if test lock next = unless test (request_failed lock) (record { lock = next; answer = Granted })

-- "Forced erase fails if CSD bit 13 or 12 is set; else it fills memory, clears the map, drops the password, unlocks": the caller, who has
-- memory and map, is told `Erased`
abbrev pub erased_if : Bool → Lock → Requested
erased_if test lock = unless test (request_failed lock) (record { lock = no_password; answer = Erased })

-- what each request does. Set leaves the flag as it is, set and lock sets it; lock and unlock change the flag alone
abbrev pub done_of : Operation → Lock → List ℕ → Bool → Requested
done_of Unlock lock payload protected = granted_if (presented lock payload) lock (flagged lock false)
done_of Set lock payload protected = granted_if (settable lock payload) lock (holding (new_of lock payload) lock.locked)
done_of Clear lock payload protected = granted_if (presented lock payload) lock no_password
done_of ToLock lock payload protected = granted_if (presented lock payload) lock (flagged lock true)
done_of SetAndLock lock payload protected = granted_if (settable lock payload) lock (holding (new_of lock payload) true)
done_of ForcedErase lock payload protected = erased_if (not protected) lock
done_of Unknown lock payload protected = request_failed lock

-- a request needs its byte 0, "8 needs byte 0 only", and must be one that the flag allows. `protected` is "CSD bit 13 or 12 is set"
unfoldable pub request_of : Lock → List ℕ → Bool → Requested
request_of lock payload protected =
    unless (leb 1 (length payload)) (request_failed lock)
    (unless (allowed (get_or payload 0 0) lock.locked) (request_failed lock) (done_of (asked_by (get_or payload 0 0)) lock payload protected))
