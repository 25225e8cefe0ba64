-- Document 01, "Memory of one card": "A password is 0 to 16 bytes; 0 means none".
-- Assumes nothing.
use Rattle.std.specs.Prelude.{Bool, true, false, List, [], ◌∷◌, ◌++◌, ℕ, ◌-◌, min, eqb, leb, length, take, replicate, Result, Ok, Err}
use Rattle.base.specs.declared.Refusal.{Refusal}
use Rattle.base.specs.Choice.{pick, unless}
use Rattle.base.specs.Refusals.{by}
use Rattle.lock.specs.declared.Lock.{Lock}

-- the most bytes of a password
abbrev pub longest_password : ℕ
longest_password = 16

-- the bytes of the password: as many as the record's length says; a length over 16 reads as 16
unfoldable pub stored : Lock → List ℕ
stored lock = take (min lock.length longest_password) lock.password

-- whether two lists of bytes are the same: as long, and equal at each place
unfoldable pub same : List ℕ → List ℕ → Bool
same [] [] = true
same [] (y ∷ ys) = false
same (x ∷ xs) [] = false
same (x ∷ xs) (y ∷ ys) = pick (eqb x y) (same xs ys) false

-- a record of a password and a flag: zeros stand behind the password
unfoldable pub holding : List ℕ → Bool → Lock
holding bytes locked = record { password = bytes ++ replicate (longest_password - length bytes) 0; length = length bytes; locked = locked }

-- no password, unlocked
abbrev pub no_password : Lock
no_password = holding [] false

-- a record with another flag and nothing else changed, whatever stands behind its password
abbrev pub flagged : Lock → Bool → Lock
flagged lock locked = record { password = lock.password; length = lock.length; locked = locked }

-- "Power-on: .. locked exactly if a password is stored"
unfoldable pub powered_of : Lock → Lock
powered_of lock = flagged lock (leb 1 (length (stored lock)))

-- 11: "password over 16 bytes"; "a made card is as after power-on"
unfoldable pub lock_made : List ℕ → Result Lock Refusal
lock_made bytes =
    unless (leb (length bytes) longest_password) (Err (by 11)) (Ok (powered_of (holding bytes false)))
