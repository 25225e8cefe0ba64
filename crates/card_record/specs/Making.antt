-- Document 01, "Refusal numbers": "Making a card checks 7, 8, 9 (CID, then CSD), 10, 11; a made card is as after power-on, its memory and
-- map untouched."
-- Assumes nothing.
use Rattle.std.specs.Prelude.{not, List, ℕ, ◌/◌, eqb, replicate, Result, Ok, Err}
use Rattle.base.specs.Choice.{unless}
use Rattle.base.specs.Refusals.{by}
use Rattle.base.specs.Sizes.{protection_group_size}
use Rattle.base.specs.declared.Refusal.{Refusal}
use Rattle.lock.specs.Passwords.{no_password, lock_made as lock_made_of}
use Rattle.lock.specs.declared.Lock.{Lock}
use Rattle.moves.specs.Rows.{window}
use Rattle.states.specs.declared.State.TheVariants.{Ina}
use Rattle.status.specs.Status.{no_errors}
use Rattle.store.specs.Map.{map_right}
use Rattle.store.specs.Memory.{size_allowed}
use Rattle.tags.specs.Tagging.{no_tags}
use Rattle.wire.specs.Responses.{register_right}
use Rattle.card_record.specs.Power.{fresh_link, mmc_mode}
use Rattle.card_record.specs.declared.Card.{Card}
use Rattle.card_record.specs.declared.Made.{Made}
use Rattle.card_record.specs.declared.Registers.{Registers}

-- "Refusals give a number and no value": the one record that a refused make returns, Inactive and all zeros
unfoldable pub refused_make : Card
refused_make =
    record {
      registers = record { cid = replicate 16 0; csd = replicate 16 0; ocr = 0; groups = 0 };
      lock = no_password;
      link = record { state = Ina; address = 0; length = 0; errors = no_errors; tags = no_tags };
      mode = mmc_mode;
    }

abbrev pub failed_make : Refusal → Made
failed_make refusal = record { card = refused_make; making = Err refusal }

-- 11, which the password record itself checks: "a made card is as after power-on"
abbrev pub locked_by : Registers → Result Lock Refusal → Made
locked_by registers (Ok lock) = record { card = record { registers = registers; lock = lock; link = fresh_link; mode = mmc_mode }; making = Ok tt }
locked_by registers (Err refusal) = failed_make refusal

unfoldable pub password_made : Registers → List ℕ → Made
password_made registers password = locked_by registers (lock_made_of password)

-- a card of a CID, a CSD, an OCR and a password, lent a memory of so many bytes and a map
unfoldable pub made_of : List ℕ → List ℕ → ℕ → List ℕ → ℕ → List ℕ → Made
made_of cid csd ocr password memory map =
    unless (size_allowed memory) (failed_make (by 7))
    (unless (map_right map (memory / protection_group_size)) (failed_make (by 8))
    (unless (register_right cid) (failed_make (by 9))
    (unless (register_right csd) (failed_make (by 9))
    (unless (not (eqb (window ocr) 0)) (failed_make (by 10))
    (password_made (record { cid = cid; csd = csd; ocr = ocr; groups = memory / protection_group_size }) password)))))
