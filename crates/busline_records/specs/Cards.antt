-- Document 01, "The shared line": the card of a record of kind 01.
-- Assumes nothing.
use Rattle.std.specs.Prelude.{List, [], ◌∷◌, ◌++◌, ℕ, replicate}
use Rattle.lock.specs.Passwords.{no_password}
use Rattle.card_record.specs.Making.{made_of}
use Rattle.card_record.specs.Power.{fresh_link, mmc_mode}
use Rattle.card_record.specs.declared.Card.{Card}
use Rattle.card_record.specs.declared.Made.{Made}
use Rattle.busline_records.specs.Reading.{identifier_of}

-- "CSD is 15 zero bytes and 01"
abbrev pub dock_csd : List ℕ
dock_csd = replicate 15 0 ++ (1 ∷ [])

-- "OCR 00FF8000"
abbrev pub dock_ocr : ℕ
dock_ocr = 0x00FF8000

-- a card made with a CID: "one erased 8,192-byte memory, map entry 0, no password"
unfoldable pub made_with : List ℕ → Made
made_with cid = made_of cid dock_csd dock_ocr [] 8192 (0 ∷ [])

unfoldable pub card_made : List ℕ → Card
card_made s = (made_with (identifier_of s)).card

-- the record that this gives, whatever the CID: law `card_of`
unfoldable pub dock_card : List ℕ → Card
dock_card cid =
    record {
      registers = record { cid = cid; csd = dock_csd; ocr = dock_ocr; groups = 1 };
      lock = no_password;
      link = fresh_link;
      mode = mmc_mode;
    }
