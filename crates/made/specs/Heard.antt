-- A frame that a card hears as a command. Document 01, "How a card takes a frame"; document 02, request 1.
-- Assumes nothing.
use Rattle.std.specs.Prelude.{◌≡◌, Bool, true, List, ℕ, Ok}
use Rattle.card_record.specs.declared.Card.{Card}
use Rattle.spi.specs.Hearing.{crc_passes}
use Rattle.wire.specs.Frames.{framing_of, as_fields}

-- in MMC mode its CRC7 is right, that is `frame_of frame ≡ Command index argument` (`read_in_mmc` of stored); in SPI "3 (CMD0 apart) .. come[s] only
-- with CRC on", and "a frame with the line high is ignored"
pub record HeardAs (card : Card) (selected : Bool) (frame : List ℕ) (index argument : ℕ) : Type 0 where
  pub right : Bool
  pub framing : framing_of frame ≡ Ok (as_fields index argument right)
  pub crc : crc_passes card.mode index right ≡ true
  pub low : card.mode.spi ≡ true → selected ≡ true
