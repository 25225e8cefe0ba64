-- How a block is framed, by mode. Document 01, "Frames and blocks": "Data blocks are 1 to 2,048 bytes, then CRC16". Document 02, request 1:
-- in SPI a start byte comes first, and a data response follows a block in.
-- Assumes nothing.
use Rattle.std.specs.Prelude.{Bool, not, ◌&&◌, ◌||◌, List, ◌∷◌, ℕ, eqb, get_or, drop, Result, Option, Ok, Err, Some, None}
use Rattle.base.specs.Choice.{pick}
use Rattle.base.specs.Refusals.{number_of}
use Rattle.card_record.specs.declared.Mode.{Mode}
use Rattle.card_record.specs.declared.Sent.{Sent}
use Rattle.card_record.specs.declared.Sent.TheVariants.{Nothing, DataResponse}
use Rattle.crc.specs.Crc.{crc16}
use Rattle.wire.specs.Blocks.{payload_of, crc_in}
use Rattle.base.specs.declared.Refusal.{Refusal}

-- what a block carries beside its payload: "then CRC16"; in SPI the start byte too
abbrev pub beside : Bool → ℕ
beside spi = pick spi 3 2

-- "start byte FE"
abbrev pub start_byte : ℕ
start_byte = 0xFE

-- whether a block begins as it must: in SPI with the start byte
abbrev pub started : Bool → List ℕ → Bool
started spi block = not spi || eqb (get_or block 0 0) start_byte

-- the payload with its CRC16, without the start byte
abbrev pub unstarted : Bool → List ℕ → List ℕ
unstarted spi block = pick spi (drop 1 block) block

-- .. and with it
abbrev pub with_start : Bool → List ℕ → List ℕ
with_start spi block = pick spi (start_byte ∷ block) block

-- whether the CRC16 of a payload lets it pass: in SPI "17 come[s] only with CRC on"
abbrev pub crc_right : Mode → List ℕ → Bool
crc_right mode block = mode.spi && not mode.checks || eqb (crc_in block) (crc16 (payload_of block))

-- "data responses 05 accepted and 0B for a bad CRC"; "A block refused 16, 19 or 20 sends no data response"
abbrev pub response_to : Bool → Result (Option ℕ) Refusal → Sent
response_to spi (Ok None) = pick spi (DataResponse 0x05) Nothing
response_to spi (Ok (Some n)) = Nothing
response_to spi (Err refusal) = pick (spi && eqb (number_of refusal) 17) (DataResponse 0x0B) Nothing
