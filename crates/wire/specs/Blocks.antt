-- Document 01, "Frames and blocks": "Data blocks are 1 to 2,048 bytes, then CRC16, high byte first".
-- Assumes nothing.
use Rattle.std.specs.Prelude.{List, [], ◌∷◌, ◌++◌, ℕ, ◌+◌, ◌-◌, ◌*◌, ◌/◌, ◌%◌, eqb, leb, length, get_or, take, Result, Ok, Err}
use Rattle.base.specs.Choice.{unless}
use Rattle.base.specs.Output.{fits}
use Rattle.base.specs.Refusals.{by}
use Rattle.crc.specs.Crc.{crc16}
use Rattle.base.specs.declared.Refusal.{Refusal}

-- the most bytes that a block carries
abbrev pub longest_block : ℕ
longest_block = 2048

-- a payload, then its CRC16, high byte first
unfoldable pub block_of : List ℕ → List ℕ
block_of payload = payload ++ (crc16 payload / 256 ∷ crc16 payload % 256 ∷ [])

-- "Writing a block: 5, 6"
unfoldable pub block_written : List ℕ → List ℕ → Result ℕ Refusal
block_written payload out =
    unless (leb 1 (length payload)) (Err (by 5)) (unless (leb (length payload) longest_block) (Err (by 5)) (fits (block_of payload) out))

-- what a checked block carries, and the CRC16 that it tells
abbrev pub payload_of : List ℕ → List ℕ
payload_of block = take (length block - 2) block

abbrev pub crc_in : List ℕ → ℕ
crc_in block = get_or block (length block - 2) 0 * 256 + get_or block (length block - 1) 0

-- "Checking one: 5, 17": a good block is told by the length of its payload
unfoldable pub checked_of : List ℕ → Result ℕ Refusal
checked_of block =
    unless (leb 3 (length block)) (Err (by 5))
    (unless (leb (length block) (longest_block + 2)) (Err (by 5))
    (unless (eqb (crc_in block) (crc16 (payload_of block))) (Err (by 17)) (Ok (length block - 2))))
