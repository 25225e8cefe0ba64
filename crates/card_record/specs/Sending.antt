-- Document 01, "Frames and blocks", and document 02, request 1: the bytes of what a card sends.
-- Assumes nothing.
use Rattle.std.specs.Prelude.{List, [], ◌∷◌, ℕ, ◌≤◌, take, drop, Result}
use Rattle.base.specs.Output.{fits}
use Rattle.card_record.specs.declared.Sent.{Sent}
use Rattle.card_record.specs.declared.Sent.TheVariants.{Nothing, Status, Cid, Csd, Ocr, SpiR1, SpiR2, SpiR3, DataResponse}
use Rattle.card_record.specs.declared.Registers.{Registers}
use Rattle.wire.specs.Frames.{indexed}
use Rattle.wire.specs.Responses.{r1_frame, r2_frame, r3_frame}
use Rattle.base.specs.declared.Refusal.{Refusal}

-- in SPI "R3 as five": R1's byte, and 01's "four OCR bytes with bit 31 set"
abbrev pub spi_r3_bytes : ℕ → ℕ → List ℕ
spi_r3_bytes first ocr = first ∷ take 4 (drop 1 (r3_frame (record { ocr = ocr })))

-- R1 of its index and status, R2 of the CID or the CSD, R3 of the OCR. In SPI "R1 as one byte .., R2 as two .., R3 as five" and "data
-- responses" of one
unfoldable pub sent_bytes : Registers → Sent → List ℕ
sent_bytes registers Nothing = []
sent_bytes registers (Status index status) = r1_frame (record { index = index; status = status })
sent_bytes registers Cid = r2_frame (record { register = registers.cid })
sent_bytes registers Csd = r2_frame (record { register = registers.csd })
sent_bytes registers Ocr = r3_frame (record { ocr = registers.ocr })
sent_bytes registers (SpiR1 first) = first ∷ []
sent_bytes registers (SpiR2 first second) = first ∷ second ∷ []
sent_bytes registers (SpiR3 first) = spi_r3_bytes first registers.ocr
sent_bytes registers (DataResponse response) = response ∷ []

-- as the writers answer: "Writing a frame: 4, 6"
unfoldable pub sent_written : Registers → Sent → List ℕ → Result ℕ Refusal
sent_written registers Nothing out = fits [] out
sent_written registers (Status index status) out = indexed index (sent_bytes registers (Status index status)) out
sent_written registers Cid out = fits (sent_bytes registers Cid) out
sent_written registers Csd out = fits (sent_bytes registers Csd) out
sent_written registers Ocr out = fits (sent_bytes registers Ocr) out
sent_written registers (SpiR1 first) out = fits (sent_bytes registers (SpiR1 first)) out
sent_written registers (SpiR2 first second) out = fits (sent_bytes registers (SpiR2 first second)) out
sent_written registers (SpiR3 first) out = fits (sent_bytes registers (SpiR3 first)) out
sent_written registers (DataResponse response) out = fits (sent_bytes registers (DataResponse response)) out

-- what the writers of frames write: an R1's index has 6 bits
abbrev pub Sendable : Sent → Type 0
Sendable Nothing = Unit {0}
Sendable (Status index status) = index ≤ 63
Sendable Cid = Unit {0}
Sendable Csd = Unit {0}
Sendable Ocr = Unit {0}
Sendable (SpiR1 first) = Unit {0}
Sendable (SpiR2 first second) = Unit {0}
Sendable (SpiR3 first) = Unit {0}
Sendable (DataResponse response) = Unit {0}
