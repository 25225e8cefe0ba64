-- Wrong answers that the promise of `write_sent` rules out, each refuted at a sample that antt computes.
--   csd_for_cid, cid_for_csd   the other register sent
--   ocr_bit_31_clear           an OCR without its bit 31
--   silent_sends               a silent card that sends six bytes
--   spi_ocr_bit_31_clear       in SPI an R3 whose OCR is without its bit 31
--   spi_r3_as_frame            .. or which is the R3 of MMC mode
--   spi_r2_alone               in SPI an R2 of its second byte alone
--   cid_in_16                  a CID written into an output of 16 bytes
--   index_64                   a status with index 64 written
-- Assumes nothing.
use mathlib.Core.Path.{◌≡◌}
use native.Mathlib.Omega.{arith}
use lib.ListN.{length, get_or, replicate}
use Rattle.base.proofs.Cases.{clash}
use Rattle.card_record.specs.declared.Registers.{Registers}
use Rattle.wire.specs.Responses.{r2_frame, r3_frame}
use Rattle.card_record.specs.Sending.{sent_bytes, sent_written}
use Rattle.card_record.specs.declared.Sent.TheVariants.{Nothing, Status, Cid, Csd, Ocr, SpiR2, SpiR3}
use Rattle.std.specs.Prelude.{Ok}

abbrev registers : Registers
registers = record { cid = replicate 16 1; csd = replicate 16 2; ocr = 0x00FF8000; groups = 1 }

csd_for_cid : get_or (sent_bytes registers Cid) 1 0 ≡ 2 → ⊥
unfolding sent_bytes r2_frame
csd_for_cid e = omega arith

cid_for_csd : get_or (sent_bytes registers Csd) 1 0 ≡ 1 → ⊥
unfolding sent_bytes r2_frame
cid_for_csd e = omega arith

ocr_bit_31_clear : get_or (sent_bytes registers Ocr) 1 0 ≡ 0 → ⊥
unfolding sent_bytes r3_frame
ocr_bit_31_clear e = omega arith

silent_sends : length (sent_bytes registers Nothing) ≡ 6 → ⊥
unfolding sent_bytes
silent_sends e = omega arith

spi_ocr_bit_31_clear : get_or (sent_bytes registers (SpiR3 1)) 1 0 ≡ 0 → ⊥
unfolding sent_bytes r3_frame
spi_ocr_bit_31_clear e = omega arith

spi_r3_as_frame : get_or (sent_bytes registers (SpiR3 1)) 0 0 ≡ 0x3F → ⊥
unfolding sent_bytes
spi_r3_as_frame e = omega arith

spi_r2_alone : length (sent_bytes registers (SpiR2 1 2)) ≡ 1 → ⊥
unfolding sent_bytes
spi_r2_alone e = omega arith

cid_in_16 : sent_written registers Cid (replicate 16 0) ≡ Ok 16 → ⊥
unfolding sent_written sent_bytes r2_frame
cid_in_16 e = clash cc

index_64 : sent_written registers (Status 64 0) (replicate 6 0) ≡ Ok 6 → ⊥
unfolding sent_written
index_64 e = clash cc
