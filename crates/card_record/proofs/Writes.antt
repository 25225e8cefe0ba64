-- What a card sends is written, in at most 17 bytes.
--   written_right, written_bytes, never_refused   what is sent is written, in at most 17 bytes
-- Assumes nothing.
use mathlib.Core.Path.{◌≡◌, refl, sym, ap, ◌∙◌, subst}
use mathlib.Core.Bool.{Bool}
use mathlib.Core.List.{List, [], ◌∷◌}
use Prim.Native.Nat.{ℕ, ◌≤◌}
use native.Mathlib.Omega.{arith}
use borrow.Author.Tests.{le-leb}
use lib.ListN.{length}
use Rattle.base.specs.Choice.{unless}
use Rattle.base.specs.Output.{fits, bytes_of}
use Rattle.base.specs.Refusals.{by}
use Rattle.base.specs.declared.Refusal.{Refusal}
use Rattle.card_record.specs.declared.Sent.{Sent}
use Rattle.card_record.specs.declared.Sent.TheVariants.{Nothing, Status, Cid, Csd, Ocr, SpiR1, SpiR2, SpiR3, DataResponse}
use Rattle.card_record.specs.declared.Registers.{Registers}
use Rattle.wire.specs.Frames.{indexed}
use Rattle.wire.specs.Responses.{r1_frame, r2_frame, r3_frame}
use Rattle.card_record.specs.Sending.{spi_r3_bytes, sent_bytes, sent_written, Sendable}
use Rattle.std.specs.Prelude.{Result, Ok, Err}

fits_right : (bytes out : List ℕ) → length bytes ≤ 17 → 17 ≤ length out → fits bytes out ≡ Ok (length bytes)
fits_right bytes out h k = simp (le-leb (length bytes) (length out) (omega arith))

-- where the frame's length is at most 17
abbrev Written17 : Result ℕ Refusal → List ℕ → Type 0
Written17 written bytes = (written ≡ Ok (length bytes)) × (length bytes ≤ 17)

r1_right : (index status : ℕ) (out : List ℕ) → index ≤ 63 → 17 ≤ length out
    → Written17 (indexed index (r1_frame (record { index = index; status = status })) out) (r1_frame (record { index = index; status = status }))
unfolding r1_frame
r1_right index status out h k =
    let f : List ℕ = r1_frame (record { index = index; status = status }) in
    let n : length f ≡ 6 = refl in
    let short : length f ≤ 17 = omega arith in
    (ap (λ (b : Bool). unless b (Err (by 4)) (fits f out)) (le-leb index 63 h) ∙ fits_right f out short k, short)

r2_right : (register out : List ℕ) → length register ≡ 16 → 17 ≤ length out
    → Written17 (fits (r2_frame (record { register = register })) out) (r2_frame (record { register = register }))
unfolding r2_frame
r2_right register out e k = let short : length (0x3F ∷ register) ≤ 17 = omega arith in (fits_right (0x3F ∷ register) out short k, short)

r3_right : (ocr : ℕ) (out : List ℕ) → 17 ≤ length out → Written17 (fits (r3_frame (record { ocr = ocr })) out) (r3_frame (record { ocr = ocr }))
unfolding r3_frame
r3_right ocr out k =
    let f : List ℕ = r3_frame (record { ocr = ocr }) in
    let n : length f ≡ 6 = refl in
    let short : length f ≤ 17 = omega arith in
    (fits_right f out short k, short)

spi_r3_right : (first ocr : ℕ) (out : List ℕ) → 17 ≤ length out → Written17 (fits (spi_r3_bytes first ocr) out) (spi_r3_bytes first ocr)
unfolding r3_frame
spi_r3_right first ocr out k =
    let f : List ℕ = spi_r3_bytes first ocr in
    let n : length f ≡ 5 = refl in
    let short : length f ≤ 17 = omega arith in
    (fits_right f out short k, short)

pub written_right : (registers : Registers) (sent : Sent) (out : List ℕ) → Sendable sent → length registers.cid ≡ 16 → length registers.csd ≡ 16
    → 17 ≤ length out → Written17 (sent_written registers sent out) (sent_bytes registers sent)
unfolding sent_written sent_bytes
written_right registers Nothing out h cid csd k = (fits_right [] out (omega arith) k, omega arith)
written_right registers (Status index status) out h cid csd k = r1_right index status out h k
written_right registers Cid out h cid csd k = r2_right registers.cid out cid k
written_right registers Csd out h cid csd k = r2_right registers.csd out csd k
written_right registers Ocr out h cid csd k = r3_right registers.ocr out k
written_right registers (SpiR1 first) out h cid csd k = let short : length (first ∷ []) ≤ 17 = omega arith in (fits_right (first ∷ []) out short k, short)
written_right registers (SpiR2 first second) out h cid csd k =
    let short : length (first ∷ second ∷ []) ≤ 17 = omega arith in (fits_right (first ∷ second ∷ []) out short k, short)
written_right registers (SpiR3 first) out h cid csd k = spi_r3_right first registers.ocr out k
written_right registers (DataResponse response) out h cid csd k =
    let short : length (response ∷ []) ≤ 17 = omega arith in (fits_right (response ∷ []) out short k, short)

-- a refusal is no count of bytes
abbrev Counts : Result ℕ Refusal → Type 0
Counts (Ok n) = Unit {0}
Counts (Err r) = ⊥

module _ (registers : Registers) (sent : Sent) (out : List ℕ) (h : Sendable sent) (cid : length registers.cid ≡ 16)
    (csd : length registers.csd ≡ 16) (k : 17 ≤ length out) (written : Result ℕ Refusal) (e : written ≡ sent_written registers sent out) where
  pub written_bytes : (n : ℕ) → written ≡ Ok n → (n ≡ length (sent_bytes registers sent)) × (n ≤ 17)
  written_bytes n b =
      let r = written_right registers sent out h cid csd k in
      let same : n ≡ length (sent_bytes registers sent) = ap bytes_of (sym b ∙ e ∙ r.0) in
      (same, omega (arith, r.1))

  pub never_refused : (refusal : Refusal) → written ≡ Err refusal → ⊥
  never_refused refusal b =
      subst Counts (sym (e ∙ (written_right registers sent out h cid csd k).0) ∙ b) tt
