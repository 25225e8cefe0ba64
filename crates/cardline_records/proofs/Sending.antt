-- Laws of what a card sends.
--   sent_text_lem      its line, once it is written
--   sent_beside_lem    its bytes beside a call's answer, once they are written
--   beside_most        which are at most 17
-- Assumes nothing.
use mathlib.Core.Path.{◌≡◌, sym, ap, ◌∙◌}
use mathlib.Core.Bool.{true, false}
use mathlib.Core.List.{List, []}
use Prim.Native.Nat.{ℕ, ◌≤◌}
use native.Mathlib.Omega.{arith}
use borrow.Author.Tests.{leb-true}
use lib.Dec.{leb}
use lib.ListN.{length, take, drop, replicate}
use lib.Seq.{take_at}
use Rattle.base.proofs.Cases.{cases, passed}
use Rattle.base.specs.Output.{fits, laid, bytes_of}
use Rattle.base.specs.Refusals.{by}
use Rattle.base.specs.declared.Refusal.{Refusal}
use Rattle.cardline_records.specs.Calls.{shown_text, sent_line, beside_of, beside_bytes}
use Rattle.card_record.specs.Sending.{sent_bytes, sent_written}
use Rattle.card_record.specs.declared.Sent.{Sent}
use Rattle.card_record.specs.declared.Sent.TheVariants.{Nothing, Status, Cid, Csd, Ocr, SpiR1, SpiR2, SpiR3, DataResponse}
use Rattle.card_record.specs.declared.Registers.{Registers}
use Rattle.wire.specs.Frames.{indexed}
use Rattle.std.specs.Prelude.{Result, Ok, Err}

never : (refusal : Refusal) (n : ℕ) → Err refusal ≡ Ok n → ⊥
never refusal n e = let z : ◌≡◌ {A = ℕ} 0 1 = cc in omega arith

fitted : (bytes out : List ℕ) (n : ℕ) → fits bytes out ≡ Ok n → length bytes ≡ n
fitted bytes out n e =
    ap bytes_of (passed (leb (length bytes) (length out)) (Err (by 6)) (Ok (length bytes)) (Ok n) (never (by 6) n) e).1

index_fitted : (index n : ℕ) (bytes out : List ℕ) → indexed index bytes out ≡ Ok n → length bytes ≡ n
index_fitted index n bytes out e = fitted bytes out n (passed (leb index 63) (Err (by 4)) (fits bytes out) (Ok n) (never (by 4) n) e).1

sent_length : (registers : Registers) (sent : Sent) (out : List ℕ) (n : ℕ) → sent_written registers sent out ≡ Ok n → length (sent_bytes registers sent) ≡ n
unfolding sent_written sent_bytes
sent_length registers Nothing out n e = fitted [] out n e
sent_length registers (Status index status) out n e = index_fitted index n (sent_bytes registers (Status index status)) out e
sent_length registers Cid out n e = fitted (sent_bytes registers Cid) out n e
sent_length registers Csd out n e = fitted (sent_bytes registers Csd) out n e
sent_length registers Ocr out n e = fitted (sent_bytes registers Ocr) out n e
sent_length registers (SpiR1 first) out n e = fitted (sent_bytes registers (SpiR1 first)) out n e
sent_length registers (SpiR2 first second) out n e = fitted (sent_bytes registers (SpiR2 first second)) out n e
sent_length registers (SpiR3 first) out n e = fitted (sent_bytes registers (SpiR3 first)) out n e
sent_length registers (DataResponse response) out n e = fitted (sent_bytes registers (DataResponse response)) out n e

sent_front : (registers : Registers) (sent : Sent) (out after : List ℕ) (n : ℕ) (w : Result ℕ Refusal) → w ≡ sent_written registers sent out → w ≡ Ok n
    → after ≡ laid w (sent_bytes registers sent) out → take n after ≡ sent_bytes registers sent
sent_front registers sent out after n w ew en ea =
    let t : List ℕ = sent_bytes registers sent in
    ap (take n) (ea ∙ ap (λ (x : Result ℕ Refusal). laid x t out) en)
    ∙ take_at t (drop (length t) out) n (sent_length registers sent out n (sym ew ∙ en))

module _ (count : ℕ) (registers : Registers) (sent : Sent) (out after : List ℕ) (w : Result ℕ Refusal) (ew : w ≡ sent_written registers sent out) where
  pub sent_text_lem : (n : ℕ) → w ≡ Ok n → after ≡ laid w (sent_bytes registers sent) out
      → shown_text count (take n after) ≡ sent_line count (sent_written registers sent out) (sent_bytes registers sent)
  sent_text_lem n en ea =
      ap (shown_text count) (sent_front registers sent out after n w ew en ea)
      ∙ ap (λ (x : Result ℕ Refusal). sent_line count x (sent_bytes registers sent)) (sym en ∙ ew)

module _ (registers : Registers) (sent : Sent) (out after : List ℕ) (w : Result ℕ Refusal) (ew : w ≡ sent_written registers sent out) where
  pub sent_beside_lem : (n : ℕ) → w ≡ Ok n → after ≡ laid w (sent_bytes registers sent) out
      → take n after ≡ beside_of (sent_written registers sent out) (sent_bytes registers sent)
  sent_beside_lem n en ea =
      sent_front registers sent out after n w ew en ea ∙ ap (λ (x : Result ℕ Refusal). beside_of x (sent_bytes registers sent)) (sym en ∙ ew)

fits_most : (bytes out : List ℕ) → length (beside_of (fits bytes out) bytes) ≤ length out
fits_most bytes out =
    cases (leb (length bytes) (length out))
    (λ (t : leb (length bytes) (length out) ≡ true). rw t (leb-true (length bytes) (length out) t))
    (λ (t : leb (length bytes) (length out) ≡ false). rw t (omega arith))

index_most : (index : ℕ) (bytes out : List ℕ) → length (beside_of (indexed index bytes out) bytes) ≤ length out
index_most index bytes out =
    cases (leb index 63)
    (λ (t : leb index 63 ≡ true). rw t (fits_most bytes out))
    (λ (t : leb index 63 ≡ false). rw t (omega arith))

sent_most : (registers : Registers) (sent : Sent) (out : List ℕ) → length (beside_of (sent_written registers sent out) (sent_bytes registers sent)) ≤ length out
unfolding sent_written sent_bytes
sent_most registers Nothing out = fits_most [] out
sent_most registers (Status index status) out = index_most index (sent_bytes registers (Status index status)) out
sent_most registers Cid out = fits_most (sent_bytes registers Cid) out
sent_most registers Csd out = fits_most (sent_bytes registers Csd) out
sent_most registers Ocr out = fits_most (sent_bytes registers Ocr) out
sent_most registers (SpiR1 first) out = fits_most (sent_bytes registers (SpiR1 first)) out
sent_most registers (SpiR2 first second) out = fits_most (sent_bytes registers (SpiR2 first second)) out
sent_most registers (SpiR3 first) out = fits_most (sent_bytes registers (SpiR3 first)) out
sent_most registers (DataResponse response) out = fits_most (sent_bytes registers (DataResponse response)) out

pub beside_most : (registers : Registers) (sent : Sent) → length (beside_bytes registers sent) ≤ 17
unfolding beside_bytes
beside_most registers sent = sent_most registers sent (replicate 17 0)
