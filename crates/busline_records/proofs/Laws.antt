-- Laws of the records of `busline`.
--   place_below   an added card has one of the 30 places
--   gone_long     what is kept, with the length of the line that was written
--   chunk_whole   a line in the first bytes of an output, with what stands behind them
--   closed        15 bytes copied to the front of 16, and the last byte set: the register of the 15
-- Assumes nothing.
use mathlib.Core.Path.{◌≡◌, sym, ap, ◌∙◌}
use mathlib.Core.Bool.{true, false}
use mathlib.Core.List.{List, [], ◌∷◌, ◌++◌, append_assoc}
use Prim.Native.Nat.{ℕ, ◌≤◌, ◌<◌}
use native.Mathlib.Omega.{arith}
use borrow.Author.Tests.{ltb-true}
use lib.Dec.{ltb}
use lib.ListN.{length, take, drop, replicate, set, take-append-drop, length-take}
use lib.Seq.{set_at, drop-append-le}
use Rattle.base.proofs.Cases.{cases}
use Rattle.bus.specs.Bus.{most, count_of, added_to}
use Rattle.bus.specs.declared.Bus.{Bus}
use Rattle.text.proofs.Writing.{fits_front, wrote_at}
use Rattle.text.specs.Writing.{Wrote}
use Rattle.base.specs.Output.{copied}
use Rattle.base.proofs.Copying.{copied_length}
use Rattle.card_record.specs.declared.Card.{Card}
use Rattle.playing.specs.declared.Then.TheVariants.{Goes}
use Rattle.wire.specs.Responses.{last_byte}
use Rattle.busline_records.specs.Reading.{register_of}
use Rattle.busline_records.specs.Record.{left_at}
use Rattle.busline_records.specs.declared.Progress.{Progress}
use Rattle.std.specs.Prelude.{Ok}

pub place_below : (bus : Bus) (card : Card) (n : ℕ) → (added_to bus card).adding ≡ Ok n → n < 30
unfolding added_to
place_below bus card n e =
    cases (ltb (count_of bus) most)
    (λ (t : ltb (count_of bus) most ≡ true).
    let h : count_of bus < most = ltb-true (count_of bus) most t in
    let p : Ok (count_of bus) ≡ Ok n = rw t at e in
    let q : count_of bus ≡ n = cc in
    omega arith)
    (λ (t : ltb (count_of bus) most ≡ false).
    let p = rw t at e in
    let z : ◌≡◌ {A = ℕ} 0 1 = cc in
    absurd (omega arith))

pub gone_long : {w : Progress} {used a b : ℕ} → a ≡ b → left_at w used a Goes ≡ left_at w used b Goes
gone_long {w} {used} e = ap (λ (n : ℕ). left_at w used n Goes) e

pub closed : (given body cid : List ℕ) (last : ℕ) → body ≡ copied given (replicate 15 0) 0 → cid ≡ copied body (replicate 16 0) 0
    → last ≡ last_byte body → set cid 15 last ≡ register_of (copied given (replicate 15 0) 0)
unfolding register_of
closed given body cid last eb ec el =
    let n : length body ≡ 15 = ap length eb ∙ copied_length given (replicate 15 0) 0 in
    let zeros : List ℕ = replicate 16 0 in
    let h : length body ≤ length zeros = omega arith in
    let p : cid ≡ body ++ (0 ∷ []) = ec ∙ fits_front body zeros h ∙ ap (λ (k : ℕ). body ++ drop k zeros) n in
    ap (λ (l : List ℕ). set l 15 last) p
    ∙ set_at body 0 [] last 15 n
    ∙ ap (λ (x : ℕ). body ++ (x ∷ [])) el
    ∙ ap (λ (b : List ℕ). b ++ (last_byte b ∷ [])) eb

pub chunk_whole : (o c p t : List ℕ) (w : ℕ) → 64 ≤ length o → w ≤ 64 → c ≡ take 64 o → Wrote c p 0 w t → p ++ drop 64 o ≡ t ++ drop w o
chunk_whole o c p t w room short ec wrote =
    let h : w ≤ length (take 64 o) = omega (arith, length-take 64 o) in
    ap (λ (l : List ℕ). l ++ drop 64 o) (wrote_at wrote ∙ ap (λ (l : List ℕ). t ++ drop w l) ec)
    ∙ append_assoc t (drop w (take 64 o)) (drop 64 o)
    ∙ ap (λ (l : List ℕ). t ++ l) (sym (drop-append-le w (take 64 o) (drop 64 o) h) ∙ ap (drop w) (take-append-drop 64 o))
