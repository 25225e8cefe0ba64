-- Laws of a turn.
--   answer      what is answered of a piece
--   text_over   its text
--   left_over   the bytes of a piece that are left over, moved to the front of the buffer
--   moved_over  the whole buffer then
-- Assumes nothing.
use mathlib.Core.Path.{◌≡◌, sym, ap, ap₂, ◌∙◌}
use mathlib.Core.List.{List, ◌++◌}
use Prim.Native.Nat.{ℕ, ◌-◌, ◌/◌, ◌≤◌, min}
use native.Mathlib.Omega.{arith}
use lib.ListN.{length, take, drop, length-take, length-drop, take-append-drop}
use lib.Seq.{take_at, drop-append-le}
use Rattle.playing.proofs.Joined.{ends}
use Rattle.playing.specs.Playing.{kept_of}
use Rattle.busline_records.proofs.Steps.{steady}
use Rattle.busline_records.specs.Printing.{roomy}
use Rattle.busline_records.specs.Transcript.{record_step, piece_of, said_by}
use Rattle.busline_records.specs.declared.Progress.{Progress}
use Rattle.playing.specs.declared.Said.{Said}
use Rattle.busline_player.specs.Turn.{turned_by}
use Rattle.busline_player.specs.declared.Turned.{Turned}

abbrev turned_as : Said Progress → ℕ → Turned
turned_as said kept = record { progress = said.progress; kept = kept; wrote = said.wrote; then = said.then }

-- b is the buffer, of which the first n bytes are at hand: the script; r are those that were moved
module _ (w : Progress) (b script : List ℕ) (n room r : ℕ) (said : Said Progress) (ep : script ≡ take n b)
    (es : said ≡ said_by (piece_of w script room) (length script)) (er : r ≡ min n (length b) - said.used) where
  here : said ≡ said_by (piece_of w (take n b) room) (length (take n b))
  here = es ∙ ap (λ (l : List ℕ). said_by (piece_of w l room) (length l)) ep

  -- what is left over is at the end of what was at hand
  over : (length (piece_of w (take n b) room).left ≤ length (take n b)) × (drop said.used (take n b) ≡ (piece_of w (take n b) room).left)
  unfolding piece_of
  over = let e = ends record_step steady (room / roomy) w (take n b) in rw (ap (λ (x : Said Progress). x.used) here) e

  long : r ≡ length (piece_of w (take n b) room).left
  long = omega (arith, over.0, length-take n b, ap (λ (x : Said Progress). x.used) here)

  pub answer : turned_as said r ≡ turned_by (piece_of w (take n b) room)
  answer = ap₂ turned_as here long

  pub text_over : (o after : List ℕ) → after ≡ (piece_of w script room).text ++ drop said.wrote o → after ≡ (piece_of w (take n b) room).text ++ drop said.wrote o
  text_over o after e = e ∙ ap (λ (l : List ℕ). (piece_of w l room).text ++ drop said.wrote o) ep

  pub left_over : (after : List ℕ) → after ≡ kept_of said.used r b → take r after ≡ (piece_of w (take n b) room).left
  left_over after ea =
      let t = take n b in
      let rest = drop said.used t in
      let l = length-take n b in
      let d = length-drop said.used t in
      let u = ap (λ (x : Said Progress). x.used) here in
      let m : length rest ≡ r = omega (arith, over.0) in
      let moved : take r (drop said.used b) ≡ rest =
      ap (λ (x : List ℕ). take r (drop said.used x)) (sym (take-append-drop n b))
      ∙ ap (take r) (drop-append-le said.used t (drop n b) (omega (arith, over.0)))
      ∙ take_at rest (drop n b) r m
      in
      ap (take r) (ea ∙ ap (λ (x : List ℕ). x ++ drop r b) moved) ∙ take_at rest (drop r b) r m ∙ over.1

  pub moved_over : (after : List ℕ) → after ≡ kept_of said.used r b → after ≡ kept_of (length (take n b) - r) r b
  moved_over after ea =
      let used : said.used ≡ length (take n b) - r =
      ap (λ (x : Said Progress). x.used) here ∙ ap (λ (k : ℕ). length (take n b) - k) (sym long)
      in
      ea ∙ ap (λ (k : ℕ). kept_of k r b) used
