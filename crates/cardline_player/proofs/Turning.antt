-- Laws of a turn, from what its parts answer.
--   turn_answer, turn_buffer, turn_lent, turn_text   the record at the front of what is at hand
--   turn_room   a record that is not whole yet leaves fewer bytes at hand than the longest has: there is room to read more
-- Assumes nothing.
use mathlib.Core.Path.{◌≡◌, refl, sym, ap, ap₂, ◌∙◌}
use mathlib.Core.Bool.{true, false}
use mathlib.Core.List.{List, ◌++◌}
use Prim.Native.Nat.{ℕ, ◌+◌, ◌-◌, ◌<◌, min}
use native.Mathlib.Omega.{arith}
use borrow.Author.Tests.{ltb-true, ltb-false}
use lib.Dec.{ltb}
use lib.ListN.{length, take, drop, get_or, length-take, get_or-eq_default}
use lib.Seq.{get_or-drop, get_or-take}
use Rattle.base.proofs.Cases.{cases, clash}
use Rattle.cardline_player.proofs.Hand.{hand_long}
use Rattle.cardline_player.specs.Turn.{at_hand, buffer_by, turned_by, advanced_of, buffer_of}
use Rattle.cardline_player.specs.declared.Turned.{Turned}
use Rattle.cardline_records.proofs.Pieces.{few}
use Rattle.cardline_records.specs.Record.{text_of, buffers_after, said_of}
use Rattle.cardline_records.specs.declared.Progress.{Progress}
use Rattle.playing.specs.declared.Said.{Said}
use Rattle.cardline_script.proofs.Whole.{Bytes}
use Rattle.cardline_script.specs.Whole.{longest_record}
use Rattle.playing.specs.declared.Then.{Then}
use Rattle.playing.specs.declared.Then.TheVariants.{Goes, Stops, Waits, NoRoom}
use Rattle.store.specs.Lent.{Lent}

turned_wrote : (t : Then) (said : Said Progress) (from to n : ℕ) → (turned_by t said from to n).wrote ≡ said.wrote
turned_wrote Goes said from to n = refl
turned_wrote Stops said from to n = refl
turned_wrote Waits said from to n = refl
turned_wrote NoRoom said from to n = refl

-- only one that waits is told to wait, and then the bytes at hand are all that is left
turned_waits : (t : Then) (said : Said Progress) (from to n : ℕ) → (turned_by t said from to n).then ≡ Waits → (t ≡ Waits) × ((turned_by t said from to n).to ≡ n)
turned_waits Goes said from to n e = clash cc
turned_waits Stops said from to n e = clash cc
turned_waits Waits said from to n e = (refl, refl)
turned_waits NoRoom said from to n e = clash cc

hand_bytes : (s : List ℕ) (from to : ℕ) → Bytes s → Bytes (at_hand from to s)
hand_bytes s from to bytes i =
    let h = bytes (from + i) in
    let l = length-take to s in
    rw (get_or-drop from (take to s) i 0)
    (cases (ltb (from + i) to)
    (λ (t : ltb (from + i) to ≡ true). let k = ltb-true (from + i) to t in rw (get_or-take to s (from + i) 0 k) h)
    (λ (t : ltb (from + i) to ≡ false). let k = ltb-false (from + i) to t in let z : get_or (take to s) (from + i) 0 ≡ 0 = get_or-eq_default (take to s) 0 (omega arith) in omega arith))

-- hand is what is at hand, as it was read, and said what is said of the record at its front
module _ (w : Progress) (from to : ℕ) (buffer : List ℕ) (lent : Lent) (room : ℕ) (hand : List ℕ) (said : Said Progress) (eh : hand ≡ at_hand from to buffer)
    (es : said ≡ said_of w hand lent room) where
  here : said ≡ said_of w (at_hand from to buffer) lent room
  here = es ∙ ap (λ (l : List ℕ). said_of w l lent room) eh

  pub turn_buffer : (b : List ℕ) → b ≡ buffer_by said.then from (min to (length buffer) - from) buffer → b ≡ buffer_of w from to buffer lent room
  unfolding buffer_of
  turn_buffer b e = e ∙ ap (λ (x : Said Progress). buffer_by x.then from (min to (length buffer) - from) buffer) here

  pub turn_lent : (l : Lent) → l ≡ buffers_after w hand lent room → l ≡ buffers_after w (at_hand from to buffer) lent room
  turn_lent l e = e ∙ ap (λ (h : List ℕ). buffers_after w h lent room) eh

  module _ (r : Turned) (er : r ≡ turned_by said.then said from to (min to (length buffer) - from)) where
    pub turn_answer : r ≡ advanced_of w from to buffer lent room
    unfolding advanced_of
    turn_answer = er ∙ ap (λ (x : Said Progress). turned_by x.then x from to (min to (length buffer) - from)) here

    pub turn_text : (before out : List ℕ) → out ≡ text_of w hand lent room ++ drop said.wrote before
        → out ≡ text_of w (at_hand from to buffer) lent room ++ drop r.wrote before
    turn_text before out e =
        e
        ∙ ap₂ (λ (l : List ℕ) (k : ℕ). text_of w l lent room ++ drop k before) eh
        (sym (ap (λ (x : Turned). x.wrote) er ∙ turned_wrote said.then said from to (min to (length buffer) - from)))

    pub turn_room : Bytes buffer → r.then ≡ Waits → r.to < longest_record
    turn_room bytes e =
        let n = min to (length buffer) - from in
        let t = turned_waits said.then said from to n (sym (ap (λ (x : Turned). x.then) er) ∙ e) in
        let f = few w (at_hand from to buffer) lent room (hand_bytes buffer from to bytes) (sym (ap (λ (x : Said Progress). x.then) here) ∙ t.0) in
        let k = ap (λ (x : Turned). x.to) er ∙ t.1 in
        let l = hand_long buffer from to in
        omega arith
