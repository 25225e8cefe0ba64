-- What a record asks for does not change when bytes are added behind it, unless it waits for them.
--   asked_long   a record that is carried out is there whole
--   uses         one behind which the script goes on takes a byte or more, and no more than there are
--   stays        one that does not wait is carried out in the same way, whatever is added behind it
--   pieces       so a piece played, and then the next behind what it left over, is the two played as one
--   few          a record is waited for where at most 15 bytes are at hand, so a buffer of more is never full
--   empty        where there are no bytes a record is waited for
-- so that `transcript` is what is printed of a script, whatever pieces it is read in:
--   read_to_end    to the end of the input, with what is said of the bytes left over
--   read_to_stop   to a record at which the script stops
-- Assumes nothing.
use mathlib.Core.Path.{◌≡◌, refl, sym, ap, ◌∙◌}
use mathlib.Core.Bool.{true, false}
use mathlib.Core.List.{List, [], ◌∷◌, ◌++◌}
use Prim.Native.Nat.{ℕ, ◌+◌, ◌≤◌}
use native.Mathlib.Omega.{arith}
use borrow.Author.Tests.{le-leb, leb-false, lt-ltb, ltb-true, ltb-false}
use lib.Dec.{eqb, leb, ltb}
use lib.ListN.{length, take, drop, get_or, replicate, length-append, length-drop}
use lib.Seq.{take-append-le, drop-append-le}
use Rattle.base.proofs.Cases.{cases, picked, guarded, clash}
use Rattle.base.specs.Output.{copied}
use Rattle.bus.specs.Bus.{added_to}
use Rattle.card_record.specs.declared.Card.{Card}
use Rattle.playing.proofs.Joined.{Steady, joined, stopped_whole, waited_whole}
use Rattle.playing.specs.Playing.{Step, unplayed, played_of, next_piece, fed_all, all_of}
use Rattle.playing.specs.declared.Then.TheVariants.{Goes, Stops, Waits}
use Rattle.busline_records.specs.Cards.{made_with, card_made}
use Rattle.busline_records.specs.Printing.{added_text}
use Rattle.busline_records.specs.Reading.{complete, kind_asked, asked_of, register_of}
use Rattle.busline_records.specs.Record.{fresh_progress, gone_on, card_text, card_said, frame_text, frame_said, asked_text, asked_said}
use Rattle.busline_records.specs.Transcript.{step_by, record_step, closed, transcript}
use Rattle.busline_records.specs.declared.Asked.{Asked}
use Rattle.busline_records.specs.declared.Asked.TheVariants.{Card as OfCard, Frame, BadKind, More}
use Rattle.busline_records.specs.declared.Progress.{Progress}

-- the bytes of a record that is carried out
abbrev bytes_of : Asked → ℕ
bytes_of OfCard = 16
bytes_of Frame = 7
bytes_of BadKind = 0
bytes_of More = 0

abbrev Held : List ℕ → Asked → Type 0
Held s asked = bytes_of asked ≤ length s

pub asked_long : (s : List ℕ) → bytes_of (asked_of s) ≤ length s
unfolding asked_of
asked_long s =
    guarded (Held s) (leb 1 (length s)) (λ (t : leb 1 (length s) ≡ false). omega arith)
    (λ (t : leb 1 (length s) ≡ true).
    picked (Held s) (eqb (get_or s 0 0) 1)
    (λ (k : eqb (get_or s 0 0) 1 ≡ true).
    guarded (Held s) (ltb 15 (length s)) (λ (u : ltb 15 (length s) ≡ false). omega arith)
    (λ (u : ltb 15 (length s) ≡ true). omega (arith, ltb-true 15 (length s) u)))
    (λ (k : eqb (get_or s 0 0) 1 ≡ false).
    picked (Held s) (eqb (get_or s 0 0) 2)
    (λ (l : eqb (get_or s 0 0) 2 ≡ true).
    guarded (Held s) (ltb 6 (length s)) (λ (u : ltb 6 (length s) ≡ false). omega arith)
    (λ (u : ltb 6 (length s) ≡ true). omega (arith, ltb-true 6 (length s) u)))
    (λ (l : eqb (get_or s 0 0) 2 ≡ false). omega arith)))

asked_uses : (w : Progress) (s : List ℕ) (asked : Asked) → bytes_of asked ≤ length s → (asked_said w asked s).then ≡ Goes
    → (1 ≤ (asked_said w asked s).used) × ((asked_said w asked s).used ≤ length s)
unfolding asked_said card_said frame_said
asked_uses w s OfCard h e = (omega arith, h)
asked_uses w s Frame h e = (omega arith, h)
asked_uses w s BadKind h e = clash cc
asked_uses w s More h e = clash cc

pub uses : (w : Progress) (s : List ℕ) → (record_step w s).then ≡ Goes → (1 ≤ (record_step w s).used) × ((record_step w s).used ≤ length s)
unfolding record_step
uses w s e = asked_uses w s (asked_of s) (asked_long s) e

none : asked_of [] ≡ More
unfolding asked_of
none = refl

-- a body that is there whole
complete_stays : (body : ℕ) (s more : List ℕ) (asked : Asked) → (complete body s asked ≡ More → ⊥) → complete body (s ++ more) asked ≡ complete body s asked
complete_stays body s more asked h =
    cases (ltb body (length s))
    (λ (t : ltb body (length s) ≡ true).
    let a = length-append s more in
    let l = ltb-true body (length s) t in
    rw (t, lt-ltb body (length (s ++ more)) (omega arith)) refl)
    (λ (t : ltb body (length s) ≡ false). absurd (h (rw t refl)))

kind_stays : (kind : ℕ) (s more : List ℕ) → (kind_asked kind s ≡ More → ⊥) → kind_asked kind (s ++ more) ≡ kind_asked kind s
kind_stays kind s more h =
    cases (eqb kind 1)
    (λ (k : eqb kind 1 ≡ true). rw k (complete_stays 15 s more OfCard (λ (e : complete 15 s OfCard ≡ More). h (rw k e))))
    (λ (k : eqb kind 1 ≡ false).
    cases (eqb kind 2)
    (λ (l : eqb kind 2 ≡ true). rw (k, l) (complete_stays 6 s more Frame (λ (e : complete 6 s Frame ≡ More). h (rw (k, l) e))))
    (λ (l : eqb kind 2 ≡ false). rw (k, l) refl))

some : (a : ℕ) (s : List ℕ) → asked_of (a ∷ s) ≡ kind_asked a (a ∷ s)
unfolding asked_of
some a s = rw (le-leb 1 (length (a ∷ s)) (omega arith)) refl

asked_stays : (s more : List ℕ) → (asked_of s ≡ More → ⊥) → asked_of (s ++ more) ≡ asked_of s
asked_stays [] more h = absurd (h none)
asked_stays (a ∷ s) more h =
    some a (s ++ more) ∙ kind_stays a (a ∷ s) more (λ (e : kind_asked a (a ∷ s) ≡ More). h (some a s ∙ e)) ∙ sym (some a s)

body_stays : (n : ℕ) (s more : List ℕ) → 1 + n ≤ length s → take n (drop 1 (s ++ more)) ≡ take n (drop 1 s)
body_stays n s more h =
    let d = length-drop 1 s in
    ap (take n) (drop-append-le 1 s more (omega arith)) ∙ take-append-le n (drop 1 s) more (omega arith)

made_stays : (s more : List ℕ) → 16 ≤ length s → card_made (s ++ more) ≡ card_made s
unfolding card_made
made_stays s more h = ap (λ (body : List ℕ). (made_with (register_of (copied body (replicate 15 0) 0))).card) (body_stays 15 s more h)

-- a record of kind 01, by its card
abbrev added_step : Progress → Card → Step Progress
added_step w card =
    let added = added_to w.bus card in
    step_by (added_text added.adding) (gone_on (record { bus = added.bus; count = w.count }) 16 (added_text added.adding))

step_stays : (w : Progress) (s more : List ℕ) (asked : Asked) → bytes_of asked ≤ length s
    → step_by (asked_text w asked (s ++ more)) (asked_said w asked (s ++ more)) ≡ step_by (asked_text w asked s) (asked_said w asked s)
unfolding asked_text asked_said card_text card_said frame_text frame_said
step_stays w s more OfCard h = ap (added_step w) (made_stays s more h)
step_stays w s more Frame h = rw (body_stays 6 s more h) refl
step_stays w s more BadKind h = refl
step_stays w s more More h = refl

waits : (w : Progress) (s : List ℕ) → asked_of s ≡ More → (record_step w s).then ≡ Waits
unfolding record_step asked_said
waits w s e = rw e refl

pub stays : (w : Progress) (s more : List ℕ) → ((record_step w s).then ≡ Waits → ⊥) → record_step w (s ++ more) ≡ record_step w s
unfolding record_step
stays w s more h =
    ap (λ (asked : Asked). step_by (asked_text w asked (s ++ more)) (asked_said w asked (s ++ more)))
    (asked_stays s more (λ (e : asked_of s ≡ More). h (waits w s e)))
    ∙ step_stays w s more (asked_of s) (asked_long s)

pub steady : Steady record_step
steady = record { takes = λ w s e. (uses w s e).0; inside = λ w s e. (uses w s e).1; stays = stays }

pub pieces : (w : Progress) (a b : List ℕ) → played_of record_step w (a ++ b) ≡ next_piece record_step (played_of record_step w a) b
pieces w a b = joined record_step steady b w a

-- what is said where too few bytes are there
abbrev Few : List ℕ → Asked → Type 0
Few s asked = asked ≡ More → length s ≤ 15

few_of : (n : ℕ) (s : List ℕ) (asked : Asked) → n ≤ 15 → (asked ≡ More → ⊥) → Few s (complete n s asked)
few_of n s asked h not =
    guarded (Few s) (ltb n (length s)) (λ (t : ltb n (length s) ≡ false) (e : More ≡ More). omega (arith, ltb-false n (length s) t))
    (λ (t : ltb n (length s) ≡ true) (e : asked ≡ More). absurd (not e))

asked_few : (s : List ℕ) → Few s (asked_of s)
unfolding asked_of
asked_few s =
    guarded (Few s) (leb 1 (length s)) (λ (t : leb 1 (length s) ≡ false) (e : More ≡ More). omega (arith, leb-false 1 (length s) t))
    (λ (t : leb 1 (length s) ≡ true).
    picked (Few s) (eqb (get_or s 0 0) 1)
    (λ (k : eqb (get_or s 0 0) 1 ≡ true). few_of 15 s OfCard (omega arith) (λ (e : OfCard ≡ More). clash cc))
    (λ (k : eqb (get_or s 0 0) 1 ≡ false).
    picked (Few s) (eqb (get_or s 0 0) 2)
    (λ (l : eqb (get_or s 0 0) 2 ≡ true). few_of 6 s Frame (omega arith) (λ (e : Frame ≡ More). clash cc))
    (λ (l : eqb (get_or s 0 0) 2 ≡ false) (e : BadKind ≡ More). clash cc)))

asked_waits : (w : Progress) (s : List ℕ) (asked : Asked) → (asked_said w asked s).then ≡ Waits → asked ≡ More
unfolding asked_said card_said frame_said
asked_waits w s OfCard e = clash cc
asked_waits w s Frame e = clash cc
asked_waits w s BadKind e = clash cc
asked_waits w s More e = refl

pub few : (w : Progress) (s : List ℕ) → (record_step w s).then ≡ Waits → length s ≤ 15
unfolding record_step
few w s e = asked_few s (asked_waits w s (asked_of s) e)

pub empty : (w : Progress) → (record_step w []).then ≡ Waits
empty w = waits w [] none

-- n records at a turn
module _ (n : ℕ) (pieces : List (List ℕ)) where
  pub read_to_end : (fed_all record_step n (unplayed fresh_progress [] Waits) pieces).then ≡ Waits
      → closed (fed_all record_step n (unplayed fresh_progress [] Waits) pieces) ≡ transcript (all_of pieces)
  unfolding transcript
  read_to_end e = ap closed (waited_whole record_step steady n fresh_progress pieces (empty fresh_progress) e)

  pub read_to_stop : (fed_all record_step n (unplayed fresh_progress [] Waits) pieces).then ≡ Stops
      → closed (fed_all record_step n (unplayed fresh_progress [] Waits) pieces) ≡ transcript (all_of pieces)
  unfolding transcript
  read_to_stop e = ap closed (stopped_whole record_step steady n fresh_progress pieces (empty fresh_progress) e)
