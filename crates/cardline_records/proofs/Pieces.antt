-- A script played piece by piece.
--   wrote    the length that a record tells is that of its line
--   steady   a record that goes on has a byte or more, all of them at hand; one that is whole stays the same, whatever stands behind it
--   pieces   so a piece played, and then more bytes behind what it left over, is both played at once
--   told     and what was printed turn by turn, once the script stopped or its bytes ended, is the transcript of the whole
--   few      where a record is not whole yet, fewer bytes are at hand than the longest record has
-- Assumes nothing.
use mathlib.Core.Path.{◌≡◌, refl}
use mathlib.Core.Logic.{◌⊎◌, inl, inr}
use mathlib.Core.Bool.{true, false}
use mathlib.Core.List.{List, [], ◌++◌}
use Prim.Native.Nat.{ℕ, ◌+◌, ◌≤◌, ◌<◌}
use native.Mathlib.Omega.{arith}
use lib.Dec.{leb}
use lib.ListN.{length}
use Rattle.base.proofs.Cases.{cases, clash}
use Rattle.std.specs.Prelude.{Ok, Err, Result}
use Rattle.cardline_looks.specs.Lines.{roomy}
use Rattle.cardline_records.proofs.Reading.{same_text, same_buffers, same_said}
use Rattle.cardline_records.specs.Makes.{card_made, make_said}
use Rattle.cardline_records.specs.Record.{asked_text, asked_said, text_of, buffers_after, said_of}
use Rattle.cardline_records.specs.Transcript.{Kept, record_step, fresh_kept, closed, transcript}
use Rattle.cardline_records.specs.Progress.{fresh_progress}
use Rattle.cardline_records.specs.declared.Progress.{Progress}
use Rattle.card_record.specs.declared.Card.{Card}
use Rattle.cardline_script.proofs.Whole.{Bytes, stays, inside, short}
use Rattle.cardline_script.specs.Reading.{Read, asked_of}
use Rattle.cardline_script.specs.Whole.{waits, used_by, used_looked, used_wiring, used_going, used_asked, longest_record}
use Rattle.cardline_script.specs.declared.Asked.TheVariants.{Make, Go}
use Rattle.cardline_script.specs.declared.Halt.TheVariants as halt
use Rattle.cardline_script.specs.declared.Calling.{Calling}
use Rattle.cardline_script.specs.declared.Calling.TheVariants as calling
use Rattle.cardline_script.specs.declared.Going.{Going}
use Rattle.cardline_script.specs.declared.Going.TheVariants.{Call, Look, Wire}
use Rattle.cardline_script.specs.declared.Looking.{Looking}
use Rattle.cardline_script.specs.declared.Looking.TheVariants as looking
use Rattle.cardline_script.specs.declared.Making.{Making}
use Rattle.cardline_script.specs.declared.Wiring.{Wiring}
use Rattle.cardline_script.specs.declared.Wiring.TheVariants as wiring
use Rattle.playing.proofs.Joined.{Steady, joined, stopped_whole, waited_whole}
use Rattle.playing.specs.Playing.{Played, unplayed, played_of, next_piece, fed_all, all_of}
use Rattle.playing.specs.declared.Then.TheVariants.{Goes, Stops, Waits, NoRoom}
use Rattle.store.specs.Lent.{Lent}
use Rattle.base.specs.declared.Refusal.{Refusal}

-- each kind of record has a byte or more
call_uses : (c : Calling) → 1 ≤ used_by c
call_uses (calling.Frame n selected) = omega arith
call_uses (calling.BlockIn n) = omega arith
call_uses (calling.BlockOut n) = omega arith
call_uses calling.WorkDone = omega arith
call_uses calling.PowerOn = omega arith

look_uses : (l : Looking) → 1 ≤ used_looked l
look_uses looking.Card = omega arith
look_uses looking.Mode = omega arith
look_uses (looking.Memory from n) = omega arith
look_uses (looking.Lend sizes) = omega arith
look_uses (looking.Poke entry value) = omega arith

wire_uses : (l : Wiring) → 1 ≤ used_wiring l
wire_uses (wiring.Frame index argument room) = omega arith
wire_uses (wiring.Block n room) = omega arith
wire_uses (wiring.Check n) = omega arith

going_takes : (g : Going) → 1 ≤ used_going g
going_takes (Call calling) = call_uses calling
going_takes (Look looking) = look_uses looking
going_takes (Wire wiring) = wire_uses wiring

-- what is said of a record that goes on: it used what it asked for
module _ (w : Progress) (m : Making) (card : Card) (n : ℕ) where
  make_used : (outcome : Result Unit Refusal) → (make_said w m card outcome n).then ≡ Goes → (make_said w m card outcome n).used ≡ m.map + 43 + m.password
  make_used (Ok tt) e = refl
  make_used (Err refusal) e = clash cc

  make_settled : (outcome : Result Unit Refusal) → (make_said w m card outcome n).then ≡ Waits → ⊥
  make_settled (Ok tt) e = clash cc
  make_settled (Err refusal) e = clash cc

  make_wrote : (outcome : Result Unit Refusal) → (make_said w m card outcome n).wrote ≡ n
  make_wrote (Ok tt) = refl
  make_wrote (Err refusal) = refl

module _ (s : List ℕ) (buffers : Lent) (w : Progress) (n : ℕ) where
  asked_used : (a : Read) → (asked_said w a s buffers n).then ≡ Goes → (asked_said w a s buffers n).used ≡ used_asked a
  unfolding asked_said
  asked_used (Err halt.More) e = clash cc
  asked_used (Err (halt.Stop stop)) e = clash cc
  asked_used (Ok (Make making)) e = make_used w making (card_made making s buffers).card n (card_made making s buffers).making e
  asked_used (Ok (Go going)) e = refl

  asked_takes : (a : Read) → (asked_said w a s buffers n).then ≡ Goes → 1 ≤ used_asked a
  unfolding asked_said
  asked_takes (Err halt.More) e = clash cc
  asked_takes (Err (halt.Stop stop)) e = clash cc
  asked_takes (Ok (Make making)) e = omega arith
  asked_takes (Ok (Go going)) e = going_takes going

  asked_whole : (a : Read) → ((asked_said w a s buffers n).then ≡ Waits → ⊥) → waits a ≡ false
  unfolding asked_said
  asked_whole (Err halt.More) not = absurd (not refl)
  asked_whole (Err (halt.Stop stop)) not = refl
  asked_whole (Ok (Make making)) not = refl
  asked_whole (Ok (Go going)) not = refl

  asked_waits : (a : Read) → (asked_said w a s buffers n).then ≡ Waits → waits a ≡ true
  unfolding asked_said
  asked_waits (Err halt.More) e = refl
  asked_waits (Err (halt.Stop stop)) e = clash cc
  asked_waits (Ok (Make making)) e = absurd (make_settled w making (card_made making s buffers).card n (card_made making s buffers).making e)
  asked_waits (Ok (Go going)) e = clash cc

asked_wrote : (w : Progress) (s : List ℕ) (buffers : Lent) (a : Read)
    → (asked_said w a s buffers (length (asked_text w a s buffers))).wrote ≡ length (asked_text w a s buffers)
unfolding asked_said asked_text
asked_wrote w s buffers (Err halt.More) = refl
asked_wrote w s buffers (Err (halt.Stop stop)) = refl
asked_wrote w s buffers (Ok (Make making)) = make_wrote w making (card_made making s buffers).card _ (card_made making s buffers).making
asked_wrote w s buffers (Ok (Go going)) = refl

pub wrote : (w : Progress) (s : List ℕ) (buffers : Lent) (room : ℕ) → (said_of w s buffers room).wrote ≡ length (text_of w s buffers room)
unfolding said_of text_of
wrote w s buffers room =
    cases (leb roomy room)
    (λ (t : leb roomy room ≡ true). rw t (asked_wrote w s buffers (asked_of w.made s)))
    (λ (t : leb roomy room ≡ false). rw t)

-- the record at hand, and the length of its line
abbrev held_by : Kept → List ℕ → Read
held_by k s = asked_of k.progress.made s

abbrev long_by : Kept → List ℕ → ℕ
long_by k s = length (asked_text k.progress (held_by k s) s k.buffers)

stands : (k : Kept) (s t : List ℕ) → ((record_step k s).then ≡ Waits → ⊥) → record_step k (s ++ t) ≡ record_step k s
unfolding record_step text_of buffers_after said_of
stands k s t not =
    let w = k.progress in
    let a = held_by k s in
    let h : used_asked a ≤ length s = inside w.made s in
    rw (
      stays w.made s t (asked_whole s k.buffers w (long_by k s) a not),
      same_text s t k.buffers w a h,
      same_buffers s t k.buffers w a h,
      same_said s t k.buffers w a (long_by k s) h,
    )

pub steady : Steady record_step
unfolding record_step said_of
steady = record {
  takes = λ k s e.
      let u = asked_used s k.buffers k.progress (long_by k s) (held_by k s) e in
      let i = asked_takes s k.buffers k.progress (long_by k s) (held_by k s) e in
      omega arith;
  inside = λ k s e.
      let u = asked_used s k.buffers k.progress (long_by k s) (held_by k s) e in
      let i = inside k.progress.made s in
      omega arith;
  stays = stands;
}

pub pieces : (k : Kept) (a b : List ℕ) → played_of record_step k (a ++ b) ≡ next_piece record_step (played_of record_step k a) b
pieces k a b = joined record_step steady b k a

-- an empty script waits for its first record
empty : (record_step fresh_kept []).then ≡ Waits
unfolding record_step said_of asked_of asked_said fresh_progress
empty = refl

-- the pieces ps of a script: one record at most is played at a turn, and where it was whole the next turn reads nothing, an empty piece
module _ (ps : List (List ℕ)) where
  abbrev pub fed_in : Played Kept
  fed_in = fed_all record_step 1 (unplayed fresh_kept [] Waits) ps

  pub told : (fed_in.then ≡ Stops) ⊎ (fed_in.then ≡ Waits) → closed fed_in ≡ transcript (all_of ps)
  unfolding transcript
  told (inl e) = rw (stopped_whole record_step steady 1 fresh_kept ps empty e)
  told (inr e) = rw (waited_whole record_step steady 1 fresh_kept ps empty e)

pub few : (w : Progress) (s : List ℕ) (buffers : Lent) (room : ℕ) → Bytes s → (said_of w s buffers room).then ≡ Waits → length s < longest_record
unfolding said_of
few w s buffers room bytes e =
    let a = asked_of w.made s in
    cases (leb roomy room)
    (λ (t : leb roomy room ≡ true). short w.made s bytes (asked_waits s buffers w (length (asked_text w a s buffers)) a (rw t at e)))
    (λ (t : leb roomy room ≡ false). let n : NoRoom ≡ Waits = rw t at e in clash cc)
