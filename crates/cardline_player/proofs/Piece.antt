-- A turn is a piece of the script played: what `advance` promises is `piece_of` of the bytes at hand.
--   turn_piece   the line, what is kept, the bytes at hand afterwards, and how the script goes on
-- Assumes nothing.
use mathlib.Core.Path.{◌≡◌, refl, sym, ap, ap₂, ◌∙◌}
use mathlib.Core.List.{List, [], append-nil}
use Prim.Native.Nat.{ℕ, ◌+◌, min}
use native.Mathlib.Omega.{arith}
use lib.ListN.{length, take, drop, length-take, drop_of_length-le}
use lib.Seq.{drop-drop}
use Rattle.base.proofs.Cases.{clash}
use Rattle.cardline_player.proofs.Hand.{hand_long, hand_part}
use Rattle.cardline_player.specs.Turn.{at_hand, advanced_of, buffer_of}
use Rattle.cardline_records.proofs.Pieces.{steady}
use Rattle.cardline_looks.specs.Lines.{roomy}
use Rattle.cardline_records.specs.Makes.{card_made, make_said}
use Rattle.cardline_records.specs.Record.{asked_text, asked_buffers, asked_said, text_of, buffers_after, said_of}
use Rattle.cardline_records.specs.Transcript.{Kept, kept, record_step, piece_of}
use Rattle.cardline_records.specs.declared.Progress.{Progress}
use Rattle.card_record.specs.declared.Card.{Card}
use Rattle.cardline_script.specs.Reading.{Read, asked_of}
use Rattle.cardline_script.specs.declared.Asked.TheVariants.{Make, Go}
use Rattle.cardline_script.specs.declared.Halt.TheVariants as halt
use Rattle.cardline_script.specs.declared.Making.{Making}
use Rattle.playing.proofs.Turns.{kinds, none, goes, stops, waits}
use Rattle.playing.specs.Playing.{Played, behind, unplayed}
use Rattle.playing.specs.declared.Then.TheVariants.{Goes, Stops, Waits, NoRoom}
use Rattle.store.specs.Lent.{Lent}
use Rattle.std.specs.Prelude.{Result, Ok, Err}
use Rattle.base.specs.declared.Refusal.{Refusal}

-- a make does not wait, and where there is room there is room
make_settled : (w : Progress) (m : Making) (card : Card) (outcome : Result Unit Refusal) (n : ℕ)
    → ((make_said w m card outcome n).then ≡ Waits → ⊥) × ((make_said w m card outcome n).then ≡ NoRoom → ⊥)
make_settled w m card (Ok tt) n = (λ e. clash cc, λ e. clash cc)
make_settled w m card (Err refusal) n = (λ e. clash cc, λ e. clash cc)

module _ (s : List ℕ) (lent : Lent) (w : Progress) (n : ℕ) where
  -- a record that is waited for prints nothing and changes nothing
  Idle : Read → Type 0
  Idle a = (asked_text w a s lent ≡ []) × (asked_buffers w a s lent ≡ lent) × ((asked_said w a s lent n).progress ≡ w)

  idle : (a : Read) → (asked_said w a s lent n).then ≡ Waits → Idle a
  unfolding Idle asked_text asked_buffers asked_said
  idle (Err halt.More) e = (refl, refl, refl)
  idle (Err (halt.Stop stop)) e = clash cc
  idle (Ok (Make making)) e = absurd ((make_settled w making (card_made making s lent).card (card_made making s lent).making n).0 e)
  idle (Ok (Go going)) e = clash cc

  roomed : {P : Type 0} (a : Read) → (asked_said w a s lent n).then ≡ NoRoom → P
  unfolding asked_said
  roomed (Err halt.More) e = clash cc
  roomed (Err (halt.Stop stop)) e = clash cc
  roomed (Ok (Make making)) e = absurd ((make_settled w making (card_made making s lent).card (card_made making s lent).making n).1 e)
  roomed (Ok (Go going)) e = clash cc

-- a turn, with room for its line
module _ (w : Progress) (from to : ℕ) (buffer : List ℕ) (lent : Lent) where
  abbrev hand : List ℕ
  hand = at_hand from to buffer

  -- what the record at the front asks for, and the length of its line
  abbrev held : Read
  held = asked_of w.made hand

  abbrev long : ℕ
  long = length (asked_text w held hand lent)

  abbrev before : Kept
  before = kept w lent

  abbrev after : Kept
  after = kept (advanced_of w from to buffer lent roomy).progress (buffers_after w hand lent roomy)

  -- what `advance` promises of the line, of what is kept, of the bytes at hand and of how the script goes on
  abbrev pub turned : Played Kept
  turned = record {
    text = text_of w hand lent roomy;
    kept = after;
    left = at_hand (advanced_of w from to buffer lent roomy).from (advanced_of w from to buffer lent roomy).to (buffer_of w from to buffer lent roomy);
    then = (advanced_of w from to buffer lent roomy).then;
  }

  goes_turn : (said_of w hand lent roomy).then ≡ Goes → turned ≡ piece_of before hand
  unfolding record_step advanced_of buffer_of
  goes_turn e =
      let used = (said_of w hand lent roomy).used in
      let h = steady.takes before hand e in
      let i = steady.inside before hand e in
      let l = hand_long buffer from to in
      let m : min (from + used) to ≡ from + used = omega arith in
      rw e
      (ap₂ (λ (t s : List ℕ). record { text = t; kept = (record_step before hand).kept; left = s; then = NoRoom })
      (sym (append-nil (text_of w hand lent roomy)))
      (ap (λ (k : ℕ). drop k (take to buffer)) m ∙ sym (drop-drop used from (take to buffer)))
      ∙ ap (behind (text_of w hand lent roomy)) (sym (none record_step (record_step before hand).kept (drop used hand)))
      ∙ sym (goes record_step 0 before hand e))

  stops_turn : (said_of w hand lent roomy).then ≡ Stops → turned ≡ piece_of before hand
  unfolding record_step advanced_of buffer_of
  stops_turn e =
      rw e
      (ap (λ (s : List ℕ). record { text = text_of w hand lent roomy; kept = (record_step before hand).kept; left = s; then = Stops })
      (drop_of_length-le (take to buffer) {i = to} (omega (arith, length-take to buffer)))
      ∙ sym (stops record_step 0 before hand e))

  waits_turn : (said_of w hand lent roomy).then ≡ Waits → turned ≡ piece_of before hand
  unfolding record_step advanced_of buffer_of text_of buffers_after said_of Idle
  waits_turn e =
      let still = idle hand lent w long held e in
      rw (e, still.2, still.0, still.1)
      (ap (λ (s : List ℕ). unplayed before s Waits) (hand_part buffer from to) ∙ sym (waits record_step 0 before hand e))

  full_turn : (said_of w hand lent roomy).then ≡ NoRoom → turned ≡ piece_of before hand
  unfolding said_of
  full_turn e = roomed hand lent w long held e

  pub turn_piece : turned ≡ piece_of before hand
  turn_piece = kinds (said_of w hand lent roomy).then goes_turn stops_turn waits_turn full_turn
