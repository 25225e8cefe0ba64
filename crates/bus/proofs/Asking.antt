-- What a frame asks of a bus, and what the bus answers.
--   asked_answered   each kind of asking, answered, is what the definition of a frame says
--   asked_small      a command that is asked for has an index of six bits
-- Assumes nothing.
use mathlib.Core.Path.{◌≡◌, refl, sym, ap, ◌∙◌, subst}
use mathlib.Core.Bool.{Bool, true, false, false≢true}
use mathlib.Core.List.{List, [], ◌∷◌, map}
use Prim.Native.Nat.{ℕ, ◌≤◌}
use borrow.Author.Tests.{eqb-true}
use lib.Dec.{T, eqb, leb, leb→le}
use Rattle.base.proofs.Cases.{cases, both, both_left, both_right, guarded}
use Rattle.base.specs.Choice.{unless}
use Rattle.base.specs.Refusals.{by}
use Rattle.moves.specs.Indices.{among}
use Rattle.wire.specs.Frames.{framing_of, as_fields}
use Rattle.bus.specs.Bus.{count_of, cards_of, with_cards, bus_indices, refused_on, damaged_card, command_for, framed_on, bus_frame}
use Rattle.bus.specs.Hearing.{framing_asked, bus_asked, told_of}
use Rattle.bus.specs.declared.Asked.{Asked}
use Rattle.bus.specs.declared.Asked.TheVariants.{Command, Damaged, Refused}
use Rattle.bus.specs.declared.Bus.{Bus}
use Rattle.bus.specs.declared.Framed.{Framed as Answered}
use Rattle.std.specs.Prelude.{Result, Ok, Err}
use Rattle.base.specs.declared.Refusal.{Refusal}
use Rattle.wire.specs.declared.Fields.{Fields}

-- ---- answered
module _ (bus : Bus) where
  abbrev pub answered_to : Asked → Answered
  answered_to (Command index argument) = told_of bus index argument
  answered_to Damaged = refused_on (with_cards bus (map damaged_card (cards_of bus))) (by 3)
  answered_to (Refused refusal) = refused_on bus refusal

  by_index : (index argument : ℕ) (t : Bool)
      → answered_to (unless t (Refused (by 14)) (Command index argument)) ≡ unless t (refused_on bus (by 14)) (told_of bus index argument)
  by_index index argument true = refl
  by_index index argument false = refl

  by_crc : (index argument : ℕ) (right : Bool) → answered_to (framing_asked (Ok (as_fields index argument right))) ≡ framed_on bus (Ok (as_fields index argument right))
  unfolding command_for told_of
  by_crc index argument true = by_index index argument (among index bus_indices)
  by_crc index argument false = refl

  by_framing : (framing : Result Fields Refusal) → answered_to (framing_asked framing) ≡ framed_on bus framing
  by_framing (Err refusal) = refl
  by_framing (Ok fields) = by_crc fields.index fields.argument fields.crc_right

  by_count : (framing : Result Fields Refusal) (t : Bool)
      → answered_to (unless t (Refused (by 13)) (framing_asked framing)) ≡ unless t (refused_on bus (by 13)) (framed_on bus framing)
  by_count framing true = by_framing framing
  by_count framing false = refl

  whole : (frame : List ℕ) → answered_to (bus_asked (count_of bus) frame) ≡ bus_frame bus frame
  unfolding bus_asked bus_frame
  whole frame = by_count (framing_of frame) (leb 1 (count_of bus))

  pub asked_answered : (frame : List ℕ) (count : ℕ) (asked kind : Asked) → count ≡ count_of bus → asked ≡ bus_asked count frame → asked ≡ kind
      → answered_to kind ≡ bus_frame bus frame
  asked_answered frame count asked kind n e is =
      ap answered_to (sym is ∙ e ∙ ap (λ (k : ℕ). bus_asked k frame) n) ∙ whole frame

-- ---- small
abbrev six_bits : List ℕ → Bool
six_bits [] = true
six_bits (k ∷ ks) = both (leb k 63) (six_bits ks)

listed_small : (i : ℕ) (l : List ℕ) → T (six_bits l) → among i l ≡ true → i ≤ 63
listed_small i [] t e = absurd (false≢true e)
listed_small i (k ∷ ks) t e =
    cases (eqb i k)
    (λ (h : eqb i k ≡ true). rw (eqb-true i k h) (leb→le k 63 (both_left (leb k 63) (six_bits ks) t)))
    (λ (h : eqb i k ≡ false). listed_small i ks (both_right (leb k 63) (six_bits ks) t) (simp h at e))

abbrev Small : Asked → Type 0
Small (Command index argument) = index ≤ 63
Small Damaged = Unit {0}
Small (Refused refusal) = Unit {0}

framing_small : (framing : Result Fields Refusal) → Small (framing_asked framing)
framing_small (Err refusal) = tt
framing_small (Ok fields) =
    guarded Small fields.crc_right (λ t. tt) (λ t. guarded Small (among fields.index bus_indices) (λ u. tt) (λ u. listed_small fields.index bus_indices tt u))

pub asked_small : (count : ℕ) (frame : List ℕ) (asked : Asked) (index argument : ℕ) → asked ≡ bus_asked count frame
    → asked ≡ Command index argument → index ≤ 63
unfolding bus_asked
asked_small count frame asked index argument e is =
    subst Small (sym e ∙ is) (guarded Small (leb 1 count) (λ t. tt) (λ t. framing_small (framing_of frame)))
