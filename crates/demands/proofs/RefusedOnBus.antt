-- Demand 1 of a bus, refused by number: a refused frame gives one of its numbers, leaves the bus that document 01 names for that number
-- and shows nothing on the line; a card that is refused leaves the bus as it was. For every bus, of any records.
--   frame_by_number    a frame for all cards
--   add_by_number      a card that is added
--   each_given         each of the numbers is given, on a bus of 0, 1 or 30 cards
-- Assumes nothing.
use mathlib.Core.Path.{◌≡◌, refl, sym, ap, ap₂, subst}
use mathlib.Core.Bool.{Bool, true, false}
use mathlib.Core.List.{List, [], ◌∷◌, map}
use Prim.Native.Nat.{ℕ}
use lib.Dec.{eqb, leb, ltb}
use lib.ListN.{length, take, replicate}
use Rattle.base.proofs.Cases.{cases, guarded, clash}
use Rattle.base.specs.Refusals.{number_of, by}
use Rattle.base.specs.declared.Refusal.{Refusal}
use Rattle.bus.specs.Bus.{most, count_of, cards_of, with_cards, added_to, damaged_card, line_of, shown_of, bus_indices, refused_on, command_for, framed_on, bus_frame}
use Rattle.bus.specs.declared.Added.{Added}
use Rattle.bus.specs.declared.Bus.{Bus}
use Rattle.bus.specs.declared.Framed.{Framed as Answered}
use Rattle.command.specs.Command.{damaged_link}
use Rattle.crc.specs.Bits.{bits}
use Rattle.crc.specs.Crc.{divide, remainder}
use Rattle.moves.specs.Indices.{among}
use Rattle.card_record.specs.Making.{refused_make}
use Rattle.card_record.specs.declared.Card.{Card}
use Rattle.spi.proofs.Laws.{is_inactive}
use Rattle.wire.specs.Frames.{crc7_of, field, fields_of, framing_of, as_fields}
use Rattle.demands.specs.Refused.{damaged}
use Rattle.demands.specs.RefusedOnBus.{frame_numbers, add_numbers, named_bus, RefusesFrame, FrameByNumber, RefusesCard, AddByNumber}
use Rattle.std.specs.Prelude.{Result, Ok, Err}
use Rattle.wire.specs.declared.Fields.{Fields}

-- ---- a frame
-- "3 sets bit 23 .. of every card, unless Inactive", and of none in SPI
damaged_one : (card : Card) → damaged_card card ≡ damaged false card
unfolding damaged_link
damaged_one card =
    cases card.mode.spi
    (λ (here : card.mode.spi ≡ true). cases (is_inactive card.link)
    (λ (t : is_inactive card.link ≡ true). simp (here, t)) (λ (t : is_inactive card.link ≡ false). simp (here, t)))
    (λ (here : card.mode.spi ≡ false). cases (is_inactive card.link)
    (λ (t : is_inactive card.link ≡ true). simp (here, t)) (λ (t : is_inactive card.link ≡ false). simp (here, t)))

damaged_each : (cards : List Card) → map damaged_card cards ≡ map (damaged false) cards
damaged_each [] = refl
damaged_each (card ∷ cards) = ap₂ (λ (c : Card) (l : List Card). c ∷ l) (damaged_one card) (damaged_each cards)

module _ (bus : Bus) (r : Refusal) where
  -- what is known of an answer that is a refusal
  pub record Left (given : Answered) : Type 0 where
    pub number : among (number_of r) frame_numbers ≡ true
    pub next : given.bus ≡ named_bus (number_of r) bus
    pub unshown : given.line ≡ replicate 17 0

  abbrev Leaves : Answered → Type 0
  Leaves given = given.shown ≡ Err r → Left given

  left : (given : Refusal) (after : Bus) → among (number_of given) frame_numbers ≡ true → after ≡ named_bus (number_of given) bus
      → Leaves (refused_on after given)
  left given after listed is e =
      let same : given ≡ r = cc in
      record {
        number = subst (λ (q : Refusal). among (number_of q) frame_numbers ≡ true) same listed;
        next = subst (λ (q : Refusal). after ≡ named_bus (number_of q) bus) same is;
        unshown = refl;
      }

  -- what the line shows is no refusal
  shows : (line : List ℕ) → shown_of line ≡ Err r → ⊥
  shows [] e = clash cc
  shows (b ∷ line) e = clash cc

  commanded : (index argument : ℕ) → Leaves (command_for bus index argument)
  unfolding command_for
  commanded index argument =
      guarded Leaves (among index bus_indices) (λ t. left (by 14) bus refl refl) (λ t e. absurd (shows (line_of (cards_of bus) index argument) e))

  abbrev Hears : Result Fields Refusal → Type 0
  Hears framing = Leaves (framed_on bus framing)

  by_crc : (index argument : ℕ) (right : Bool) → Hears (Ok (as_fields index argument right))
  by_crc index argument right =
      guarded Leaves right (λ t. left (by 3) (with_cards bus (map damaged_card (cards_of bus))) refl (ap (with_cards bus) (damaged_each (cards_of bus))))
      (λ t. commanded index argument)

  by_bits : (sent : List ℕ) → Hears (fields_of sent)
  unfolding fields_of
  by_bits sent =
      guarded Hears (eqb (field sent 0 1) 0) (λ t. left (by 2) bus refl refl)
      (λ t.
      guarded Hears (eqb (field sent 1 1) 1) (λ u. left (by 2) bus refl refl)
      (λ u.
      guarded Hears (eqb (field sent 47 1) 1) (λ v. left (by 2) bus refl refl)
      (λ v. by_crc (field sent 2 6) (field sent 8 32) (eqb (field sent 40 7) (crc7_of (take 40 sent))))))

  by_length : (frame : List ℕ) → Hears (framing_of frame)
  unfolding framing_of
  by_length frame = guarded Hears (eqb (length frame) 6) (λ t. left (by 1) bus refl refl) (λ t. by_bits (bits frame))

  by_count : (frame : List ℕ) → Leaves (bus_frame bus frame)
  unfolding bus_frame
  by_count frame = guarded Leaves (leb 1 (count_of bus)) (λ t. left (by 13) bus refl refl) (λ t. by_length frame)

pub frame_by_number : (bus : Bus) (frame : List ℕ) (r : Refusal) → RefusesFrame bus frame r → FrameByNumber bus frame r
frame_by_number bus frame r e =
    let l = by_count bus r frame e in
    record { number = l.number; next = l.next; unshown = l.unshown }

-- ---- a card that is added
module _ (bus : Bus) (r : Refusal) where
  abbrev Unadded : Added → Type 0
  Unadded given = given.adding ≡ Err r → (among (number_of r) add_numbers ≡ true) × (given.bus ≡ bus)

  full : Unadded (record { bus = bus; adding = Err (by 13) })
  full e =
      let same : by 13 ≡ r = cc in
      (ap (λ (q : Refusal). among (number_of q) add_numbers) (sym same), refl)

  by_room : (card : Card) → Unadded (added_to bus card)
  unfolding added_to
  by_room card = guarded Unadded (ltb (count_of bus) most) (λ t. full) (λ t e. clash cc)

pub add_by_number : (bus : Bus) (card : Card) (r : Refusal) → RefusesCard bus card r → AddByNumber bus card r
add_by_number bus card r e = let l = by_room bus r card e in record { number = l.0; next = l.1 }

-- ---- each number is given
-- an empty bus, one of one card, and one of 30
abbrev holding : ℕ → Bus
holding count = record { cards = replicate 30 refused_make; count = count }

-- no bytes; zeros, in which the transmission bit is wrong; CMD0 with a wrong CRC7; CMD16, which is no command for a bus
each_given : RefusesFrame (holding 0) [] (by 13)
    × (RefusesFrame (holding 1) [] (by 1)
    × (RefusesFrame (holding 1) (replicate 6 0) (by 2)
    × (RefusesFrame (holding 1) (0x40 ∷ 0 ∷ 0 ∷ 0 ∷ 0 ∷ 0x97 ∷ []) (by 3)
    × (RefusesFrame (holding 1) (0x50 ∷ 0 ∷ 0 ∷ 2 ∷ 0 ∷ 0x15 ∷ []) (by 14)
    × RefusesCard (holding 30) refused_make (by 13)))))
unfolding bus_frame framing_of fields_of bits crc7_of remainder divide command_for added_to
each_given = (refl, (refl, (refl, (refl, (refl, refl)))))
