-- A round on the bus is a round over its cards.
--   Filled           a bus of 30 places, one of them taken at least
--   cards_with, with_with, with_own    a bus with other cards in the places that are taken
--   frame_is         a frame that is read as a command is that command, for all cards
--   cid_frame        CMD2 of any argument: what it leaves and what it shows
--   round_on, rounds_on    an undamaged round, and any number of them
--   before_cards     the cards as a round finds them
-- Assumes nothing.
use mathlib.Core.Path.{◌≡◌, refl, sym, ap, ap₂, ◌∙◌, subst}
use mathlib.Core.Bool.{Bool}
use mathlib.Core.List.{List, [], ◌∷◌, ◌++◌}
use Prim.Native.Nat.{ℕ, zero, suc, ◌≤◌}
use native.Mathlib.Omega.{arith}
use borrow.Author.Tests.{le-leb}
use lib.ListN.{length, take, drop, length-append, length-drop, length-map, take-append-drop}
use lib.Seq.{length-take-le, take_at, drop_at}
use Rattle.base.specs.Choice.{unless}
use Rattle.base.specs.Refusals.{by}
use Rattle.bus.specs.Bus.{count_of, cards_of, with_cards, cid_line, line_of, shown_of, padded, refused_on, command_for, framed_on, bus_frame}
use Rattle.bus.specs.declared.Bus.{Bus}
use Rattle.bus.specs.declared.Framed.{Framed as Answered}
use Rattle.card_record.specs.declared.Card.{Card}
use Rattle.wire.proofs.FrameTheorems.{framing}
use Rattle.wire.specs.Frames.{framing_of, frame_of, as_command}
use Rattle.rounds.proofs.OneRound.{cid_round, address_round, round, cid_commands, address_commands}
use Rattle.rounds.specs.Demand3.{Round, IsCmd2, IsCmd3, Undamaged, AllUndamaged, round_of, rounds_of, before}
use Rattle.std.specs.Prelude.{Result, Ok}
use Rattle.base.specs.declared.Refusal.{Refusal}
use Rattle.wire.specs.declared.Fields.{Fields}

abbrev pub Filled : Bus → Type 0
Filled bus = (length bus.cards ≡ 30) × (1 ≤ count_of bus)

-- ---- a bus with other cards
abbrev bus_of : List Card → ℕ → Bus
bus_of cards count = record { cards = cards; count = count }

pub cards_length : (bus : Bus) → Filled bus → length (cards_of bus) ≡ count_of bus
cards_length bus f = let n = f.0 in length-take-le (count_of bus) bus.cards (omega arith)

pub cards_with : (bus : Bus) (cards : List Card) → length cards ≡ count_of bus → cards_of (with_cards bus cards) ≡ cards
unfolding with_cards
cards_with bus cards e = take_at cards (drop (length cards) bus.cards) (count_of bus) e

pub with_with : (bus : Bus) (xs ys : List Card) → length xs ≡ length ys → with_cards (with_cards bus xs) ys ≡ with_cards bus ys
unfolding with_cards
with_with bus xs ys e =
    ap (λ (l : List Card). bus_of (ys ++ l) bus.count)
    (drop_at xs (drop (length xs) bus.cards) (length ys) e ∙ ap (λ (n : ℕ). drop n bus.cards) e)

pub with_own : (bus : Bus) → Filled bus → with_cards bus (cards_of bus) ≡ bus
unfolding with_cards
with_own bus f =
    ap (λ (l : List Card). bus_of l bus.count)
    (ap (λ (n : ℕ). cards_of bus ++ drop n bus.cards) (cards_length bus f) ∙ take-append-drop (count_of bus) bus.cards)

pub filled_with : (bus : Bus) (cards : List Card) → Filled bus → length cards ≡ count_of bus → Filled (with_cards bus cards)
unfolding with_cards
filled_with bus cards f e =
    let n = f.0 in
    let m = f.1 in
    (length-append cards (drop (length cards) bus.cards) ∙ simp length-drop (omega arith), m)

-- the places behind the cards are as they were
pub rest_with : (bus : Bus) (cards : List Card) → length cards ≡ count_of bus
    → drop (count_of bus) (with_cards bus cards).cards ≡ drop (count_of bus) bus.cards
unfolding with_cards
rest_with bus cards e = drop_at cards (drop (length cards) bus.cards) (count_of bus) e ∙ ap (λ (n : ℕ). drop n bus.cards) e

-- ---- frames
frame_is : (bus : Bus) → 1 ≤ count_of bus → (frame : List ℕ) (index argument : ℕ) → frame_of frame ≡ Ok (as_command index argument)
    → bus_frame bus frame ≡ command_for bus index argument
unfolding bus_frame frame_of
frame_is bus some frame index argument read =
    ap₂ (λ (t : Bool) (g : Result Fields Refusal). unless t (refused_on bus (by 13)) (framed_on bus g)) (le-leb 1 (count_of bus) some)
    (framing (framing_of frame) index argument read)

-- CMD2: the bus that it leaves, what is shown, and the line
pub cid_frame : (bus : Bus) → 1 ≤ count_of bus → (frame : List ℕ) → IsCmd2 frame
    → bus_frame bus frame
    ≡ record { bus = with_cards bus (cid_round (cards_of bus)); shown = shown_of (cid_line (cards_of bus)); line = padded (cid_line (cards_of bus)) }
unfolding command_for line_of
cid_frame bus some frame (argument, read) =
    frame_is bus some frame 2 argument read ∙ ap (λ (l : List Card). answer_of (with_cards bus l)) (cid_commands (cards_of bus) argument)
  where
    answer_of : Bus → Answered
    answer_of after = record { bus = after; shown = shown_of (cid_line (cards_of bus)); line = padded (cid_line (cards_of bus)) }

address_frame : (bus : Bus) → 1 ≤ count_of bus → (a : ℕ) → 1 ≤ a → (frame : List ℕ) → IsCmd3 a frame
    → (bus_frame bus frame).bus ≡ with_cards bus (address_round a (cards_of bus))
unfolding command_for
address_frame bus some a one frame (argument, (read, high)) =
    ap (λ (r : Answered). r.bus) (frame_is bus some frame 3 argument read)
    ∙ ap (with_cards bus) (address_commands (cards_of bus) a argument one high)

-- ---- rounds
length_cid : (cards : List Card) → length (cid_round cards) ≡ length cards
unfolding cid_round
length_cid cards = simp length-map

length_address : (a : ℕ) (cards : List Card) → length (address_round a cards) ≡ length cards
unfolding address_round
length_address a cards = simp length-map

length_round : (a : ℕ) (cards : List Card) → length (round a cards) ≡ length cards
length_round a cards = length_address a (cid_round cards) ∙ length_cid cards

round_on : (bus : Bus) → Filled bus → (r : Round) → Undamaged r → round_of bus_frame bus r ≡ with_cards bus (round r.address (cards_of bus))
round_on bus f r u =
    let a : ℕ = r.address in
    let cards : List Card = cards_of bus in
    let e : length (cid_round cards) ≡ count_of bus = length_cid cards ∙ cards_length bus f in
    let mid : Bus = with_cards bus (cid_round cards) in
    ap (λ (d : Answered). (bus_frame d.bus r.cmd3).bus) (cid_frame bus f.1 r.cmd2 u.cmd2)
    ∙ address_frame mid (filled_with bus (cid_round cards) f e).1 a u.address r.cmd3 u.cmd3
    ∙ ap (λ (l : List Card). with_cards mid (address_round a l)) (cards_with bus (cid_round cards) e)
    ∙ with_with bus (cid_round cards) (round a cards) (sym (length_address a (cid_round cards)))

-- the cards after any number of rounds
unfoldable pub after : List Round → List Card → List Card
after [] cards = cards
after (r ∷ rounds) cards = after rounds (round r.address cards)

pub length_after_lem : (rounds : List Round) (cards : List Card) → length (after rounds cards) ≡ length cards
unfolding after
length_after_lem [] cards = refl
length_after_lem (r ∷ rounds) cards = length_after_lem rounds (round r.address cards) ∙ length_round r.address cards

pub rounds_on : (rounds : List Round) (bus : Bus) → Filled bus → AllUndamaged rounds
    → rounds_of bus_frame bus rounds ≡ with_cards bus (after rounds (cards_of bus))
unfolding rounds_of after
rounds_on [] bus f u = sym (with_own bus f)
rounds_on (r ∷ rounds) bus f u =
    let a : ℕ = r.address in
    let cards : List Card = cards_of bus in
    let e : length (round a cards) ≡ count_of bus = length_round a cards ∙ cards_length bus f in
    let next : Bus = with_cards bus (round a cards) in
    ap (λ (b : Bus). rounds_of bus_frame b rounds) (round_on bus f r u.0)
    ∙ rounds_on rounds next (filled_with bus (round a cards) f e) u.1
    ∙ ap (λ (l : List Card). with_cards next (after rounds l)) (cards_with bus (round a cards) e)
    ∙ with_with bus (round a cards) (after rounds (round a cards)) (sym (length_after_lem rounds (round a cards)))

-- ---- the bus as a round finds it
undamaged_take : (k : ℕ) (rounds : List Round) → AllUndamaged rounds → AllUndamaged (take k rounds)
undamaged_take zero rounds u = tt
undamaged_take (suc k) [] u = tt
undamaged_take (suc k) (r ∷ rounds) u = (u.0, undamaged_take k rounds u.1)

module _ (bus : Bus) (f : Filled bus) (rounds : List Round) (u : AllUndamaged rounds) (k : ℕ) where
  as_many : length (after (take k rounds) (cards_of bus)) ≡ count_of bus
  as_many = length_after_lem (take k rounds) (cards_of bus) ∙ cards_length bus f

  pub before_is : before bus_frame bus rounds k ≡ with_cards bus (after (take k rounds) (cards_of bus))
  before_is = rounds_on (take k rounds) bus f (undamaged_take k rounds u)

  pub before_cards : cards_of (before bus_frame bus rounds k) ≡ after (take k rounds) (cards_of bus)
  before_cards = ap cards_of before_is ∙ cards_with bus (after (take k rounds) (cards_of bus)) as_many

  pub before_filled : Filled (before bus_frame bus rounds k)
  before_filled = subst Filled (sym before_is) (filled_with bus (after (take k rounds) (cards_of bus)) f as_many)

  pub before_rest : ((before bus_frame bus rounds k).count ≡ bus.count)
      × (drop (count_of bus) (before bus_frame bus rounds k).cards ≡ drop (count_of bus) bus.cards)
  unfolding with_cards
  before_rest = (
    ap (λ (b : Bus). b.count) before_is,
    ap (λ (b : Bus). drop (count_of bus) b.cards) before_is ∙ rest_with bus (after (take k rounds) (cards_of bus)) as_many,
  )
