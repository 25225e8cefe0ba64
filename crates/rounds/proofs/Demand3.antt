-- Demand 3 holds of our bus.
--   demand3     for every bus of 1 to 30 cards of any records, in either mode, none in Identification in MMC mode, and any list of undamaged rounds
-- Assumes nothing.
use mathlib.Core.Path.{◌≡◌, refl, sym, ap, ◌∙◌, subst}
use mathlib.Core.Bool.{Bool, true, false, not, ◌&&◌}
use mathlib.Core.List.Memᴰ
use mathlib.Core.List.{List, [], ◌∷◌, ◌++◌, map, Memᴰ, append-nil}
use mathlib.Core.Logic.{◌↔◌}
use Prim.Native.Nat.{ℕ, zero, suc, ◌-◌, ◌≤◌, ◌<◌}
use native.Mathlib.Omega.{arith}
use borrow.Author.Tests.{ltb-true, ltb-false}
use lib.Dec.{eqb, ltb}
use lib.ListN.{length, take, drop, get_or, replicate, drop_of_length-le}
use lib.Seq.{length-take-le, drop-cons, get_or-take}
use Rattle.base.proofs.Cases.{cases, never}
use Rattle.bus.specs.Bus.{count_of, cards_of, with_cards, is_ready, cid_line, shown_of, padded, bus_frame}
use Rattle.bus.specs.declared.Bus.{Bus}
use Rattle.bus.specs.declared.Framed.{Framed as Answered}
use Rattle.crc.proofs.Bits.{length_octets}
use Rattle.crc.specs.Bits.{bits_of}
use Rattle.card_record.specs.Making.{refused_make}
use Rattle.card_record.specs.declared.Card.{Card}
use Rattle.states.specs.States.{column_of, column_number}
use Rattle.rounds.proofs.Distinct.{distinct_ascending, distinct_from, rank_get, get_rank, rank_lt}
use Rattle.rounds.proofs.ManyRounds.{rounds_are, good_after, ids_after}
use Rattle.rounds.proofs.OnTheBus.{Filled, cards_length, cid_frame, after, before_is, before_cards, before_filled, before_rest}
use Rattle.rounds.proofs.OneRound.{Good, good, good_card, cid_back, among, shows_first, shows_none}
use Rattle.rounds.proofs.Reach.{map_on, final, reach_now, reach_not, reach_yet, final_none, ready_from}
use Rattle.rounds.specs.Demand3.{Round, AllUndamaged, Undamaged, round_at, address_at, before, answer, card_at, identifier, cid_of, ready_identifiers, identifiers, nth, reached, Holds, CidBytes, WellFormed, is_ident, NoneIdentified, Rounds, Demand3}
use Rattle.rounds.specs.Distinct.{distinct, rank, Ascending}
use Rattle.std.specs.Prelude.{Ok, Some, None}

-- ---- places of a list
pub get_d_map : (f : Card → Card) (l : List Card) (i : ℕ) (d : Card) → i < length l → get_or (map f l) i d ≡ f (get_or l i d)
get_d_map f [] i d h = absurd (omega arith)
get_d_map f (c ∷ l) zero d h = refl
get_d_map f (c ∷ l) (suc i) d h = get_d_map f l i d (omega arith)

past : (l : List Card) (i : ℕ) (d : Card) → length l ≤ i → get_or l i d ≡ d
past [] i d h = refl
past (c ∷ l) zero d h = absurd (omega arith)
past (c ∷ l) (suc i) d h = past l i d (omega arith)

pub in_place : (l : List Card) (i : ℕ) (d : Card) → i < length l → Memᴰ (get_or l i d) l
in_place [] i d h = absurd (omega arith)
in_place (c ∷ l) zero d h = Memᴰ.head refl
in_place (c ∷ l) (suc i) d h = Memᴰ.tail (in_place l i d (omega arith))

pub place_of : (l : List Card) (card d : Card) → Memᴰ card l → (i : ℕ) × ((i < length l) × (get_or l i d ≡ card))
place_of [] card d m = absurd (Memᴰ.not-nil m)
place_of (c ∷ l) card d (Memᴰ.head e) = (0, (omega arith, sym e))
place_of (c ∷ l) card d (Memᴰ.tail m) = let w = place_of l card d m in (suc w.0, (omega (arith, w.1.0), w.1.1))

undamaged_at : (rounds : List Round) → AllUndamaged rounds → (k : ℕ) → k < length rounds → Undamaged (round_at rounds k)
undamaged_at [] u k h = absurd (omega arith)
undamaged_at (r ∷ rounds) u zero h = u.0
undamaged_at (r ∷ rounds) u (suc k) h = undamaged_at rounds u.1 k (omega arith)

-- ---- what is shown
length_cid : (number : ℕ) → length (cid_of number) ≡ 16
unfolding cid_of
length_cid number = length_octets 16 (bits_of 128 number)

shown_17 : (b : ℕ) (cid : List ℕ) → length cid ≡ 16 → shown_of (b ∷ cid) ≡ Ok (Some 17)
shown_17 b cid e = ap (λ (n : ℕ). Ok (Some (suc n))) e

padded_17 : (line : List ℕ) → length line ≡ 17 → padded line ≡ line
unfolding padded
padded_17 line e = ap (λ (n : ℕ). line ++ replicate (17 - n) 0) e ∙ append-nil line

module _ (bus : Bus) (rounds : List Round) (formed : WellFormed bus) (some : 1 ≤ count_of bus) (none : NoneIdentified bus) (u : AllUndamaged rounds) where
  abbrev cards : List Card
  cards = cards_of bus

  abbrev ids : List ℕ
  ids = identifiers bus

  filled : Filled bus
  filled = (formed.0, some)

  count : length cards ≡ count_of bus
  count = cards_length bus filled

  -- each place that is taken holds a card of 16 CID bytes that is not in Identification
  good_cards : Good cards
  good_cards =
      good
      (λ card k.
      let w = place_of cards card refused_make k in
      let e = count in
      let here : w.0 < count_of bus = omega (arith, w.1.0) in
      let same : get_or bus.cards w.0 refused_make ≡ card = sym (get_or-take (count_of bus) bus.cards w.0 refused_make here) ∙ w.1.1 in (
        subst (λ (c : Card). is_ident c ≡ false) w.1.1 (none w.0 here),
        subst (λ (c : Card). CidBytes c.registers.cid) same (formed.1 w.0 (omega arith)),
      ))

  held : (place : ℕ) → place < count_of bus → Memᴰ (card_at bus place) cards
  held place h = let e = count in in_place cards place refused_make (omega arith)

  asc : Ascending ids
  asc = distinct_ascending (ready_identifiers cards)

  is_among : (place : ℕ) → place < count_of bus → is_ready (card_at bus place) ≡ true → Memᴰ (identifier (card_at bus place)) ids
  is_among place h p = among cards good_cards (card_at bus place) (held place h) p

  -- ---- after k rounds
  abbrev left : ℕ → List Card
  left k = after (take k rounds) cards

  ids_left : (k : ℕ) → k < length rounds → distinct (ready_identifiers (left k)) ≡ drop k ids
  ids_left k h =
      ids_after (take k rounds) cards good_cards
      ∙ ap (λ (n : ℕ). drop n ids) (length-take-le k rounds (omega arith))

  good_left : (k : ℕ) → Good (left k)
  good_left k = good_after (take k rounds) cards good_cards

  card_left : (k place : ℕ) → place < count_of bus
      → card_at (before bus_frame bus rounds k) place ≡ final (take k rounds) ids (card_at bus place)
  card_left k place h =
      let e = count in
      ap (λ (l : List Card). get_or l place refused_make)
      (before_cards bus filled rounds u k ∙ rounds_are (take k rounds) cards good_cards)
      ∙ get_d_map (final (take k rounds) ids) cards place refused_make (omega arith)

  -- a card in SPI: none stands where no place is taken
  unturned : (place k : ℕ) → (card_at bus place).mode.spi ≡ true → card_at (before bus_frame bus rounds k) place ≡ card_at bus place
  unfolding refused_make
  unturned place k spi =
      let e = count in
      cases (ltb place (count_of bus))
      (λ t.
      card_left k place (ltb-true place (count_of bus) t)
      ∙ final_none (take k rounds) ids (card_at bus place)
      (ap (λ (s : Bool). not s && eqb (column_number (column_of (card_at bus place).link.state)) 1) spi))
      (λ t.
      let behind = ltb-false place (count_of bus) t in
      never (sym (ap (λ (c : Card). c.mode.spi) (past cards place refused_make (omega arith))) ∙ spi))

  -- a card whose turn it is, and one whose turn it is not
  now : (k : ℕ) → k < length rounds → (card : Card) → is_ready card ≡ true → rank ids (identifier card) ≡ k
      → final (take (suc k) rounds) ids card ≡ reached (address_at rounds k) card
  unfolding final
  now k h card p e = rw (p, e) (reach_now rounds k card h)

  not_now : (k : ℕ) (card : Card) → (is_ready card ≡ true → rank ids (identifier card) ≡ k → ⊥)
      → final (take (suc k) rounds) ids card ≡ final (take k rounds) ids card
  unfolding final
  not_now k card n = cases (is_ready card) (λ p. rw p (reach_not rounds k (rank ids (identifier card)) card (n p))) (λ p. rw p)

  not_yet : (k : ℕ) (card : Card) → is_ready card ≡ true → rank ids (identifier card) ≡ k → final (take k rounds) ids card ≡ card
  unfolding final
  not_yet k card p e = rw (p, e) (reach_yet rounds k card)

  -- ---- what CMD2 is answered
  answer_is : (k : ℕ) → k < length rounds → (line : List ℕ) → cid_line (left k) ≡ line
      → ((answer bus_frame bus rounds k).shown ≡ shown_of line) × ((answer bus_frame bus rounds k).line ≡ padded line)
  answer_is k h line e =
      let now = before bus_frame bus rounds k in
      let is = cid_frame now (before_filled bus filled rounds u k).1 (round_at rounds k).cmd2 (undamaged_at rounds u k h).cmd2 in
      let shows : cid_line (cards_of now) ≡ line = ap cid_line (before_cards bus filled rounds u k) ∙ e in
      (ap (λ (r : Answered). r.shown) is ∙ ap shown_of shows, ap (λ (r : Answered). r.line) is ∙ ap padded shows)

  shown_at : (k : ℕ) → k < length rounds → k < length ids
      → ((answer bus_frame bus rounds k).shown ≡ Ok (Some 17)) × ((answer bus_frame bus rounds k).line ≡ 0x3F ∷ cid_of (nth bus k))
  shown_at k h b =
      let e = shows_first (left k) (good_left k) (nth bus k) (drop (suc k) ids) (ids_left k h ∙ drop-cons ids k 0 b) in
      let r = answer_is k h (0x3F ∷ cid_of (nth bus k)) e in
      let n = length_cid (nth bus k) in
      (r.0 ∙ shown_17 0x3F (cid_of (nth bus k)) n, r.1 ∙ padded_17 (0x3F ∷ cid_of (nth bus k)) (ap suc n))

  silent_at : (k : ℕ) → k < length rounds → length ids ≤ k → (answer bus_frame bus rounds k).shown ≡ Ok None
  silent_at k h b = (answer_is k h [] (shows_none (left k) (good_left k) (ids_left k h ∙ drop_of_length-le ids b))).0

  same_after : (k : ℕ) → length ids ≤ k → before bus_frame bus rounds (suc k) ≡ before bus_frame bus rounds k
  same_after k b =
      before_is bus filled rounds u (suc k)
      ∙ ap (with_cards bus)
      (rounds_are (take (suc k) rounds) cards good_cards
      ∙ map_on _ _ cards
      (λ card m.
      not_now k card
      (λ p e. (let z = rank_lt ids (identifier card) (among cards good_cards card m p) in omega arith)))
      ∙ sym (rounds_are (take k rounds) cards good_cards))
      ∙ sym (before_is bus filled rounds u k)

  -- ---- who holds what
  holds_rank : (k : ℕ) → k < length ids → (place : ℕ) → Holds bus place (nth bus k) → rank ids (identifier (card_at bus place)) ≡ k
  holds_rank k b place h = ap (rank ids) h.1 ∙ get_rank ids asc k b

  rank_holds : (k place : ℕ) → place < count_of bus → is_ready (card_at bus place) ≡ true → rank ids (identifier (card_at bus place)) ≡ k
      → Holds bus place (nth bus k)
  rank_holds k place h p e =
      (p, sym (rank_get ids asc (identifier (card_at bus place)) (is_among place h p)) ∙ ap (λ (j : ℕ). get_or ids j 0) e)

  each_held : (number : ℕ) → Memᴰ number ids ↔ ((place : ℕ) × ((place < count_of bus) × Holds bus place number))
  each_held number =
      let e = count in (
        λ (m : Memᴰ number ids).
            (let w = ready_from cards number (distinct_from (ready_identifiers cards) number m) in
            let i = place_of cards w.0 refused_make w.1 in
            (i.0, (omega (arith, i.1.0), (ap is_ready i.1.1 ∙ w.2, ap identifier i.1.1 ∙ w.3)))),
        λ w. subst (λ (z : ℕ). Memᴰ z ids) w.1.1.1 (is_among w.0 w.1.0 w.1.1.0),
      )

  holds : Rounds bus_frame bus rounds
  holds =
      record {
        ascending = asc;
        each = each_held;
        cid = λ place h. cid_back (card_at bus place) (good_card good_cards (card_at bus place) (held place h)).1;
        shows = shown_at;
        reaches = λ k h b place i q. card_left (suc k) place i ∙ now k h (card_at bus place) q.0 (holds_rank k b place q);
        others = λ k h b place i n.
            card_left (suc k) place i ∙ not_now k (card_at bus place) (λ p e. n (rank_holds k place i p e)) ∙ sym (card_left k place i);
        turn = λ place i p j e h. (
          card_left j place i ∙ not_yet j (card_at bus place) p e,
          card_left (suc j) place i ∙ now j h (card_at bus place) p e,
        );
        last = λ k h b. (silent_at k h b, same_after k b);
        spi = unturned;
        places = λ k. before_rest bus filled rounds u k;
      }

pub demand3 : Demand3 bus_frame
demand3 = holds
