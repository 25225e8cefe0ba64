-- The consequences of demand 3, of any bus that meets it.
--   clones_seen        all of them, as specs/Clones.antt states them; clones_on_ours, of our bus
--   all_ready          where every card is in Ready, the identifiers are those of all cards
-- and one by one:
--   answered           as many rounds get an answer as there are distinct identifiers, or as there are rounds, whichever is less
--   answered_distinct  with at least as many rounds as distinct identifiers, as many as there are distinct identifiers
--   answered_all       with fewer, every round that is sent
--   silence_tells      a round that gets no answer tells that there are as many rounds as distinct identifiers
--   missing_round      with at least as many rounds, fewer get an answer than cards began in Ready exactly if two of those are clones
--   left_with          a card that began in Ready is left with the address of its round
--   shared_address     two such cards then hold the same address exactly if they are clones, where the addresses differ
-- Assumes nothing.
use mathlib.Core.Path.{◌≡◌, refl, sym, ap, ◌∙◌, subst}
use mathlib.Core.Bool.{true, false}
use mathlib.Core.Logic.{◌↔◌}
use mathlib.Core.List.{List, [], ◌∷◌, map, Memᴰ}
use Prim.Native.Nat.{ℕ, zero, suc, ◌≤◌, ◌<◌, min}
use native.Mathlib.Omega.{arith}
use borrow.Author.Tests.{ltb-true, ltb-false}
use lib.Dec.{ltb}
use lib.ListN.{length, get_or}
use lib.Seq.{length-take-le, take-length}
use Rattle.base.proofs.Cases.{cases, opposite}
use Rattle.bus.specs.Bus.{count_of, cards_of, is_ready, bus_frame}
use Rattle.bus.specs.declared.Bus.{Bus}
use Rattle.crc.specs.Bits.{bits, spelt}
use Rattle.card_record.specs.Making.{refused_make}
use Rattle.card_record.specs.declared.Card.{Card}
use Rattle.rounds.proofs.Demand3.{demand3, in_place, place_of}
use Rattle.rounds.proofs.Distinct.{get_or_member, rank_get, get_rank, rank_lt}
use Rattle.rounds.proofs.Reach.{ready_member, ready_from}
use Rattle.rounds.proofs.Repeats.{repeats_later, repeats_first, fewer_repeats}
use Rattle.rounds.specs.Clones.{is_answer, count_if, answered_rounds, ready_cards, Clones, AnyClones, Differ, ClonesSeen}
use Rattle.rounds.specs.Demand3.{Step, Round, AllUndamaged, rounds_of, address_at, before, answer, card_at, identifier, cid_of, ready_identifiers, identifiers, reached, WellFormed, NoneIdentified, Rounds, Demand3}
use Rattle.rounds.specs.Distinct.{rank, Repeats}

-- ---- clones among the cards, by their identifiers
abbrev Twins : List Card → Type 0
Twins cards =
    (i : ℕ)
    × ((j : ℕ)
    × ((i < j)
    × ((j < length cards)
    × ((is_ready (get_or cards i refused_make) ≡ true)
    × ((is_ready (get_or cards j refused_make) ≡ true) × (identifier (get_or cards i refused_make) ≡ identifier (get_or cards j refused_make)))))))

twins_later : (c : Card) (cards : List Card) → Twins cards → Twins (c ∷ cards)
twins_later c cards t = (suc t.0, (suc t.1.0, (omega (arith, t.1.1.0), (omega (arith, t.1.1.1.0), t.1.1.1.1))))

twins : (cards : List Card) → Repeats (ready_identifiers cards) → Twins cards
unfolding ready_identifiers
twins [] r = absurd (omega (arith, r.1.1.1.0))
twins (c ∷ cards) r =
    cases (is_ready c)
    (λ p. first (twins cards) p r.0 r.1.0 r.1.1.0 (rw p at r.1.1.1.0) (rw p at r.1.1.1.1))
    (λ p. twins_later c cards (twins cards (rw p at r)))
  where
    first : (Repeats (ready_identifiers cards) → Twins cards) → is_ready c ≡ true → (i j : ℕ) → i < j → j < suc (length (ready_identifiers cards))
        → get_or (identifier c ∷ ready_identifiers cards) i 0 ≡ get_or (identifier c ∷ ready_identifiers cards) j 0 → Twins (c ∷ cards)
    first rest p i zero h b e = absurd (omega arith)
    first rest p zero (suc j) h b e =
        let w = ready_from cards (get_or (ready_identifiers cards) j 0) (get_or_member (ready_identifiers cards) j (omega arith)) in
        let k = place_of cards w.0 refused_make w.1 in (
          0,
          (
            suc k.0,
            (
              omega arith,
              (
                omega (arith, k.1.0),
                (p, (ap is_ready k.1.1 ∙ w.2, e ∙ sym w.3 ∙ sym (ap identifier k.1.1))),
              ),
            ),
          ),
        )
    first rest p (suc i) (suc j) h b e = twins_later c cards (rest (i, (j, (omega arith, (omega arith, e)))))

repeated : (cards : List Card) (i j : ℕ) → i < j → j < length cards → is_ready (get_or cards i refused_make) ≡ true
    → is_ready (get_or cards j refused_make) ≡ true → identifier (get_or cards i refused_make) ≡ identifier (get_or cards j refused_make) → Repeats (ready_identifiers cards)
unfolding ready_identifiers
repeated [] i j h b p q e = absurd (omega arith)
repeated (c ∷ cards) i zero h b p q e = absurd (omega arith)
repeated (c ∷ cards) zero (suc j) h b p q e =
    rw p
    (repeats_first (identifier c) (ready_identifiers cards)
    (subst (λ (z : ℕ). Memᴰ z (ready_identifiers cards)) (sym e)
    (ready_member cards (get_or cards j refused_make) (in_place cards j refused_make (omega arith)) q)))
repeated (c ∷ cards) (suc i) (suc j) h b p q e =
    let r = repeated cards i j (omega arith) (omega arith) p q e in
    cases (is_ready c) (λ t. rw t (repeats_later (identifier c) (ready_identifiers cards) r)) (λ t. rw t r)

module _ (step : Step) (bus : Bus) (rounds : List Round) (demand : Rounds step bus rounds) where
  abbrev ids : List ℕ
  ids = identifiers bus

  -- ---- answers
  answers : (k : ℕ) → k < length rounds → k < length ids → is_answer (answer step bus rounds k).shown ≡ true
  answers k h b = ap is_answer (demand.shows k h b).0

  no_answer : (k : ℕ) → k < length rounds → length ids ≤ k → is_answer (answer step bus rounds k).shown ≡ false
  no_answer k h b = ap is_answer (demand.last k h b).0

  counted : (n : ℕ) → n ≤ length rounds → count_if (λ (k : ℕ). is_answer (answer step bus rounds k).shown) n ≡ min n (length ids)
  unfolding count_if
  counted zero h = omega arith
  counted (suc n) h =
      let rest = counted n (omega arith) in
      cases (ltb n (length ids))
      (λ t. let b = ltb-true n (length ids) t in rw (answers n (omega arith) b) (omega arith))
      (λ t. let b = ltb-false n (length ids) t in rw (no_answer n (omega arith) b) (omega arith))

  pub answered : answered_rounds step bus rounds ≡ min (length rounds) (length ids)
  answered = counted (length rounds) (omega arith)

  pub answered_distinct : length ids ≤ length rounds → answered_rounds step bus rounds ≡ length ids
  answered_distinct enough = answered ∙ omega arith

  pub answered_all : length rounds ≤ length ids → answered_rounds step bus rounds ≡ length rounds
  answered_all few = answered ∙ omega arith

  pub silence_tells : (k : ℕ) → k < length rounds → is_answer (answer step bus rounds k).shown ≡ false → length ids ≤ length rounds
  silence_tells k h silent =
      cases (ltb k (length ids)) (λ t. opposite _ (answers k h (ltb-true k (length ids) t)) silent)
      (λ t. let b = ltb-false k (length ids) t in omega arith)

  -- ---- identifiers and CIDs
  same_cid : (i j : ℕ) → i < count_of bus → j < count_of bus → identifier (card_at bus i) ≡ identifier (card_at bus j)
      → (card_at bus i).registers.cid ≡ (card_at bus j).registers.cid
  same_cid i j h k e = sym (demand.cid i h) ∙ ap cid_of e ∙ demand.cid j k

  same_identifier : (i j : ℕ) → (card_at bus i).registers.cid ≡ (card_at bus j).registers.cid → identifier (card_at bus i) ≡ identifier (card_at bus j)
  same_identifier i j e = ap (λ (cid : List ℕ). spelt (bits cid)) e

  -- A missing round is a clone.
  pub missing_round : WellFormed bus → length ids ≤ length rounds → (answered_rounds step bus rounds < ready_cards bus) ↔ AnyClones bus
  missing_round formed enough =
      let n = formed.0 in
      let count : length (cards_of bus) ≡ count_of bus = length-take-le (count_of bus) bus.cards (omega arith) in
      let all = answered_distinct enough in (
        λ (missing : answered_rounds step bus rounds < ready_cards bus).
            (let t = twins (cards_of bus) ((fewer_repeats (ready_identifiers (cards_of bus))).0 (omega arith)) in
            let i : ℕ = t.0 in
            let j : ℕ = t.1.0 in
            let before_j : i < j = t.1.1.0 in
            let in_j : j < count_of bus = omega (arith, t.1.1.1.0) in
            let two = t.1.1.1.1 in
            (i, (j, (before_j, (in_j, (two.0, (two.1.0, same_cid i j (omega arith) in_j two.1.1))))))),
        λ c.
            (let i : ℕ = c.0 in
            let j : ℕ = c.1.0 in
            let two = c.1.1.1.1 in
            let h = (fewer_repeats (ready_identifiers (cards_of bus))).1
            (repeated (cards_of bus) i j c.1.1.0 (omega (arith, c.1.1.1.0)) two.0 two.1.0 (same_identifier i j two.1.1))
            in
            omega arith),
      )

  -- ---- addresses
  -- the round in which a card is reached
  abbrev turn_of : ℕ → ℕ
  turn_of place = rank ids (identifier (card_at bus place))

  is_among : (place : ℕ) → place < count_of bus → is_ready (card_at bus place) ≡ true → Memᴰ (identifier (card_at bus place)) ids
  is_among place h p = (demand.each (identifier (card_at bus place))).1 (place, (h, (p, refl)))

  -- no later round changes the card
  kept : (place : ℕ) → place < count_of bus → (k : ℕ) → k < length rounds → turn_of place < k
      → card_at (before step bus rounds (suc k)) place ≡ card_at (before step bus rounds k) place
  kept place h k b later =
      cases (ltb k (length ids))
      (λ t.
      let in_ids = ltb-true k (length ids) t in
      demand.others k b in_ids place h
      (λ holds.
      let at_k : turn_of place ≡ k = ap (rank ids) holds.1 ∙ get_rank ids demand.ascending k in_ids in
      omega arith))
      (λ t. ap (λ (b : Bus). card_at b place) (demand.last k b (ltb-false k (length ids) t)).1)

  stays : (place : ℕ) → place < count_of bus → is_ready (card_at bus place) ≡ true → (n : ℕ) → turn_of place < n → n ≤ length rounds
      → card_at (before step bus rounds n) place ≡ reached (address_at rounds (turn_of place)) (card_at bus place)
  stays place h p zero past b = absurd (omega arith)
  stays place h p (suc k) past b =
      cases (ltb (turn_of place) k)
      (λ t.
      let later = ltb-true (turn_of place) k t in
      kept place h k (omega arith) later ∙ stays place h p k later (omega arith))
      (λ t.
      let not_later = ltb-false (turn_of place) k t in
      let now : turn_of place ≡ k = omega arith in
      ap (λ (n : ℕ). card_at (before step bus rounds (suc n)) place) (sym now) ∙ (demand.turn place h p (turn_of place) refl (omega arith)).1)

  -- A card that began in Ready is left with the address of its round.
  pub left_with : length ids ≤ length rounds → (place : ℕ) → place < count_of bus → is_ready (card_at bus place) ≡ true
      → card_at (rounds_of step bus rounds) place ≡ reached (address_at rounds (turn_of place)) (card_at bus place)
  left_with enough place h p =
      let turn = rank_lt ids (identifier (card_at bus place)) (is_among place h p) in
      ap (λ (l : List Round). card_at (rounds_of step bus l) place) (sym (take-length rounds))
      ∙ stays place h p (length rounds) (omega arith) (omega arith)

  -- An address that two of them hold is that of clones.
  pub shared_address : length ids ≤ length rounds → Differ rounds
      → (i j : ℕ) → i < count_of bus → j < count_of bus → is_ready (card_at bus i) ≡ true → is_ready (card_at bus j) ≡ true
      → ((card_at (rounds_of step bus rounds) i).link.address ≡ (card_at (rounds_of step bus rounds) j).link.address) ↔ Clones bus i j
  shared_address enough differ i j hi hj pi pj =
      let ai : (card_at (rounds_of step bus rounds) i).link.address ≡ address_at rounds (turn_of i) =
      ap (λ (c : Card). c.link.address) (left_with enough i hi pi)
      in
      let aj : (card_at (rounds_of step bus rounds) j).link.address ≡ address_at rounds (turn_of j) =
      ap (λ (c : Card). c.link.address) (left_with enough j hj pj)
      in
      let mi = is_among i hi pi in
      let mj = is_among j hj pj in
      let ti = rank_lt ids (identifier (card_at bus i)) mi in
      let tj = rank_lt ids (identifier (card_at bus j)) mj in (
        λ (e : (card_at (rounds_of step bus rounds) i).link.address ≡ (card_at (rounds_of step bus rounds) j).link.address).
            (let one_round : turn_of i ≡ turn_of j = differ (turn_of i) (turn_of j) (omega arith) (omega arith) (sym ai ∙ e ∙ aj) in
            let one_identifier : identifier (card_at bus i) ≡ identifier (card_at bus j) =
            sym (rank_get ids demand.ascending (identifier (card_at bus i)) mi)
            ∙ ap (λ (k : ℕ). get_or ids k 0) one_round
            ∙ rank_get ids demand.ascending (identifier (card_at bus j)) mj
            in
            (pi, (pj, same_cid i j hi hj one_identifier))),
        λ c. ai ∙ ap (λ (z : ℕ). address_at rounds (rank ids z)) (same_identifier i j c.1.1) ∙ sym aj,
      )

-- ---- together, of any bus that meets demand 3, and of ours
pub clones_seen : (step : Step) → Demand3 step → (bus : Bus) (rounds : List Round) → WellFormed bus → 1 ≤ count_of bus → NoneIdentified bus
    → AllUndamaged rounds → ClonesSeen step bus rounds
clones_seen step demand bus rounds formed some none undamaged =
    let told = demand bus rounds formed some none undamaged in
    record {
      enough = answered_distinct step bus rounds told;
      few = answered_all step bus rounds told;
      silence = silence_tells step bus rounds told;
      missing = missing_round step bus rounds told formed;
      shared = shared_address step bus rounds told;
    }

pub clones_on_ours : (bus : Bus) (rounds : List Round) → WellFormed bus → 1 ≤ count_of bus → NoneIdentified bus → AllUndamaged rounds
    → ClonesSeen bus_frame bus rounds
clones_on_ours = clones_seen bus_frame demand3

-- where every card is in Ready, the identifiers are those of all cards: a count without a bus is over their list
pub all_ready : (cards : List Card) → ((card : Card) → Memᴰ card cards → is_ready card ≡ true) → ready_identifiers cards ≡ map identifier cards
unfolding ready_identifiers
all_ready [] ready = refl
all_ready (c ∷ cards) ready =
    rw (ready c (Memᴰ.head refl)) (ap (λ (l : List ℕ). identifier c ∷ l) (all_ready cards (λ card m. ready card (Memᴰ.tail m))))
