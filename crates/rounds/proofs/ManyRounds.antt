-- Any number of rounds over a list of cards.
--   rounds_are     what they do to each card
--   ids_after      so many of the smallest identifiers are gone
--   good_after     no card is left in Identification
-- Assumes nothing.
use mathlib.Core.Path.{◌≡◌, refl, sym, ap, ◌∙◌, subst}
use mathlib.Core.Bool.{true}
use mathlib.Core.List.{List, [], ◌∷◌, map, map-map}
use Prim.Native.Nat.{ℕ, suc}
use lib.ListN.{length, drop}
use lib.Seq.{drop-nil}
use Rattle.base.proofs.Cases.{cases}
use Rattle.bus.specs.Bus.{is_ready}
use Rattle.card_record.specs.declared.Card.{Card}
use Rattle.rounds.proofs.OnTheBus.{after}
use Rattle.rounds.proofs.OneRound.{Good, keeps, round, round_is}
use Rattle.rounds.proofs.Reach.{map_on, map_id, one, round_by, reach, final, ids_next, final_one, none_ready, final_none}
use Rattle.rounds.specs.Demand3.{Round, ready_identifiers}
use Rattle.rounds.specs.Distinct.{distinct}

-- no round, no change
untouched : (cards : List Card) (ids : List ℕ) → map (final [] ids) cards ≡ cards
unfolding final reach
untouched cards ids =
    map_on _ (λ (card : Card). card) cards (λ card k. cases (is_ready card) (λ p. still card p) (λ p. final_none [] ids card p)) ∙ map_id cards
  where
    still : (card : Card) → is_ready card ≡ true → final [] ids card ≡ card
    still card p = rw p

pub rounds_are : (rounds : List Round) (cards : List Card) → Good cards
    → after rounds cards ≡ map (final rounds (distinct (ready_identifiers cards))) cards
unfolding after
rounds_are [] cards g = sym (untouched cards (distinct (ready_identifiers cards)))
rounds_are (r ∷ rounds) cards g =
    ap (after rounds) (round_is cards g r.address) ∙ go (distinct (ready_identifiers cards)) refl (rounds_are rounds)
  where
    go : (ids : List ℕ) → distinct (ready_identifiers cards) ≡ ids
        → ((next : List Card) → Good next → after rounds next ≡ map (final rounds (distinct (ready_identifiers next))) next)
        → after rounds (round_by ids r.address cards) ≡ map (final (r ∷ rounds) ids) cards
    go [] e rest =
        rest cards g
        ∙ map_on _ _ cards
        (λ card k.
        cases (is_ready card) (λ p. absurd (none_ready cards e card k p))
        (λ p. final_none rounds (distinct (ready_identifiers cards)) card p ∙ sym (final_none (r ∷ rounds) [] card p)))
    go (m ∷ ms) e rest =
        rest (map (one m r.address) cards) (keeps m r.address cards g)
        ∙ ap (λ (ids : List ℕ). map (final rounds ids) (map (one m r.address) cards)) (ids_next m r.address ms cards e)
        ∙ map-map (final rounds ms) (one m r.address) cards
        ∙ map_on _ _ cards (λ card k. final_one m r ms rounds cards e card k)

good_at : (a : ℕ) (cards : List Card) (ids : List ℕ) → Good cards → Good (round_by ids a cards)
good_at a cards [] g = g
good_at a cards (m ∷ ms) g = keeps m a cards g

good_round : (a : ℕ) (cards : List Card) → Good cards → Good (round a cards)
good_round a cards g = subst Good (sym (round_is cards g a)) (good_at a cards (distinct (ready_identifiers cards)) g)

pub good_after : (rounds : List Round) (cards : List Card) → Good cards → Good (after rounds cards)
unfolding after
good_after [] cards g = g
good_after (r ∷ rounds) cards g = good_after rounds (round r.address cards) (good_round r.address cards g)

ids_at : (a : ℕ) (cards : List Card) (ids : List ℕ) → distinct (ready_identifiers cards) ≡ ids → distinct (ready_identifiers (round_by ids a cards)) ≡ drop 1 ids
ids_at a cards [] e = e
ids_at a cards (m ∷ ms) e = ids_next m a ms cards e

drop_one : (n : ℕ) (l : List ℕ) → drop n (drop 1 l) ≡ drop (suc n) l
drop_one n [] = drop-nil n
drop_one n (x ∷ l) = refl

pub ids_after : (rounds : List Round) (cards : List Card) → Good cards
    → distinct (ready_identifiers (after rounds cards)) ≡ drop (length rounds) (distinct (ready_identifiers cards))
unfolding after
ids_after [] cards g = refl
ids_after (r ∷ rounds) cards g =
    ids_after rounds (round r.address cards) (good_round r.address cards g)
    ∙ ap (drop (length rounds))
    (ap (λ (l : List Card). distinct (ready_identifiers l)) (round_is cards g r.address) ∙ ids_at r.address cards (distinct (ready_identifiers cards)) refl)
    ∙ drop_one (length rounds) (distinct (ready_identifiers cards))
