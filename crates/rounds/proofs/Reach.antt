-- What a round does to each card, and what any number of them do, over lists of cards.
--   one             the cards in Ready that hold an identifier are reached, and no other card changes
--   round_by         a round: those that hold the smallest identifier
--   reach, final    a card after some rounds: one that began in Ready with j distinct smaller identifiers is reached in round j
--   ids_next        after a round the smallest identifier is gone
--   final_one       a round, and then the others
--   reach_now, reach_not, reach_yet    round k reaches a card whose turn it is, and leaves any other
--   ready_member, ready_from    the identifiers are those of the cards in Ready
--   ready_mmc       a card in Ready is in MMC mode
-- Assumes nothing.
use mathlib.Core.Path.{◌≡◌, refl, sym, ap, ap₂, ◌∙◌, subst}
use mathlib.Core.Bool.{Bool, true, false, not, ◌&&◌}
use mathlib.Core.Logic.{⊎_elim}
use mathlib.Core.List.{List, [], ◌∷◌, map, Memᴰ}
use Prim.Native.Nat.{ℕ, zero, suc, ◌<◌}
use native.Mathlib.Omega.{arith}
use borrow.Author.Tests.{eqb-true, eqb-false, lt-ltb, le-ltb, not-true}
use lib.Dec.{eqb}
use lib.ListN.{length, take}
use Rattle.base.proofs.Cases.{cases, first}
use Rattle.base.specs.Choice.{pick}
use Rattle.bus.specs.Bus.{is_ready}
use Rattle.card_record.specs.declared.Card.{Card}
use Rattle.states.specs.States.{column_of, column_number}
use Rattle.rounds.proofs.Distinct.{under_member, distinct_ascending, distinct_has, without, distinct_without, without_first, rank_under}
use Rattle.rounds.specs.Demand3.{Round, address_at, identifier, ready_identifiers, reached}
use Rattle.rounds.specs.Distinct.{distinct, rank, Under, Ascending}

pub never_both : (b : Bool) → (b && false) ≡ false
never_both true = refl
never_both false = refl

pub map_on : {A B : Type 0} (f g : A → B) (l : List A) → ((x : A) → Memᴰ x l → f x ≡ g x) → map f l ≡ map g l
map_on f g [] h = refl
map_on f g (x ∷ l) h = ap₂ (λ y ys. y ∷ ys) (h x (mathlib.Core.List.Memᴰ.head refl)) (map_on f g l (λ z m. h z (mathlib.Core.List.Memᴰ.tail m)))

pub map_id : {A : Type 0} (l : List A) → map (λ x. x) l ≡ l
map_id [] = refl
map_id (x ∷ l) = ap (λ t. x ∷ t) (map_id l)

-- a card in Ready is in MMC mode
pub ready_mmc : (c : Card) → is_ready c ≡ true → c.mode.spi ≡ false
ready_mmc c p = not-true c.mode.spi (first (not c.mode.spi) (eqb (column_number (column_of c.link.state)) 1) p)

-- the cards in Ready that hold m are moved with address a, and no other card changes
unfoldable pub one : ℕ → ℕ → Card → Card
one m a c = pick (is_ready c && eqb (identifier c) m) (reached a c) c

abbrev pub round_by : List ℕ → ℕ → List Card → List Card
round_by [] a l = l
round_by (m ∷ ms) a l = map (one m a) l

-- the card that is reached in round j, if there are so many rounds
unfoldable pub reach : List Round → ℕ → Card → Card
reach [] j c = c
reach (round ∷ rounds) zero c = reached round.address c
reach (round ∷ rounds) (suc j) c = reach rounds j c

pub reach_now : (rounds : List Round) (k : ℕ) (c : Card) → k < length rounds → reach (take (suc k) rounds) k c ≡ reached (address_at rounds k) c
unfolding reach
reach_now [] k c h = absurd (omega arith)
reach_now (round ∷ rounds) zero c h = refl
reach_now (round ∷ rounds) (suc k) c h = reach_now rounds k c (omega arith)

pub reach_not : (rounds : List Round) (k j : ℕ) (c : Card) → (j ≡ k → ⊥) → reach (take (suc k) rounds) j c ≡ reach (take k rounds) j c
unfolding reach
reach_not [] zero j c h = refl
reach_not [] (suc k) j c h = refl
reach_not (round ∷ rounds) zero zero c h = absurd (h refl)
reach_not (round ∷ rounds) zero (suc j) c h = refl
reach_not (round ∷ rounds) (suc k) zero c h = refl
reach_not (round ∷ rounds) (suc k) (suc j) c h = reach_not rounds k j c (λ e. h (ap suc e))

-- a card whose turn is yet to come
pub reach_yet : (rounds : List Round) (j : ℕ) (c : Card) → reach (take j rounds) j c ≡ c
unfolding reach
reach_yet [] zero c = refl
reach_yet [] (suc j) c = refl
reach_yet (round ∷ rounds) zero c = refl
reach_yet (round ∷ rounds) (suc j) c = reach_yet rounds j c

-- what becomes of a card: one that began in Ready, with j distinct smaller identifiers, is reached in round j
unfoldable pub final : List Round → List ℕ → Card → Card
final rounds ids c = pick (is_ready c) (reach rounds (rank ids (identifier c)) c) c

ready_round : (m a : ℕ) (l : List Card) → ready_identifiers (map (one m a) l) ≡ without m (ready_identifiers l)
unfolding ready_identifiers without one
ready_round m a [] = refl
ready_round m a (c ∷ l) =
    cases (is_ready c)
    (λ p. cases (eqb (identifier c) m)
    (λ q. rw (p, q, ready_mmc c p) (ready_round m a l))
    (λ q. rw (p, q, p) (ap (λ t. identifier c ∷ t) (ready_round m a l))))
    (λ p. simp p (ready_round m a l))

pub ready_member : (l : List Card) (c : Card) → Memᴰ c l → is_ready c ≡ true → Memᴰ (identifier c) (ready_identifiers l)
unfolding ready_identifiers
ready_member [] c m p = absurd (mathlib.Core.List.Memᴰ.not-nil m)
ready_member (x ∷ l) c (mathlib.Core.List.Memᴰ.head e) p = rw (sym (ap is_ready e) ∙ p) (mathlib.Core.List.Memᴰ.head (ap identifier e))
ready_member (x ∷ l) c (mathlib.Core.List.Memᴰ.tail m) p = cases (is_ready x) (λ q. rw q (mathlib.Core.List.Memᴰ.tail (ready_member l c m p))) (λ q. rw q (ready_member l c m p))

-- after a round, the smallest is gone from the identifiers
pub ids_next : (m a : ℕ) (ms : List ℕ) (l : List Card) → distinct (ready_identifiers l) ≡ m ∷ ms → distinct (ready_identifiers (map (one m a) l)) ≡ ms
ids_next m a ms l e =
    ap distinct (ready_round m a l) ∙ distinct_without m (ready_identifiers l) ∙ ap (without m) e
    ∙ without_first m ms (subst Ascending e (distinct_ascending (ready_identifiers l)))

-- a card that is not in Ready is never reached, nor is one that was
pub final_none : (rounds : List Round) (ids : List ℕ) (c : Card) → is_ready c ≡ false → final rounds ids c ≡ c
unfolding final
final_none rounds ids c p = rw p

final_reached : (rounds : List Round) (ids : List ℕ) (a : ℕ) (c : Card) → final rounds ids (reached a c) ≡ reached a c
final_reached rounds ids a c = final_none rounds ids (reached a c) (never_both (not c.mode.spi))

pub final_one : (m : ℕ) (round : Round) (ms : List ℕ) (rounds : List Round) (l : List Card) → distinct (ready_identifiers l) ≡ m ∷ ms → (c : Card) → Memᴰ c l
    → final rounds ms (one m round.address c) ≡ final (round ∷ rounds) (m ∷ ms) c
unfolding final one rank reach Ascending
final_one m round ms rounds l e c k =
    cases (is_ready c)
    (λ p. cases (eqb (identifier c) m)
    (λ q. let h = eqb-true (identifier c) m q in
    ap₂ (λ (s t : Bool). final rounds ms (pick (s && t) (reached round.address c) c)) p q
    ∙ final_reached rounds ms round.address c
    ∙ rw (p, le-ltb m (identifier c) (omega arith)) (hit (identifier c) h))
    (λ q. let ne = eqb-false (identifier c) m q in
    let here : Memᴰ (identifier c) (m ∷ ms) =
    subst (Memᴰ (identifier c)) e (distinct_has (ready_identifiers l) (identifier c) (ready_member l c k p))
    in
    let lt : m < identifier c =
    ⊎_elim (λ r. absurd (ne r)) (λ r. under_member m ms asc.0 (identifier c) r) (mathlib.Core.List.Memᴰ.cases_cons here)
    in
    rw (p, q, p, lt-ltb m (identifier c) lt) (miss (rank ms (identifier c)))))
    (λ p. simp p)
  where
    asc : Under m ms × Ascending ms
    asc = subst Ascending e (distinct_ascending (ready_identifiers l))

    hit : (x : ℕ) → x ≡ m → reached round.address c ≡ reach (round ∷ rounds) (rank ms x) c
    hit x h = rw (h, rank_under m ms asc.0)

    miss : (j : ℕ) → reach rounds j c ≡ reach (round ∷ rounds) (suc j) c
    miss j = refl

pub none_ready : (l : List Card) → distinct (ready_identifiers l) ≡ [] → (c : Card) → Memᴰ c l → is_ready c ≡ true → ⊥
none_ready l e c k p = mathlib.Core.List.Memᴰ.not-nil (subst (Memᴰ (identifier c)) e (distinct_has (ready_identifiers l) (identifier c) (ready_member l c k p)))

pub ready_from : (l : List Card) (x : ℕ) → Memᴰ x (ready_identifiers l) → (c : Card) × Memᴰ c l × (is_ready c ≡ true) × (identifier c ≡ x)
unfolding ready_identifiers
ready_from [] x m = absurd (mathlib.Core.List.Memᴰ.not-nil m)
ready_from (y ∷ l) x m =
    cases (is_ready y)
    (λ p. ⊎_elim (λ e. (y, mathlib.Core.List.Memᴰ.head refl, p, sym e)) (λ k. let w = ready_from l x k in (w.0, mathlib.Core.List.Memᴰ.tail w.1, w.2, w.3)) (mathlib.Core.List.Memᴰ.cases_cons (rw p at m)))
    (λ p. let w = ready_from l x (rw p at m) in (w.0, mathlib.Core.List.Memᴰ.tail w.1, w.2, w.3))
