-- The smallest CID that code finds, and who wins the line bit by bit.
--   holders      a card wins the line in CMD2 exactly if it is Ready and holds the CID that code finds
--   low_turn     one turn of the search
--   low_least    what is found is no larger than a Ready card's CID
--   low_from_lem     what is found is a Ready card's CID, or what was there before
--   better-.., holds-..   the step of the search and the question, as code tells their cases apart
-- Assumes nothing.
use mathlib.Core.Path.{◌≡◌, refl, sym, ap, ◌∙◌, subst}
use mathlib.Core.Bool.{Bool, true, false, ◌&&◌, false≢true}
use mathlib.Core.List.Memᴰ
use mathlib.Core.List.{List, [], ◌∷◌, ◌++◌, map, Memᴰ}
use mathlib.Core.Logic.{◌⊎◌, inl, inr, ⊎_elim}
use Prim.Native.Nat.{ℕ, ◌+◌, ◌*◌, ◌≤◌, ◌<◌}
use native.Mathlib.Nat.{le_refl}
use native.Mathlib.Numerals.{add-one}
use native.Mathlib.Omega.{arith}
use lib.ListN.{length, take, get_or}
use Rattle.std.specs.Prelude.{None, Some, is_some}
use lib.Seq.{take-suc}
use Rattle.base.proofs.Cases.{cases, last}
use Rattle.crc.proofs.Bits.{length_bits, bits_below}
use Rattle.crc.specs.Bits.{bits, spelt, Below}
use Rattle.shared_line.proofs.Arbitration.{Bitwise, bitwise, winners, line_is_smallest}
use Rattle.shared_line.proofs.Orders.{by_order_lem}
use Rattle.shared_line.specs.Line.{Sender, contested}
use Rattle.shared_line.specs.Lowest.{cid_number, Low, no_low, low_by, is_lower, lower_of, is_low}
use Rattle.card_record.specs.declared.Card.{Card}
use Rattle.bus.specs.Bus.{is_ready, cid_sender, cid_bits, wins_line}
use Rattle.bus.specs.Contest.{cid_of, better_of, low_from, holds_low, Held}

-- ---- the search
low_snoc : (low : Low) (cards : List Card) (card : Card) → low_from low (cards ++ card ∷ []) ≡ better_of (low_from low cards) card
unfolding low_from
low_snoc low [] card = refl
low_snoc low (x ∷ cards) card = low_snoc (better_of low x) cards card

pub low_start : (low : Low) (cards : List Card) → low ≡ low_from low (take 0 cards)
unfolding low_from
low_start low cards = refl

pub low_turn : (low was now : Low) (cards : List Card) (i : ℕ) (d : Card) → i < length cards → was ≡ low_from low (take i cards)
    → now ≡ better_of was (get_or cards i d) → now ≡ low_from low (take (i + 1) cards)
low_turn low was now cards i d h p q =
    q ∙ ap (λ (l : Low). better_of l (get_or cards i d)) p
    ∙ sym
    (ap (λ (k : ℕ). low_from low (take k cards)) (add-one i) ∙ ap (low_from low) (take-suc cards i d h)
    ∙ low_snoc low (take i cards) (get_or cards i d))

-- what was found is no larger than a number
abbrev pub AtMost : Low → ℕ → Type 0
AtMost None n = ⊥
AtMost (Some cid) n = cid_number cid ≤ n

-- one step: what was found is no larger, and a Ready card's CID is no smaller than what is found
better_old : (low : Low) (card : Card) (n : ℕ) → AtMost low n → AtMost (better_of low card) n
unfolding better_of lower_of is_lower
better_old None card n h = absurd h
better_old (Some low) card n h =
    cases (is_ready card)
    (λ r. by_order_lem (cid_of card) low (λ l o. rw (r, o) (omega arith)) (λ l o. rw (r, o) h) (λ l o. rw (r, o) h))
    (λ r. rw r h)

better_new : (low : Low) (card : Card) → is_ready card ≡ true → AtMost (better_of low card) (cid_number (cid_of card))
unfolding better_of lower_of is_lower
better_new None card r = rw r (le_refl (cid_number (cid_of card)))
better_new (Some low) card r =
    by_order_lem (cid_of card) low (λ h o. rw (r, o) (le_refl (cid_number (cid_of card)))) (λ h o. rw (r, o) (omega arith))
    (λ h o. rw (r, o) (omega arith))

better_from : (low : Low) (card : Card) → (better_of low card ≡ low) ⊎ ((is_ready card ≡ true) × (better_of low card ≡ low_by (cid_of card)))
unfolding better_of lower_of is_lower
better_from None card = cases (is_ready card) (λ r. inr (r, rw r)) (λ r. inl (rw r))
better_from (Some low) card =
    cases (is_ready card)
    (λ r. by_order_lem (cid_of card) low (λ h o. inr (r, rw (r, o))) (λ h o. inl (rw (r, o))) (λ h o. inl (rw (r, o))))
    (λ r. inl (rw r))

none_held : (low : Low) (card : Card) → (is_some low && is_ready card) ≡ false → false ≡ holds_low low card
unfolding holds_low is_low
none_held None card e = cases (is_ready card) (λ r. rw r) (λ r. rw r)
none_held (Some low) card e = let r : is_ready card ≡ false = e in rw r

-- the answers of the step and of the question, from the tests that code makes
module _ (low : Low) (card : Card) where
  module _ (ready : Bool) (told : ready ≡ is_ready card) where
    pub better_silent : ready ≡ false → low ≡ better_of low card
    unfolding better_of
    better_silent r = let e = sym told ∙ r in rw e

    module _ (sent : ready ≡ true) (lower : Bool) (asked : lower ≡ is_lower low (cid_of card)) where
      pub better_taken : lower ≡ true → low_by (cid_of card) ≡ better_of low card
      unfolding better_of lower_of
      better_taken l = let e = sym told ∙ sent in let f = sym asked ∙ l in rw (e, f)

      pub better_left : lower ≡ false → low ≡ better_of low card
      unfolding better_of lower_of
      better_left l = let e = sym told ∙ sent in let f = sym asked ∙ l in rw (e, f)

  -- a card that contends is asked; one that does not holds nothing that was found
  module _ (any arises : Bool) (found : any ≡ is_some low) (told : arises ≡ (any && is_ready card)) where
    pub holds_asked : {won : Bool} → arises ≡ true → won ≡ is_low low (cid_of card) → won ≡ holds_low low card
    unfolding holds_low
    holds_asked a asked = let r = last any (is_ready card) (sym told ∙ a) in rw r asked

    pub holds_silent : arises ≡ false → false ≡ holds_low low card
    holds_silent a = none_held low card (ap (λ (t : Bool). t && is_ready card) (sym found) ∙ sym told ∙ a)

low_old : (low : Low) (cards : List Card) (n : ℕ) → AtMost low n → AtMost (low_from low cards) n
unfolding low_from
low_old low [] n h = h
low_old low (card ∷ cards) n h = low_old (better_of low card) cards n (better_old low card n h)

pub low_least : (low : Low) (cards : List Card) (card : Card) → Memᴰ card cards → is_ready card ≡ true
    → AtMost (low_from low cards) (cid_number (cid_of card))
unfolding low_from
low_least low [] card m r = absurd (Memᴰ.not-nil m)
low_least low (x ∷ cards) card (Memᴰ.head e) r =
    subst (λ (z : Card). AtMost (low_from (better_of low x) cards) (cid_number (cid_of z))) (sym e)
    (low_old (better_of low x) cards (cid_number (cid_of x)) (better_new low x (ap is_ready (sym e) ∙ r)))
low_least low (x ∷ cards) card (Memᴰ.tail m) r = low_least (better_of low x) cards card m r

-- a Ready card of these holds what was found
abbrev pub Owned : Low → List Card → Type 0
Owned low cards = (card : Card) × Memᴰ card cards × (is_ready card ≡ true) × (low ≡ low_by (cid_of card))

pub low_from_lem : (low : Low) (cards : List Card) → (low_from low cards ≡ low) ⊎ Owned (low_from low cards) cards
unfolding low_from
low_from_lem low [] = inl refl
low_from_lem low (card ∷ cards) =
    ⊎_elim
    (λ e. ⊎_elim (λ f. inl (e ∙ f)) (λ f. inr (card, Memᴰ.head refl, f.0, e ∙ f.1)) (better_from low card))
    (λ w. inr (w.0, Memᴰ.tail w.1, w.2, w.3))
    (low_from_lem (better_of low card) cards)

-- ---- the line
module _ (cards : List Card) (held : (card : Card) → Memᴰ card cards → Held card) where
  pub cid_bitwise : Bitwise cid_bits (map cid_sender cards)
  cid_bitwise =
      bitwise
      (λ s m.
      let w = Memᴰ.of_map cid_sender cards m in
      subst (λ (z : Sender). (length z.bits ≡ cid_bits) × Below 2 z.bits) w.2
      (length_bits (cid_of w.0) ∙ ap (λ (n : ℕ). n * 8) (held w.0 w.1).0, bits_below (cid_of w.0)))

  -- where a card is Ready, a CID is found, and its number is the one that the line shows
  pub shown_low : (card : Card) → Memᴰ card cards → is_ready card ≡ true
      → (cid : List ℕ) × (low_from no_low cards ≡ low_by cid) × (spelt (contested cid_bits (map cid_sender cards)) ≡ cid_number cid)
  unfolding cid_number no_low
  shown_low card m r =
      let least = low_least no_low cards card m r in
      let own : Owned (low_from no_low cards) cards =
      ⊎_elim (λ e. absurd (subst (λ (l : Low). AtMost l (cid_number (cid_of card))) e least)) (λ w. w) (low_from_lem no_low cards) in
      let small = line_is_smallest cid_bits (map cid_sender cards) cid_bitwise (cid_sender own.0) (Memᴰ.map cid_sender own.1) own.2 in
      let from = Memᴰ.of_map cid_sender cards small.0.1 in
      let up = small.1 (cid_sender own.0) (Memᴰ.map cid_sender own.1) own.2 in
      let down = subst (λ (l : Low). AtMost l (cid_number (cid_of from.0))) own.3
      (low_least no_low cards from.0 from.1 (ap (λ (s : Sender). s.on) from.2 ∙ small.0.2)) in
      let shown : spelt (contested cid_bits (map cid_sender cards)) ≡ spelt (bits (cid_of from.0)) =
      ap spelt (sym (ap (λ (s : Sender). s.bits) from.2 ∙ small.0.3)) in
      (cid_of own.0, own.3, omega arith)

  pub holders : (card : Card) → Memᴰ card cards → holds_low (low_from no_low cards) card ≡ wins_line cards card
  unfolding holds_low is_low cid_number
  holders card m =
      let w = winners cid_bits (map cid_sender cards) cid_bitwise (cid_sender card) (Memᴰ.map cid_sender m) in
      let lost : (wins_line cards card ≡ true → ⊥) → wins_line cards card ≡ false =
      λ no. cases (wins_line cards card) (λ t. absurd (no t)) (λ t. t) in
      cases (is_ready card)
      (λ r.
      let low = shown_low card m r in
      by_order_lem (cid_of card) low.0
      (λ h o.
      let left : holds_low (low_from no_low cards) card ≡ false = rw (r, low.1, o) in left ∙ sym (lost (λ t. let e = (w.0 t).1 in omega (arith, low.2))))
      (λ h o. let left : holds_low (low_from no_low cards) card ≡ true = rw (r, low.1, o) in left ∙ sym (w.1 (r, h ∙ sym low.2)))
      (λ h o.
      let left : holds_low (low_from no_low cards) card ≡ false = rw (r, low.1, o) in
      left ∙ sym (lost (λ t. let e = (w.0 t).1 in omega (arith, low.2)))))
      (λ r.
      let left : holds_low (low_from no_low cards) card ≡ false = rw r in
      left ∙ sym (lost (λ t. false≢true (sym r ∙ (w.0 t).0))))
