-- Everything that can happen on a bus keeps its cards made.
--   bus_made       a frame for all cards, whatever it is
--   empty_made     an empty bus
--   added_made     adding a made card, taken or refused
--   put_made       putting a made card into a place, taken or not
--   taken_made     a card that is taken out of its place is made
-- Assumes nothing.
use mathlib.Core.Path.{◌≡◌, refl, sym, ap, subst}
use mathlib.Core.Bool.{true, false}
use mathlib.Core.Logic.{◌⊎◌, inl, inr, ⊎_elim}
use mathlib.Core.List.Memᴰ
use mathlib.Core.List.{List, [], ◌∷◌, ◌++◌, map, Memᴰ}
use Prim.Native.Nat.{ℕ, zero, suc, min}
use native.Mathlib.Omega.{arith}
use borrow.Author.Tests.{ltb-true}
use lib.Dec.{leb, ltb}
use lib.ListN.{length, take, drop, get_or, set}
use lib.Seq.{length-take-le, get_or-take}
use Rattle.bus.proofs.InSpi.{spi_stays, mmc_heard}
use Rattle.bus.specs.Bus.{most, count_of, cards_of, with_cards, empty_bus, added_to, taken_from, put_into, wins_line, command_at, card_after, bus_indices, damaged_card, command_for, framed_on, bus_frame}
use Rattle.bus.specs.declared.Added.{Added}
use Rattle.bus.specs.declared.Bus.{Bus}
use Rattle.bus.specs.declared.Framed.{Framed as Answered}
use Rattle.command.specs.declared.Commanded.{Commanded}
use Rattle.made.proofs.Stays.{command_made, damage_made}
use Rattle.base.proofs.Cases.{cases, picked, clash, guarded}
use Rattle.made.specs.Made.{Made}
use Rattle.moves.specs.Indices.{among}
use Rattle.card_record.specs.Making.{refused_make}
use Rattle.card_record.specs.Record.{with_link}
use Rattle.card_record.specs.declared.Card.{Card}
use Rattle.wire.specs.Frames.{framing_of}
use Rattle.rounds.proofs.Demand3.{in_place}
use Rattle.rounds.specs.MadeBus.{MadeBus}
use Rattle.std.specs.Prelude.{Result, Ok, Err, Option, Some}
use Rattle.base.specs.declared.Refusal.{Refusal}
use Rattle.wire.specs.declared.Fields.{Fields}

-- ---- lists of cards
-- the cards of a bus after each is changed, however many places there are
pub changed : (f : Card → Card) (n : ℕ) (l : List Card) → take n (map f (take n l) ++ drop (length (map f (take n l))) l) ≡ map f (take n l)
changed f zero l = refl
changed f (suc n) [] = refl
changed f (suc n) (c ∷ l) = ap (λ (t : List Card). f c ∷ t) (changed f n l)

-- a card that is set behind the others, or in the place of one of them
set_behind : (n : ℕ) (l : List Card) (c z : Card) → Memᴰ z (take (suc n) (set l n c)) → (z ≡ c) ⊎ Memᴰ z (take n l)
set_behind n [] c z m = absurd (Memᴰ.not-nil m)
set_behind zero (x ∷ l) c z m = ⊎_elim (λ e. inl e) (λ k. absurd (Memᴰ.not-nil k)) (Memᴰ.cases_cons m)
set_behind (suc n) (x ∷ l) c z m =
    ⊎_elim (λ e. inr (Memᴰ.head e)) (λ k. ⊎_elim (λ e. inl e) (λ j. inr (Memᴰ.tail j)) (set_behind n l c z k)) (Memᴰ.cases_cons m)

set_among : (n i : ℕ) (l : List Card) (c z : Card) → Memᴰ z (take n (set l i c)) → (z ≡ c) ⊎ Memᴰ z (take n l)
set_among zero i l c z m = inr m
set_among (suc n) i [] c z m = inr m
set_among (suc n) zero (x ∷ l) c z m = ⊎_elim (λ e. inl e) (λ k. inr (Memᴰ.tail k)) (Memᴰ.cases_cons m)
set_among (suc n) (suc i) (x ∷ l) c z m =
    ⊎_elim (λ e. inr (Memᴰ.head e)) (λ k. ⊎_elim (λ e. inl e) (λ j. inr (Memᴰ.tail j)) (set_among n i l c z k)) (Memᴰ.cases_cons m)

-- ---- frames
-- each card changed by something that keeps it made
each_made : (f : Card → Card) → ((card : Card) → Made card → Made (f card)) → (bus : Bus) → MadeBus bus → MadeBus (with_cards bus (map f (cards_of bus)))
unfolding with_cards
each_made f keeps bus made card m =
    let w = Memᴰ.of_map f (cards_of bus) (subst (Memᴰ card) (changed f (count_of bus) bus.cards) m) in
    subst Made w.2 (keeps w.0 (made w.0 w.1))

-- a command at one card, which one in SPI does not hear, and a damaged frame
commanded_card : (cards : List Card) (index argument : ℕ) (card : Card) → Made card → Made (card_after cards index argument card)
unfolding card_after command_at
commanded_card cards index argument card m =
    cases card.mode.spi
    (λ (s : card.mode.spi ≡ true). subst Made (sym (spi_stays card s cards index argument).0) m)
    (λ (s : card.mode.spi ≡ false).
    subst (λ (g : Commanded). Made (with_link card g.link)) (sym (mmc_heard card (wins_line cards card) index argument s))
    (command_made card s m (wins_line cards card) index argument))

damaged_card_lem : (card : Card) → Made card → Made (damaged_card card)
damaged_card_lem card m = picked Made card.mode.spi (λ s. m) (λ s. damage_made card s m)

module _ (bus : Bus) (made : MadeBus bus) where
  abbrev Keeps : Answered → Type 0
  Keeps answered = MadeBus answered.bus

  commanded_made : (index argument : ℕ) → Keeps (command_for bus index argument)
  unfolding command_for
  commanded_made index argument =
      guarded Keeps (among index bus_indices) (λ e. made)
      (λ e. each_made (card_after (cards_of bus) index argument) (commanded_card (cards_of bus) index argument) bus made)

  framed_made : (framing : Result Fields Refusal) → Keeps (framed_on bus framing)
  framed_made (Err refusal) = made
  framed_made (Ok fields) =
      guarded Keeps fields.crc_right (λ e. each_made damaged_card damaged_card_lem bus made) (λ e. commanded_made fields.index fields.argument)

  pub bus_made : (frame : List ℕ) → MadeBus (bus_frame bus frame).bus
  unfolding bus_frame
  bus_made frame = guarded Keeps (leb 1 (count_of bus)) (λ e. made) (λ e. framed_made (framing_of frame))

  -- ---- cards put in and taken out
  pub added_made : (card : Card) → Made card → MadeBus (added_to bus card).bus
  unfolding added_to
  added_made card m =
      guarded (λ (added : Added). MadeBus added.bus) (ltb (count_of bus) most) (λ e. made)
      (λ e z k.
      let room = ltb-true (count_of bus) most e in
      let n : min (suc (count_of bus)) most ≡ suc (count_of bus) = omega arith in
      ⊎_elim (λ (q : z ≡ card). subst Made (sym q) m) (λ (j : Memᴰ z (cards_of bus)). made z j)
      (set_behind (count_of bus) bus.cards card z (subst (λ (i : ℕ). Memᴰ z (take i (set bus.cards (count_of bus) card))) n k)))

  pub put_made : (place : ℕ) (card : Card) → Made card → MadeBus (put_into bus place card)
  unfolding put_into
  put_made place card m =
      guarded MadeBus (ltb place (count_of bus)) (λ e. made)
      (λ e z k.
      ⊎_elim (λ (q : z ≡ card). subst Made (sym q) m) (λ (j : Memᴰ z (cards_of bus)). made z j)
      (set_among (count_of bus) place bus.cards card z k))

  -- the 30 places are what the type of a bus says
  pub taken_made : length bus.cards ≡ 30 → (place : ℕ) → (card : Card) → taken_from bus place ≡ Some card → Made card
  unfolding taken_from
  taken_made n place =
      guarded (λ (taken : Option Card). (card : Card) → taken ≡ Some card → Made card) (ltb place (count_of bus)) (λ e card no. clash cc)
      (λ e card yes.
      let is : get_or bus.cards place refused_make ≡ card = cc in
      let here = ltb-true place (count_of bus) e in
      let count = length-take-le (count_of bus) bus.cards (omega arith) in
      subst Made is
      (subst Made (get_or-take (count_of bus) bus.cards place refused_make here)
      (made (get_or (cards_of bus) place refused_make) (in_place (cards_of bus) place refused_make (omega arith)))))

pub empty_made : MadeBus empty_bus
unfolding empty_bus
empty_made card m = absurd (Memᴰ.not-nil m)
