-- One round over a list of cards, none of them in Identification.
--   Good             each card has a CID of 16 bytes and is not in Identification; and `keeps`, that a round keeps it so
--   cid_commands, address_commands    CMD2 of any argument, and CMD3 with an address and any bits 15..0, for all cards
--   round_is         a round reaches the cards in Ready that hold the smallest identifier, and no other card changes
--   line_first       the line shows the bits of the smallest identifier
--   shows_first      CMD2 shows 3F and the 16 bytes of the smallest identifier; shows_none, nothing where no card is in Ready
--   cid_back         the 16 bytes of a card's identifier are its CID
-- Assumes nothing.
use mathlib.Core.Path.{◌≡◌, refl, sym, ap, ◌∙◌, subst}
use mathlib.Core.Bool.{Bool, true, false, not, ◌&&◌, false≢true}
use mathlib.Core.List.Memᴰ
use mathlib.Core.List.{List, [], ◌∷◌, map, Memᴰ, map-map}
use Prim.Native.Nat.{ℕ, suc, ◌/◌, ◌≤◌, ◌<◌}
use native.Mathlib.Omega.{arith}
use borrow.Author.Tests.{eqb-true, eq-eqb}
use lib.Dec.{eqb}
use lib.ListN.{length, get_or}
use Rattle.base.proofs.Cases.{cases}
use Rattle.base.specs.Choice.{pick}
use Rattle.bus.proofs.InSpi.{spi_stays, spi_loses, mmc_heard}
use Rattle.bus.specs.Bus.{is_ready, cid_sender, cid_bits, wins_line, command_at, card_after, any_ready, cid_line}
use Rattle.command.specs.declared.Commanded.{Commanded}
use Rattle.crc.proofs.Bits.{length_bits, bits_below, bits_of_spelt, octets_bits}
use Rattle.crc.specs.Bits.{bits_of, bits, spelt, octets, Below}
use Rattle.shared_line.proofs.Arbitration.{and_left, and_right, Bitwise, bitwise, winners, line_is_smallest, contested_length, contested_below}
use Rattle.shared_line.specs.Line.{Sender, contested}
use Rattle.card_record.specs.Record.{with_link}
use Rattle.card_record.specs.declared.Card.{Card}
use Rattle.card_record.specs.declared.Link.{Link}
use Rattle.states.specs.States.{column_of, column_number}
use Rattle.rounds.proofs.Commands.{identified, cid_sent, address_taken}
use Rattle.rounds.proofs.Distinct.{distinct_ascending, distinct_has, distinct_from, first_under}
use Rattle.rounds.proofs.Reach.{never_both, map_on, map_id, one, round_by, ready_member, ready_from, ready_mmc}
use Rattle.rounds.specs.Demand3.{identifier, cid_of, ready_identifiers, stood, reached, CidBytes, is_ident}
use Rattle.rounds.specs.Distinct.{distinct, Ascending}

-- ---- what is asked of the cards
abbrev pub GoodCard : Card → Type 0
GoodCard card = (is_ident card ≡ false) × CidBytes card.registers.cid

pub Good : List Card → Type 0
Good cards = (card : Card) → Memᴰ card cards → GoodCard card

pub good : {cards : List Card} → ((card : Card) → Memᴰ card cards → GoodCard card) → Good cards
unfolding Good
good h = h

pub good_card : {cards : List Card} → Good cards → (card : Card) → Memᴰ card cards → GoodCard card
unfolding Good
good_card h = h

pub keeps : (m a : ℕ) (cards : List Card) → Good cards → Good (map (one m a) cards)
unfolding Good one
keeps m a cards g card k =
    let w = Memᴰ.of_map (one m a) cards k in
    let h = g w.0 w.1 in
    subst GoodCard w.2 (cases (is_ready w.0 && eqb (identifier w.0) m) (λ q. rw q (never_both (not w.0.mode.spi), h.1)) (λ q. rw q h))

-- ---- a CID and its number
bytes_below : (l : List ℕ) → ((i : ℕ) → get_or l i 0 < 256) → Below 256 l
bytes_below [] h = tt
bytes_below (x ∷ l) h = (h 0, bytes_below l (λ i. h (suc i)))

bits_128 : (cid : List ℕ) → CidBytes cid → length (bits cid) ≡ cid_bits
bits_128 cid h = let e = h.0 in length_bits cid ∙ omega arith

-- the bits of a number of n bits
spelt_back : (n : ℕ) (l : List ℕ) → length l ≡ n → Below 2 l → bits_of n (spelt l) ≡ l
spelt_back n l e b = ap (λ (k : ℕ). bits_of k (spelt l)) (sym e) ∙ bits_of_spelt l b

pub cid_back : (card : Card) → CidBytes card.registers.cid → cid_of (identifier card) ≡ card.registers.cid
unfolding cid_of
cid_back card h =
    let cid : List ℕ = card.registers.cid in
    ap (octets 16) (spelt_back 128 (bits cid) (bits_128 cid h) (bits_below cid))
    ∙ ap (λ (n : ℕ). octets n (bits cid)) (sym h.0)
    ∙ octets_bits cid (bytes_below cid h.1)

-- ---- the two commands, at each card
with_link_lem : (card : Card) (link : Link) (t : Bool) → with_link card (pick t link card.link) ≡ pick t (with_link card link) card
with_link_lem card link true = refl
with_link_lem card link false = refl

-- what CMD2 leaves of a card among others, and CMD3 with an address
abbrev after_cid : List Card → Card → Card
after_cid cards card = pick (wins_line cards card && is_ready card) (with_link card (identified card.link)) card

abbrev after_address : ℕ → Card → Card
after_address a card = pick (is_ident card) (reached a card) card

cid_card : (cards : List Card) (argument : ℕ) (card : Card) → card_after cards 2 argument card ≡ after_cid cards card
unfolding card_after command_at
cid_card cards argument card =
    let w : Bool = wins_line cards card in
    let there : Bool = eqb (column_number (column_of card.link.state)) 1 in
    cases card.mode.spi
    (λ (s : card.mode.spi ≡ true).
    (spi_stays card s cards 2 argument).0 ∙ sym (ap (λ (v : Bool). pick (v && is_ready card) (with_link card (identified card.link)) card) (spi_loses cards card s)))
    (λ (s : card.mode.spi ≡ false).
    ap (λ (g : Commanded). with_link card g.link) (mmc_heard card w 2 argument s)
    ∙ ap (with_link card) (cid_sent card.link card.registers.ocr card.registers.groups card.lock.locked w argument)
    ∙ with_link_lem card (identified card.link) (w && there)
    ∙ ap (λ (b : Bool). pick (w && (not b && there)) (with_link card (identified card.link)) card) (sym s))

address_card : (cards : List Card) (a argument : ℕ) → 1 ≤ a → argument / 65536 ≡ a → (card : Card)
    → card_after cards 3 argument card ≡ after_address a card
unfolding card_after command_at
address_card cards a argument some high card =
    let w : Bool = wins_line cards card in
    let there : Bool = eqb (column_number (column_of card.link.state)) 2 in
    cases card.mode.spi
    (λ (s : card.mode.spi ≡ true).
    (spi_stays card s cards 3 argument).0 ∙ ap (λ (b : Bool). pick (not b && there) (reached a card) card) (sym s))
    (λ (s : card.mode.spi ≡ false).
    ap (λ (g : Commanded). with_link card g.link) (mmc_heard card w 3 argument s)
    ∙ ap (with_link card)
    (address_taken card.link card.registers.ocr card.registers.groups card.lock.locked w a argument some high)
    ∙ with_link_lem card (stood a card.link) there
    ∙ ap (λ (b : Bool). pick (not b && there) (reached a card) card) (sym s))

-- a round over a list of cards
unfoldable pub cid_round : List Card → List Card
cid_round cards = map (after_cid cards) cards

unfoldable pub address_round : ℕ → List Card → List Card
address_round a cards = map (after_address a) cards

-- is what the two commands do, whatever of their arguments is not read
pub cid_commands : (cards : List Card) (argument : ℕ) → map (card_after cards 2 argument) cards ≡ cid_round cards
unfolding cid_round
cid_commands cards argument = map_on (card_after cards 2 argument) (after_cid cards) cards (λ card k. cid_card cards argument card)

pub address_commands : (cards : List Card) (a argument : ℕ) → 1 ≤ a → argument / 65536 ≡ a → map (card_after cards 3 argument) cards ≡ address_round a cards
unfolding address_round
address_commands cards a argument some high =
    map_on (card_after cards 3 argument) (after_address a) cards (λ card k. address_card cards a argument some high card)

abbrev pub round : ℕ → List Card → List Card
round a cards = address_round a (cid_round cards)

-- ---- whether any card sends
any_ready_lem : (cards : List Card) (card : Card) → Memᴰ card cards → is_ready card ≡ true → any_ready cards ≡ true
unfolding any_ready
any_ready_lem [] card m p = absurd (Memᴰ.not-nil m)
any_ready_lem (x ∷ cards) card (Memᴰ.head e) p = rw (ap is_ready (sym e) ∙ p)
any_ready_lem (x ∷ cards) card (Memᴰ.tail m) p = cases (is_ready x) (λ q. rw q) (λ q. rw q (any_ready_lem cards card m p))

no_ready : (cards : List Card) → ((card : Card) → Memᴰ card cards → is_ready card ≡ true → ⊥) → any_ready cards ≡ false
unfolding any_ready
no_ready [] h = refl
no_ready (x ∷ cards) h =
    cases (is_ready x) (λ q. absurd (h x (Memᴰ.head refl) q)) (λ q. rw q (no_ready cards (λ card m p. h card (Memᴰ.tail m) p)))

module _ (cards : List Card) (g : Good cards) where
  -- the identifier of a card in Ready is among the distinct ones
  pub among : (card : Card) → Memᴰ card cards → is_ready card ≡ true → Memᴰ (identifier card) (distinct (ready_identifiers cards))
  among card k p = distinct_has (ready_identifiers cards) (identifier card) (ready_member cards card k p)

  senders : Bitwise cid_bits (map cid_sender cards)
  senders =
      bitwise
      (λ s k.
      let w = Memᴰ.of_map cid_sender cards k in
      let cid : List ℕ = w.0.registers.cid in
      subst (λ (z : Sender). (length z.bits ≡ cid_bits) × Below 2 z.bits) w.2 (bits_128 cid (good_card g w.0 w.1).1, bits_below cid))

  -- what the line shows is the smallest identifier
  line_first : (m : ℕ) (ms : List ℕ) → distinct (ready_identifiers cards) ≡ m ∷ ms → spelt (contested cid_bits (map cid_sender cards)) ≡ m
  line_first m ms e =
      let c = ready_from cards m (distinct_from (ready_identifiers cards) m (subst (Memᴰ m) (sym e) (Memᴰ.head refl))) in
      let b = line_is_smallest cid_bits (map cid_sender cards) senders (cid_sender c.0) (Memᴰ.map cid_sender c.1) c.2 in
      let z = Memᴰ.of_map cid_sender cards b.0.1 in
      let most : spelt (contested cid_bits (map cid_sender cards)) ≤ identifier c.0 = b.1 (cid_sender c.0) (Memᴰ.map cid_sender c.1) c.2 in
      let is : identifier z.0 ≡ spelt (contested cid_bits (map cid_sender cards)) = ap spelt (ap (λ (s : Sender). s.bits) z.2 ∙ b.0.3) in
      let least : m ≤ identifier z.0 =
      first_under m ms (subst Ascending e (distinct_ascending (ready_identifiers cards))) (identifier z.0)
      (subst (Memᴰ (identifier z.0)) e (among z.0 z.1 (ap (λ (s : Sender). s.on) z.2 ∙ b.0.2)))
      in
      let held : identifier c.0 ≡ m = c.3 in
      omega arith

  -- whether a card wins, by its identifier
  win : (card : Card) → Memᴰ card cards → wins_line cards card ≡ true
      → (is_ready card ≡ true) × (identifier card ≡ spelt (contested cid_bits (map cid_sender cards)))
  win card k w = (winners cid_bits (map cid_sender cards) senders (cid_sender card) (Memᴰ.map cid_sender k)).0 w

  wins_it : (card : Card) → Memᴰ card cards → is_ready card ≡ true → identifier card ≡ spelt (contested cid_bits (map cid_sender cards))
      → wins_line cards card ≡ true
  wins_it card k p e = (winners cid_bits (map cid_sender cards) senders (cid_sender card) (Memᴰ.map cid_sender k)).1 (p, e)

  -- a loser, and a card that sends nothing, is as it was after both commands
  loser : (a : ℕ) (card : Card) → Memᴰ card cards → wins_line cards card ≡ false → after_address a (after_cid cards card) ≡ card
  loser a card k w = rw (w, (good_card g card k).0)

  -- a winner takes the address
  winner : (a : ℕ) (card : Card) → wins_line cards card ≡ true → is_ready card ≡ true → after_address a (after_cid cards card) ≡ reached a card
  winner a card w p = rw (w, p, ready_mmc card p)

  round_at_lem : (a : ℕ) (ids : List ℕ) → distinct (ready_identifiers cards) ≡ ids → round a cards ≡ round_by ids a cards
  unfolding cid_round address_round one
  round_at_lem a [] e =
      map-map (after_address a) (after_cid cards) cards
      ∙ map_on _ (λ (card : Card). card) cards
      (λ card k.
      cases (wins_line cards card)
      (λ w. absurd (Memᴰ.not-nil (subst (Memᴰ (identifier card)) e (among card k (win card k w).0))))
      (λ w. loser a card k w))
      ∙ map_id cards
  round_at_lem a (m ∷ ms) e =
      map-map (after_address a) (after_cid cards) cards
      ∙ map_on _ _ cards
      (λ card k.
      cases (wins_line cards card)
      (λ w.
      let h = win card k w in
      winner a card w h.0 ∙ sym (rw (h.0, eq-eqb (identifier card) m (h.1 ∙ line_first m ms e))))
      (λ w.
      loser a card k w
      ∙ sym (cases (is_ready card && eqb (identifier card) m)
      (λ t.
      let p = and_left (is_ready card) (eqb (identifier card) m) t in
      let q = eqb-true (identifier card) m (and_right (is_ready card) (eqb (identifier card) m) t) in
      absurd (false≢true (sym w ∙ wins_it card k p (q ∙ sym (line_first m ms e)))))
      (λ t. rw t))))

  -- A round reaches those that hold the smallest identifier.
  pub round_is : (a : ℕ) → round a cards ≡ round_by (distinct (ready_identifiers cards)) a cards
  round_is a = round_at_lem a (distinct (ready_identifiers cards)) refl

  -- ---- what CMD2 shows
  pub shows_first : (m : ℕ) (ms : List ℕ) → distinct (ready_identifiers cards) ≡ m ∷ ms → cid_line cards ≡ 0x3F ∷ cid_of m
  unfolding cid_line cid_of
  shows_first m ms e =
      let c = ready_from cards m (distinct_from (ready_identifiers cards) m (subst (Memᴰ m) (sym e) (Memᴰ.head refl))) in
      let shown : List ℕ = contested cid_bits (map cid_sender cards) in
      let back = spelt_back cid_bits shown (contested_length cid_bits (map cid_sender cards)) (contested_below cid_bits (map cid_sender cards)) in
      ap (λ (t : Bool). pick t (0x3F ∷ octets 16 shown) []) (any_ready_lem cards c.0 c.1 c.2)
      ∙ ap (λ (l : List ℕ). 0x3F ∷ octets 16 l) (sym back ∙ ap (bits_of cid_bits) (line_first m ms e))

  pub shows_none : distinct (ready_identifiers cards) ≡ [] → cid_line cards ≡ []
  unfolding cid_line
  shows_none e =
      ap (λ (t : Bool). pick t (0x3F ∷ octets 16 (contested cid_bits (map cid_sender cards))) [])
      (no_ready cards (λ card k p. Memᴰ.not-nil (subst (Memᴰ (identifier card)) e (among card k p))))
