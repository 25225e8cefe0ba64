-- A command for all cards, in turns and all at once.
--   told_is_command   what the turns leave is what the definition says
--   line_is_heard     the bytes ANDed into the line are what it shows
--   tell_turn         one turn of the loop
--   tell_alone        one turn at a card that is left alone
--   turn_alone        a card that is left alone is as it was after its turn, and the line holds what it held
--   lost_alone        a card that contends and loses is left alone
--   turn_right        a card in its turn is told rightly whether it wins
--   heard_start, heard_turn   one turn more
--   heard_all         what is held after all turns
--   shown_silent, shown_bytes   what the line shows, by how many bytes were sent
--   filled            its bytes, copied to the front of zeros
-- Assumes nothing.
use mathlib.Core.Path.{◌≡◌, refl, sym, ap, ap₂, ◌∙◌, subst}
use mathlib.Core.Bool.{Bool, true, false, false≢true}
use mathlib.Core.List.{List, [], ◌∷◌, ◌++◌, map, Memᴰ}
use Prim.Native.Nat.{ℕ, zero, suc, ◌+◌, ◌*◌, ◌-◌, ◌≤◌, ◌<◌, max}
use native.Mathlib.Numerals.{add-one}
use native.Mathlib.Omega.{arith}
use borrow.Author.Tests.{eqb-true}
use lib.Dec.{eqb}
use lib.ListN.{length, take, drop, get_or, set, replicate}
use lib.Seq.{take-suc, take_all, length-take-le}
use Rattle.base.proofs.Cases.{cases}
use Rattle.base.proofs.Copying.{copied_front}
use Rattle.base.specs.Output.{copied}
use Rattle.card_record.specs.Sending.{sent_bytes}
use Rattle.command.specs.Answers.{silent}
use Rattle.command.specs.declared.Commanded.{Commanded}
use Rattle.crc.specs.Bits.{octets, Below}
use Rattle.shared_line.proofs.Together.{together_is_and}
use Rattle.shared_line.specs.Bytes.{anded, anded_all}
use Rattle.shared_line.specs.Line.{together}
use Rattle.card_record.specs.Record.{with_link}
use Rattle.card_record.specs.declared.Card.{Card}
use Rattle.bus.proofs.Cids.{cid_line_lem}
use Rattle.bus.proofs.Lists.{changed, changed_next, change_turn, set_same, first_all, get_or_in}
use Rattle.bus.proofs.Taking.{taken_any, taken_lost}
use Rattle.bus.proofs.Winners.{holders}
use Rattle.bus.specs.Bus.{count_of, cards_of, with_cards, wins_line, command_on, command_at, card_after, frame_from, longest_of, frame_sender, cid_line, and_line, line_of, shown_of, padded}
use Rattle.bus.specs.Contest.{low_from, low_for, holds_low, Held, HeldAll}
use Rattle.bus.specs.Hearing.{quiet, heard_of, heard_from, turn_of, sent_on, told_of}
use Rattle.bus.specs.declared.Bus.{Bus}
use Rattle.bus.specs.declared.Framed.{Framed}
use Rattle.bus.specs.declared.Heard.{Heard}
use Rattle.shared_line.specs.Lowest.{Low, no_low}
use Rattle.std.specs.Prelude.{is_some, Result, Option, Ok, Some, None}
use Rattle.bus.specs.declared.Turned.{Turned}
use Rattle.base.specs.declared.Refusal.{Refusal}

abbrev turned : Card → Heard → Turned
turned card heard = record { card = card; heard = heard }

-- a turn by what the command leaves
abbrev turned_by : Heard → Card → Commanded → Turned
turned_by heard card given = turned (with_link card given.link) (heard_of heard (sent_bytes card.registers given.sent))

-- ---- turn by turn
heard_snoc : (heard : Heard) (frames : List (List ℕ)) (frame : List ℕ)
    → heard_from heard (frames ++ frame ∷ []) ≡ heard_of (heard_from heard frames) frame
unfolding heard_from
heard_snoc heard [] frame = refl
heard_snoc heard (x ∷ frames) frame = heard_snoc (heard_of heard x) frames frame

map_snoc : {A B : Type 0} (f : A → B) (l : List A) (a : A) → map f (l ++ a ∷ []) ≡ map f l ++ f a ∷ []
map_snoc f [] a = refl
map_snoc f (x ∷ l) a = ap (λ t. f x ∷ t) (map_snoc f l a)

pub heard_start : (f : Card → List ℕ) (cards : List Card) → quiet ≡ heard_from quiet (map f (take 0 cards))
unfolding heard_from
heard_start f cards = refl

pub heard_turn : (f : Card → List ℕ) (cards : List Card) (i : ℕ) (d : Card) (was now : Heard) → i < length cards
    → was ≡ heard_from quiet (map f (take i cards)) → now ≡ heard_of was (f (get_or cards i d)) → now ≡ heard_from quiet (map f (take (i + 1) cards))
heard_turn f cards i d was now h p q =
    q ∙ ap (λ (l : Heard). heard_of l (f (get_or cards i d))) p
    ∙ sym
    (ap (λ (k : ℕ). heard_from quiet (map f (take k cards))) (add-one i)
    ∙ ap (λ (l : List Card). heard_from quiet (map f l)) (take-suc cards i d h)
    ∙ ap (heard_from quiet) (map_snoc f (take i cards) (get_or cards i d))
    ∙ heard_snoc quiet (map f (take i cards)) (f (get_or cards i d)))

pub heard_all : (heard : Heard) (frames : List (List ℕ))
    → ((heard_from heard frames).line ≡ anded_all heard.line frames) × ((heard_from heard frames).length ≡ max heard.length (longest_of frames))
unfolding heard_from heard_of anded_all longest_of
heard_all heard [] = (refl, omega arith)
heard_all heard (frame ∷ frames) = let r = heard_all (heard_of heard frame) frames in (r.0, r.1 ∙ omega arith)

-- ---- a card left alone
and_nothing : (line : List ℕ) → anded line [] ≡ line
unfolding anded
and_nothing [] = refl
and_nothing (b ∷ line) = refl

abbrev held : List ℕ → ℕ → Heard
held line length = record { line = line; length = length }

quiet_heard : (heard : Heard) → heard_of heard [] ≡ heard
unfolding heard_of
quiet_heard heard = let e : max heard.length 0 ≡ heard.length = omega arith in ap₂ held (and_nothing heard.line) e

pub turn_alone : (heard : Heard) (card : Card) (wins : Bool) (index argument : ℕ)
    → command_on card wins index argument ≡ silent card.link
    → turn_of heard card wins index argument ≡ turned card heard
unfolding turn_of sent_bytes
turn_alone heard card wins index argument e =
    ap (λ (g : Commanded). turned_by heard card g) e ∙ ap (λ (h : Heard). turned card h) (quiet_heard heard)

-- ---- who wins
pub turn_right : (bus : Bus) (index argument : ℕ) (low : Low) (card : Card) → low ≡ low_for bus index → HeldAll bus index
    → Memᴰ card (cards_of bus)
    → command_on card (holds_low low card) index argument ≡ command_at (cards_of bus) index argument card
unfolding command_at low_for
turn_right bus index argument low card e held m =
    cases (eqb index 2)
    (λ (t : eqb index 2 ≡ true).
    let all = first_all Held (count_of bus) bus.cards (held (eqb-true index 2 t)) in
    let found : low ≡ low_from no_low (cards_of bus) = simp t at e in
    ap (λ (w : Bool). command_on card w index argument)
    (ap (λ (l : Low). holds_low l card) found ∙ holders (cards_of bus) all card m))
    (λ (t : eqb index 2 ≡ false).
    taken_any card (holds_low low card) (wins_line (cards_of bus) card) index argument t)

-- one turn: the card after it, and what the line then holds
module _ (bus : Bus) (index argument : ℕ) where
  abbrev pub after : Card → Card
  after = card_after (cards_of bus) index argument

  abbrev pub frame : Card → List ℕ
  frame = frame_from (cards_of bus) index argument

  pub tell_turn : (i : ℕ) (d : Card) (low : Low) (next : List Card) (heard : Heard) (won : Bool) (turned : Turned)
      → length bus.cards ≡ 30 → i < count_of bus → low ≡ low_for bus index → HeldAll bus index
      → next ≡ changed after i bus.cards → heard ≡ heard_from quiet (map frame (take i bus.cards))
      → won ≡ holds_low low (get_or next i d) → turned ≡ turn_of heard (get_or next i d) won index argument
      → (set next i turned.card ≡ changed after (i + 1) bus.cards) × (turned.heard ≡ heard_from quiet (map frame (take (i + 1) bus.cards)))
  unfolding turn_of card_after frame_from
  tell_turn i d low next heard won turned long there found held en eh ew et =
      let cards : List Card = bus.cards in
      let card : Card = get_or cards i d in
      let here : get_or next i d ≡ card = changed_next after i cards next d en in
      let right = turn_right bus index argument low card found held (get_or_in (count_of bus) cards i d there (omega arith)) in
      let told : turned ≡ turn_of heard card (holds_low low card) index argument =
      et ∙ ap₂ (λ (c : Card) (w : Bool). turn_of heard c w index argument) here (ew ∙ ap (holds_low low) here) in
      let is : turned.card ≡ after card = ap (λ (t : Turned). t.card) told ∙ ap (λ (g : Commanded). with_link card g.link) right in
      let holds_low : turned.heard ≡ heard_of heard (frame card) =
      ap (λ (t : Turned). t.heard) told ∙ ap (λ (g : Commanded). heard_of heard (sent_bytes card.registers g.sent)) right in
      (change_turn after i cards next turned.card d en is, heard_turn frame cards i d heard turned.heard (omega arith) eh holds_low)

  pub tell_alone : (i : ℕ) (d : Card) (low : Low) (next : List Card) (heard : Heard) (won : Bool)
      → length bus.cards ≡ 30 → i < count_of bus → low ≡ low_for bus index → HeldAll bus index
      → next ≡ changed after i bus.cards → heard ≡ heard_from quiet (map frame (take i bus.cards))
      → won ≡ holds_low low (get_or next i d) → command_on (get_or next i d) won index argument ≡ silent (get_or next i d).link
      → (next ≡ changed after (i + 1) bus.cards) × (heard ≡ heard_from quiet (map frame (take (i + 1) bus.cards)))
  tell_alone i d low next heard won long there found held en eh ew alone =
      let card : Card = get_or next i d in
      let told : Turned = turn_of heard card won index argument in
      let more = tell_turn i d low next heard won told long there found held en eh ew refl in
      let same : told ≡ turned card heard = turn_alone heard card won index argument alone in
      let kept = sym (set_same next i d) ∙ ap (λ (t : Turned). set next i t.card) (sym same) in
      (kept ∙ more.0, ap (λ (t : Turned). t.heard) (sym same) ∙ more.1)

  -- a loser: the contest is CMD2's alone
  pub lost_alone : (low : Low) (card : Card) → low ≡ low_for bus index → is_some low ≡ true → command_on card false index argument ≡ silent card.link
  unfolding low_for no_low
  lost_alone low card found any =
      cases (eqb index 2)
      (λ (t : eqb index 2 ≡ true).
      subst (λ (k : ℕ). command_on card false k argument ≡ silent card.link) (sym (eqb-true index 2 t)) (taken_lost card argument))
      (λ (t : eqb index 2 ≡ false).
      let none : is_some low ≡ false = ap is_some (simp t at found) in
      absurd (false≢true (sym none ∙ any)))

-- ---- all at once
pub line_is_heard : (bus : Bus) (index argument : ℕ) (heard : Heard) → HeldAll bus index → heard.length ≤ 17 → Below 256 heard.line
    → heard ≡ heard_from quiet (map (frame_from (cards_of bus) index argument) (cards_of bus))
    → line_of (cards_of bus) index argument ≡ sent_on heard
unfolding line_of quiet and_line
line_is_heard bus index argument heard held short small e =
    let cards : List Card = cards_of bus in
    let frames : List (List ℕ) = map (frame_from cards index argument) cards in
    let all = heard_all quiet frames in
    let line : heard.line ≡ anded_all (replicate 17 255) frames = ap (λ (l : Heard). l.line) e ∙ all.0 in
    let long : heard.length ≡ longest_of frames = ap (λ (l : Heard). l.length) e ∙ all.1 ∙ omega arith in
    let both : and_line frames ≡ take heard.length heard.line =
    ap (λ (k : ℕ). octets k (together (8 * k) (map frame_sender frames))) (sym long)
    ∙ together_is_and heard.length 17 frames short (subst (Below 256) line small)
    ∙ ap (take heard.length) (sym line) in
    cases (eqb index 2)
    (λ (t : eqb index 2 ≡ true).
    let two : index ≡ 2 = eqb-true index 2 t in
    let all = first_all Held (count_of bus) bus.cards (held two) in
    let left : line_of cards index argument ≡ cid_line cards = simp t in
    left ∙ cid_line_lem cards all argument ∙ ap (λ (k : ℕ). and_line (map (frame_from cards k argument) cards)) (sym two) ∙ both)
    (λ (t : eqb index 2 ≡ false). let left : line_of cards index argument ≡ and_line frames = simp t in left ∙ both)

-- what a line of bytes is as an answer
abbrev answer_with : Bus → Result (Option ℕ) Refusal → List ℕ → Framed
answer_with bus shown line = record { bus = bus; shown = shown; line = line }

abbrev answer_of : Bus → List ℕ → Framed
answer_of bus line = answer_with bus (shown_of line) (padded line)

pub told_is_command : (bus next : Bus) (heard : Heard) (shown : Result (Option ℕ) Refusal) (bytes : List ℕ) (index argument : ℕ)
    → next ≡ with_cards bus (map (card_after (cards_of bus) index argument) (cards_of bus))
    → line_of (cards_of bus) index argument ≡ sent_on heard → shown ≡ shown_of (sent_on heard) → bytes ≡ padded (sent_on heard)
    → answer_with next shown bytes ≡ told_of bus index argument
unfolding told_of
told_is_command bus next heard shown bytes index argument cards line es eb = ap₂ (answer_with next) es eb ∙ ap₂ answer_of cards (sym line)

-- ---- shown
drop_replicate : (n m a : ℕ) → n ≤ m → drop n (replicate m a) ≡ replicate (m - n) a
drop_replicate zero m a h = let e : m ≡ m - 0 = omega arith in ap (λ (k : ℕ). replicate k a) e
drop_replicate (suc n) zero a h = absurd (omega arith)
drop_replicate (suc n) (suc m) a h =
    let e : m - n ≡ suc m - suc n = omega arith in drop_replicate n m a (omega arith) ∙ ap (λ (k : ℕ). replicate k a) e

abbrev pub zeros : List ℕ
zeros = replicate 17 0

shown_line : (l : List ℕ) (n : ℕ) → length l ≡ n → 1 ≤ n → Ok (Some n) ≡ shown_of l
shown_line [] n e h = absurd (omega arith)
shown_line (b ∷ l) n e h = ap (λ (k : ℕ). Ok (Some k)) (sym e)

shown_none : (l : List ℕ) → length l ≡ 0 → Ok None ≡ shown_of l
shown_none [] e = refl
shown_none (b ∷ l) e = absurd (omega arith)

module _ (heard : Heard) (short : heard.length ≤ 17) (long : length heard.line ≡ 17) where
  sent_length : length (sent_on heard) ≡ heard.length
  sent_length = length-take-le heard.length heard.line (omega arith)

  pub shown_silent : heard.length < 1 → Ok None ≡ shown_of (sent_on heard)
  shown_silent h = shown_none (sent_on heard) (sent_length ∙ omega arith)

  pub shown_bytes : 1 ≤ heard.length → Ok (Some heard.length) ≡ shown_of (sent_on heard)
  shown_bytes h = shown_line (sent_on heard) heard.length sent_length h

  pub filled : (line : List ℕ) → line ≡ copied (take (heard.length - 0) heard.line) zeros 0 → line ≡ padded (sent_on heard)
  unfolding padded
  filled line e =
      let whole : heard.length - 0 ≡ heard.length = omega arith in
      let first : List ℕ = sent_on heard in
      e
      ∙ ap (λ (k : ℕ). copied (take k heard.line) zeros 0) whole
      ∙ copied_front first zeros
      ∙ ap₂ (λ (l : List ℕ) (k : ℕ). l ++ drop k zeros) (take_all 17 first (omega (arith, sent_length))) sent_length
      ∙ ap (λ (l : List ℕ). first ++ l)
      (drop_replicate heard.length 17 0 short ∙ ap (λ (k : ℕ). replicate (17 - k) 0) (sym sent_length))
