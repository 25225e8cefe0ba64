-- Places of a bus, changed one after the other.
--   changed        the first n elements changed by f, the others as they were
--   change_turn    one turn of a loop that changes each element by f
--   changed_next   what is not reached yet is as it was
--   set_same       an element set to what it is: the list as it was
--   change_all     all cards changed: the bus of the changed cards
--   first_all      what holds in each of the first places holds of each card there
--   get_or_in        a card in one of the first places is one of the first cards
--   get_d_any       an element that is there does not depend on what stands for a missing one
--   bytes_held     a list of bytes, from its elements
-- Assumes nothing.
use mathlib.Core.Path.{◌≡◌, refl, sym, ap, ap₂, ◌∙◌, subst}
use mathlib.Core.List.Memᴰ
use mathlib.Core.List.{List, [], ◌∷◌, ◌++◌, map, Memᴰ}
use Prim.Native.Nat.{ℕ, zero, suc, ◌+◌, ◌<◌}
use native.Mathlib.Numerals.{add-one}
use native.Mathlib.Omega.{arith}
use lib.ListN.{length, take, drop, get_or, set, length-map}
use lib.Seq.{length-take-le}
use mir.Syntax.{w8}
use mir.Val.{Fits}
use Rattle.crc.proofs.Bits.{below_all}
use Rattle.crc.specs.Bits.{Below}
use Rattle.card_record.specs.declared.Card.{Card}
use Rattle.bus.specs.Bus.{count_of, cards_of, with_cards}
use Rattle.bus.specs.declared.Bus.{Bus}

abbrev pub changed : {A : Type 0} → (A → A) → ℕ → List A → List A
changed f n l = map f (take n l) ++ drop n l

changed_at : {A : Type 0} (f : A → A) (n : ℕ) (l : List A) (d : A) → get_or (changed f n l) n d ≡ get_or l n d
changed_at f zero l d = refl
changed_at f (suc n) [] d = refl
changed_at f (suc n) (a ∷ l) d = changed_at f n l d

changed_suc : {A : Type 0} (f : A → A) (n : ℕ) (l : List A) (d : A) → set (changed f n l) n (f (get_or l n d)) ≡ changed f (suc n) l
changed_suc f zero [] d = refl
changed_suc f (suc n) [] d = refl
changed_suc f zero (a ∷ l) d = refl
changed_suc f (suc n) (a ∷ l) d = ap (λ t. f a ∷ t) (changed_suc f n l d)

-- the element whose turn it is
pub changed_next : {A : Type 0} (f : A → A) (i : ℕ) (l m : List A) (d : A) → m ≡ changed f i l → get_or m i d ≡ get_or l i d
changed_next f i l m d e = ap (λ x. get_or x i d) e ∙ changed_at f i l d

pub change_turn : {A : Type 0} (f : A → A) (i : ℕ) (l m : List A) (v d : A) → m ≡ changed f i l → v ≡ f (get_or l i d)
    → set m i v ≡ changed f (i + 1) l
change_turn f i l m v d em ev =
    ap₂ (λ x y. set x i y) em ev ∙ changed_suc f i l d ∙ ap (λ (k : ℕ). changed f k l) (sym (add-one i))

pub set_same : {A : Type 0} (l : List A) (i : ℕ) (d : A) → set l i (get_or l i d) ≡ l
set_same [] zero d = refl
set_same [] (suc i) d = refl
set_same (a ∷ l) zero d = refl
set_same (a ∷ l) (suc i) d = ap (λ t. a ∷ t) (set_same l i d)

abbrev bus_of : List Card → ℕ → Bus
bus_of cards count = record { cards = cards; count = count }

pub change_all : (f : Card → Card) (bus next : Bus) (i : ℕ) → length bus.cards ≡ 30 → i ≡ count_of bus → next.count ≡ bus.count
    → next.cards ≡ changed f i bus.cards → next ≡ with_cards bus (map f (cards_of bus))
unfolding with_cards
change_all f bus next i long all count cards =
    let n : length (map f (cards_of bus)) ≡ count_of bus = length-map (cards_of bus) f ∙ length-take-le (count_of bus) bus.cards (omega arith) in
    ap₂ bus_of
    (cards ∙ ap (λ (k : ℕ). changed f k bus.cards) all ∙ ap (λ (k : ℕ). map f (cards_of bus) ++ drop k bus.cards) (sym n))
    count

pub first_all : (P : Card → Type 0) (n : ℕ) (l : List Card) → ((i : ℕ) (d : Card) → i < n → P (get_or l i d))
    → (c : Card) → Memᴰ c (take n l) → P c
first_all P zero l h c m = absurd (Memᴰ.not-nil m)
first_all P (suc n) [] h c m = absurd (Memᴰ.not-nil m)
first_all P (suc n) (x ∷ l) h c (Memᴰ.head e) = subst P (sym e) (h 0 x (omega arith))
first_all P (suc n) (x ∷ l) h c (Memᴰ.tail m) = first_all P n l (λ i d k. h (suc i) d (omega arith)) c m

pub get_d_any : {A : Type 0} (l : List A) (i : ℕ) (d e : A) → i < length l → get_or l i d ≡ get_or l i e
get_d_any [] i d e h = absurd (omega arith)
get_d_any (x ∷ l) zero d e h = refl
get_d_any (x ∷ l) (suc i) d e h = get_d_any l i d e (omega arith)

pub get_or_in : (n : ℕ) (l : List Card) (i : ℕ) (d : Card) → i < n → i < length l → Memᴰ (get_or l i d) (take n l)
get_or_in zero l i d h k = absurd (omega arith)
get_or_in (suc n) [] i d h k = absurd (omega arith)
get_or_in (suc n) (x ∷ l) zero d h k = Memᴰ.head refl
get_or_in (suc n) (x ∷ l) (suc i) d h k = Memᴰ.tail (get_or_in n l i d (omega arith) (omega arith))

pub bytes_held : (l : List ℕ) (n : ℕ) → length l ≡ n → ((i : ℕ) → Fits w8 (get_or l i 0)) → (length l ≡ n) × Below 256 l
bytes_held l n e h = (e, below_all 256 l (λ i. (h i).fits))
