-- Who wins the line where losers fall silent, and what it shows.
--   Bitwise            each card on the line has so many bits to send, each 0 or 1
--   winners            the winners are the senders whose bits spell what the line shows
--   line_is_smallest   where anyone sends, what the line shows is what a sender has, and no sender has a smaller number
--   holders_win        the winners are the senders that hold the smallest number
--   someone            where anyone sends, someone wins
--   wins_shown, shown_wins    a winner sent all that the line shows, and whoever sends all that is a winner
--   contested_length, contested_below    it shows so many bits
--   line_at_most       it is at a card's bit, or below
--   spelt_cons, spelt_one    the number that bits spell, and that it spells them
-- Assumes nothing.
use mathlib.Core.Path.{◌≡◌, refl, sym, ap, ap₂, ◌∙◌, subst}
use mathlib.Core.Bool.{Bool, true, false, ◌&&◌, false≢true}
use mathlib.Core.List.Memᴰ
use mathlib.Core.List.{List, [], ◌∷◌, map, Memᴰ}
use mathlib.Core.Logic.{◌↔◌}
use Prim.Native.Nat.{ℕ, zero, suc, ◌+◌, ◌*◌, ◌^◌, ◌≤◌, ◌<◌, min}
use native.Mathlib.Nat.{zero-add, suc-mul, mul-le-mul_right}
use native.Mathlib.Omega.{arith}
use borrow.Author.Tests.{leb-true, leb-false, le-leb}
use lib.Dec.{leb}
use lib.ListN.{length}
use Rattle.base.proofs.Cases.{cases}
use Rattle.base.specs.Choice.{pick}
use Rattle.crc.proofs.Bits.{onward_is, spelt_lt, bits_of_spelt}
use Rattle.crc.specs.Bits.{bits_of, spelt, Below}
use Rattle.shared_line.specs.Line.{Sender, top, rest, line, heard, contested, wins}

-- ---- tests
pub and_left : (a b : Bool) → (a && b) ≡ true → a ≡ true
and_left true b e = refl
and_left false b e = e

pub and_right : (a b : Bool) → (a && b) ≡ true → b ≡ true
and_right true b e = e
and_right false b e = absurd (false≢true e)

-- ---- one bit
pub line_at_most : (ss : List Sender) (s : Sender) → Memᴰ s ss → s.on ≡ true → line ss ≤ top s.bits
unfolding line
line_at_most [] s m on = absurd (Memᴰ.not-nil m)
line_at_most (x ∷ ss) s (Memᴰ.head e) on = rw (sym e, on) (omega arith)
line_at_most (x ∷ ss) s (Memᴰ.tail m) on = omega (arith, line_at_most ss s m on)

line_bit : (ss : List Sender) → line ss < 2
unfolding line
line_bit [] = omega arith
line_bit (x ∷ ss) = omega (arith, line_bit ss)

-- where the line shows 0, some card sends it
abbrev Zero : List Sender → Type 0
Zero ss = (s : Sender) × Memᴰ s ss × (s.on ≡ true) × (top s.bits ≡ 0)

later : (x : Sender) (ss : List Sender) → Zero ss → Zero (x ∷ ss)
later x ss z = (z.0, Memᴰ.tail z.1, z.2, z.3)

zero_at : (x : Sender) (ss : List Sender) (below : ℕ) → (below ≡ 0 → Zero ss) → (on : Bool) (bit : ℕ) → x.on ≡ on → top x.bits ≡ bit
    → min (pick on bit 1) below ≡ 0 → Zero (x ∷ ss)
zero_at x ss below before true zero p q e = (x, Memᴰ.head refl, p, q)
zero_at x ss below before true (suc bit) p q e = later x ss (before (omega arith))
zero_at x ss below before false bit p q e = later x ss (before (omega arith))

line_zero : (ss : List Sender) → line ss ≡ 0 → Zero ss
unfolding line
line_zero [] e = absurd (omega arith)
line_zero (x ∷ ss) e = zero_at x ss (line ss) (λ r. line_zero ss r) x.on (top x.bits) refl refl e

-- who is heard on has sent what the line shows, and the other way round
stays : (shows bit : ℕ) (on : Bool) → (on && leb bit shows) ≡ true → (on ≡ true) × (bit ≤ shows)
stays shows bit on e = (and_left on (leb bit shows) e, leb-true bit shows (and_right on (leb bit shows) e))

stays_on : (shows bit : ℕ) (on : Bool) → on ≡ true → bit ≤ shows → (on && leb bit shows) ≡ true
stays_on shows bit on e h = rw (e, le-leb bit shows h)

-- ---- lists of bits
whole : (l : List ℕ) (n : ℕ) → length l ≡ suc n → l ≡ top l ∷ rest l
whole [] n e = absurd (omega arith)
whole (b ∷ l) n e = refl

rest_length : (l : List ℕ) (n : ℕ) → length l ≡ suc n → length (rest l) ≡ n
rest_length [] n e = absurd (omega arith)
rest_length (b ∷ l) n e = omega arith

top_bit : (l : List ℕ) → Below 2 l → top l < 2
top_bit [] b = omega arith
top_bit (x ∷ l) b = b.0

rest_below : (l : List ℕ) → Below 2 l → Below 2 (rest l)
rest_below [] b = tt
rest_below (x ∷ l) b = b.1

none : (l : List ℕ) → length l ≡ 0 → l ≡ []
none [] e = refl
none (b ∷ l) e = absurd (omega arith)

-- the first bit counts for so much, and all the others for less than that
pub spelt_cons : (b : ℕ) (l : List ℕ) → spelt (b ∷ l) ≡ b * 2 ^ length l + spelt l
spelt_cons b l = simp zero-add (onward_is b l)

-- bits that spell the same number are the same, if they are as many
pub spelt_one : (xs ys : List ℕ) → Below 2 xs → Below 2 ys → length xs ≡ length ys → spelt xs ≡ spelt ys → xs ≡ ys
spelt_one xs ys bx by h e = sym (bits_of_spelt xs bx) ∙ ap₂ bits_of h e ∙ bits_of_spelt ys by

-- ---- many bits
-- A winner sent all that the line shows.
pub wins_shown : (n : ℕ) (ss : List Sender) (s : Sender) → Memᴰ s ss → length s.bits ≡ n → wins n ss s ≡ true
    → (s.on ≡ true) × (s.bits ≡ contested n ss)
unfolding wins contested
wins_shown zero ss s m h w = (w, none s.bits h)
wins_shown (suc n) ss s m h w =
    let l : ℕ = line ss in
    let ih = wins_shown n (map (heard l) ss) (heard l s) (Memᴰ.map (heard l) m) (rest_length s.bits n h) w in
    let on = stays l (top s.bits) s.on ih.0 in
    let t : top s.bits ≡ l = omega (arith, on.1, line_at_most ss s m on.0) in
    (on.0, whole s.bits n h ∙ ap₂ (λ (x : ℕ) (xs : List ℕ). x ∷ xs) t ih.1)

-- Whoever sends all that the line shows is a winner.
pub shown_wins : (n : ℕ) (ss : List Sender) (s : Sender) → s.on ≡ true → s.bits ≡ contested n ss → wins n ss s ≡ true
unfolding wins contested
shown_wins zero ss s on e = on
shown_wins (suc n) ss s on e =
    let l : ℕ = line ss in
    let t : top s.bits ≡ l = ap top e in
    shown_wins n (map (heard l) ss) (heard l s) (stays_on l (top s.bits) s.on on (omega arith)) (ap rest e)

pub contested_length : (n : ℕ) (ss : List Sender) → length (contested n ss) ≡ n
unfolding contested
contested_length zero ss = refl
contested_length (suc n) ss = ap suc (contested_length n (map (heard (line ss)) ss))

pub contested_below : (n : ℕ) (ss : List Sender) → Below 2 (contested n ss)
unfolding contested
contested_below zero ss = tt
contested_below (suc n) ss = (line_bit ss, contested_below n (map (heard (line ss)) ss))

-- each card on the line has so many bits, each 0 or 1
pub Bitwise : ℕ → List Sender → Type 0
Bitwise n ss = (s : Sender) → Memᴰ s ss → (length s.bits ≡ n) × Below 2 s.bits

pub bitwise : {n : ℕ} {ss : List Sender} → ((s : Sender) → Memᴰ s ss → (length s.bits ≡ n) × Below 2 s.bits) → Bitwise n ss
unfolding Bitwise
bitwise h = h

bits_of_lem : (n : ℕ) (ss : List Sender) → Bitwise n ss → (s : Sender) → Memᴰ s ss → (length s.bits ≡ n) × Below 2 s.bits
unfolding Bitwise
bits_of_lem n ss h = h

bitwise_on : (n l : ℕ) (ss : List Sender) → Bitwise (suc n) ss → Bitwise n (map (heard l) ss)
unfolding Bitwise
bitwise_on n l ss h s m =
    let w = Memᴰ.of_map (heard l) ss m in
    let b = h w.0 w.1 in
    subst (λ (z : Sender). (length z.bits ≡ n) × Below 2 z.bits) w.2 (rest_length w.0.bits n b.0, rest_below w.0.bits b.1)

-- as long as some card sends, some card is heard on after the bit
still : (n : ℕ) (ss : List Sender) → Bitwise n ss → (s : Sender) → Memᴰ s ss → s.on ≡ true → (shows : ℕ) → line ss ≡ shows
    → (z : Sender) × Memᴰ z ss × ((heard shows z).on ≡ true)
still n ss b s m on zero e =
    let z = line_zero ss e in (z.0, z.1, stays_on 0 (top z.0.bits) z.0.on z.2 (omega (arith, z.3)))
still n ss b s m on (suc k) e =
    (s, m, stays_on (suc k) (top s.bits) s.on on (omega (arith, top_bit s.bits (bits_of_lem n ss b s m).1)))

-- Where anyone sends, someone wins.
pub someone : (n : ℕ) (ss : List Sender) → Bitwise n ss → (s : Sender) → Memᴰ s ss → s.on ≡ true
    → (z : Sender) × Memᴰ z ss × (wins n ss z ≡ true)
unfolding wins
someone zero ss b s m on = (s, m, on)
someone (suc n) ss b s m on =
    let l : ℕ = line ss in
    let w = still (suc n) ss b s m on l refl in
    let z = someone n (map (heard l) ss) (bitwise_on n l ss b) (heard l w.0) (Memᴰ.map (heard l) w.1) w.2 in
    let from = Memᴰ.of_map (heard l) ss z.1 in
    (from.0, from.1, rw from.2 z.2)

least : (shows bit : ℕ) (w bs : List ℕ) → length w ≡ length bs → Below 2 w → shows ≤ bit → (bit ≡ shows → spelt w ≤ spelt bs)
    → spelt (shows ∷ w) ≤ spelt (bit ∷ bs)
least shows bit w bs h b below equal =
    rw (spelt_cons shows w, spelt_cons bit bs, h)
    (cases (leb bit shows)
    (λ t. let e : bit ≡ shows = omega (arith, leb-true bit shows t) in rw e (omega (arith, equal e)))
    (λ t.
    let more : suc shows ≤ bit = omega (arith, leb-false bit shows t) in
    let small : spelt w < 2 ^ length bs = rw h at (spelt_lt w b) in
    omega (arith, mul-le-mul_right (2 ^ length bs) more, suc-mul shows (2 ^ length bs))))

-- What the line shows is at most what each sender has.
pub shown_least : (n : ℕ) (ss : List Sender) (s : Sender) → Memᴰ s ss → s.on ≡ true → length s.bits ≡ n
    → spelt (contested n ss) ≤ spelt s.bits
unfolding contested
shown_least zero ss s m on h = omega arith
shown_least (suc n) ss s m on h =
    let l : ℕ = line ss in
    let ms : List Sender = map (heard l) ss in
    subst (λ (k : List ℕ). spelt (l ∷ contested n ms) ≤ spelt k) (sym (whole s.bits n h))
    (least l (top s.bits) (contested n ms) (rest s.bits) (contested_length n ms ∙ sym (rest_length s.bits n h)) (contested_below n ms)
    (line_at_most ss s m on)
    (λ q. shown_least n ms (heard l s) (Memᴰ.map (heard l) m) (stays_on l (top s.bits) s.on on (omega arith)) (rest_length s.bits n h)))

-- ---- together
module _ (n : ℕ) (ss : List Sender) (b : Bitwise n ss) where
  -- what the line shows is the bits of a sender, and their number is at most that of each
  pub line_is_smallest : (s : Sender) → Memᴰ s ss → s.on ≡ true
      → ((z : Sender) × Memᴰ z ss × (z.on ≡ true) × (z.bits ≡ contested n ss))
      × ((z : Sender) → Memᴰ z ss → z.on ≡ true → spelt (contested n ss) ≤ spelt z.bits)
  line_is_smallest s m on =
      let w = someone n ss b s m on in
      let q = wins_shown n ss w.0 w.1 (bits_of_lem n ss b w.0 w.1).0 w.2 in
      ((w.0, w.1, q.0, q.1), λ z k p. shown_least n ss z k p (bits_of_lem n ss b z k).0)

  -- the winners are the senders that hold what the line shows
  pub winners : (s : Sender) → Memᴰ s ss → (wins n ss s ≡ true) ↔ ((s.on ≡ true) × (spelt s.bits ≡ spelt (contested n ss)))
  winners s m =
      let w = bits_of_lem n ss b s m in (
        λ (t : wins n ss s ≡ true). (let q = wins_shown n ss s m w.0 t in (q.0, ap spelt q.1)),
        λ h. shown_wins n ss s h.0
            (spelt_one s.bits (contested n ss) w.1 (contested_below n ss) (w.0 ∙ sym (contested_length n ss)) h.1),
      )

  -- and so those that hold a number that no sender's is below
  pub holders_win : (s : Sender) → Memᴰ s ss
      → (wins n ss s ≡ true) ↔ ((s.on ≡ true) × ((z : Sender) → Memᴰ z ss → z.on ≡ true → spelt s.bits ≤ spelt z.bits))
  holders_win s m = (
    λ t. (let q = (winners s m).0 t in (q.0, λ z k on. (let h = shown_least n ss z k on (bits_of_lem n ss b z k).0 in omega (arith, q.1)))),
    λ h.
        (let small = line_is_smallest s m h.0 in
        let z = small.0 in
        let low : spelt s.bits ≤ spelt (contested n ss) = subst (λ (l : List ℕ). spelt s.bits ≤ spelt l) z.3 (h.1 z.0 z.1 z.2) in
        let high : spelt (contested n ss) ≤ spelt s.bits = small.1 s m h.0 in
        (winners s m).1 (h.0, omega arith)),
  )
