-- Where all go on, the line shows the bitwise AND of the frames: bit by bit as the definition has it, byte by byte as code finds it.
--   together_is_and   the bytes that the line shows are those of the frames ANDed into as many bytes FF
--   one_voice         where each frame is empty or the same, and one is there, the line shows that one
--   mins              two rows of bits, the lower one at each place, as long as the second lasts
--   bits_anded        the bits of two rows of bytes ANDed are the lower bits
--   together_mins     what the line shows are the lower bits of all that is sent
--   anded_start, anded_turn, anded_all_lem   a byte more, and all of them
--   take_anded, length_anded
-- Assumes nothing.
use mathlib.Core.Path.{◌≡◌, refl, sym, ap, ap₂, ◌∙◌, subst}
use mathlib.Core.Bool.{true}
use mathlib.Core.List.Memᴰ
use mathlib.Core.List.{List, [], ◌∷◌, ◌++◌, map, Memᴰ}
use mathlib.Core.Logic.{◌⊎◌, ⊎_elim}
use Prim.Native.Nat.{ℕ, zero, suc, ◌+◌, ◌*◌, ◌≤◌, ◌<◌, min}
use native.Mathlib.Numerals.{add-one}
use native.Mathlib.Omega.{arith}
use lib.Bits.{bit_and}
use lib.ListN.{length, take, get_or, set, replicate, length-replicate, replicate-append-replicate}
use Rattle.crc.proofs.Bits.{bits_below, length_bits, octets_bits, below_take}
use Rattle.crc.specs.Bits.{bits_of, bits, octets, Below}
use Rattle.status.proofs.Bits.{bit_and_lem}
use Rattle.shared_line.specs.Bytes.{sending, anded, anded_all}
use Rattle.shared_line.specs.Line.{Sender, line, onward, together}

-- ---- bits
abbrev pub mins : List ℕ → List ℕ → List ℕ
mins [] ys = []
mins (x ∷ xs) [] = x ∷ xs
mins (x ∷ xs) (y ∷ ys) = min x y ∷ mins xs ys

mins_none : (xs : List ℕ) → mins xs [] ≡ xs
mins_none [] = refl
mins_none (x ∷ xs) = refl

mins_swap : (xs ys zs : List ℕ) → mins (mins xs ys) zs ≡ mins (mins xs zs) ys
mins_swap [] ys zs = refl
mins_swap (x ∷ xs) [] [] = refl
mins_swap (x ∷ xs) [] (z ∷ zs) = refl
mins_swap (x ∷ xs) (y ∷ ys) [] = refl
mins_swap (x ∷ xs) (y ∷ ys) (z ∷ zs) =
    let e : min (min x y) z ≡ min (min x z) y = omega arith in
    ap₂ (λ (b : ℕ) (l : List ℕ). b ∷ l) e (mins_swap xs ys zs)

mins_twice : (xs ys : List ℕ) → mins (mins xs ys) ys ≡ mins xs ys
mins_twice [] ys = refl
mins_twice (x ∷ xs) [] = refl
mins_twice (x ∷ xs) (y ∷ ys) =
    let e : min (min x y) y ≡ min x y = omega arith in
    ap₂ (λ (b : ℕ) (l : List ℕ). b ∷ l) e (mins_twice xs ys)

mins_append : (xs ys us vs : List ℕ) → length xs ≡ length ys → mins (xs ++ us) (ys ++ vs) ≡ mins xs ys ++ mins us vs
mins_append [] [] us vs e = refl
mins_append [] (y ∷ ys) us vs e = absurd (omega arith)
mins_append (x ∷ xs) [] us vs e = absurd (omega arith)
mins_append (x ∷ xs) (y ∷ ys) us vs e = ap (λ (l : List ℕ). min x y ∷ l) (mins_append xs ys us vs (omega arith))

-- a line at 1 shows what is sent
mins_ones : (l : List ℕ) (n : ℕ) → length l ≡ n → Below 2 l → mins (replicate n 1) l ≡ l
mins_ones [] zero e h = refl
mins_ones [] (suc n) e h = absurd (omega arith)
mins_ones (x ∷ l) zero e h = absurd (omega arith)
mins_ones (x ∷ l) (suc n) e h =
    let m : min 1 x ≡ x = omega (arith, h.0) in
    ap₂ (λ (b : ℕ) (k : List ℕ). b ∷ k) m (mins_ones l n (omega arith) h.1)

-- the lower bits of a row and of the bits of each frame
abbrev mins_all : List ℕ → List (List ℕ) → List ℕ
mins_all row [] = row
mins_all row (frame ∷ frames) = mins_all (mins row (bits frame)) frames

mins_all_under : (row x : List ℕ) (frames : List (List ℕ)) → mins_all (mins row x) frames ≡ mins (mins_all row frames) x
mins_all_under row x [] = refl
mins_all_under row x (frame ∷ frames) =
    ap (λ (l : List ℕ). mins_all l frames) (mins_swap row x (bits frame)) ∙ mins_all_under (mins row (bits frame)) x frames

-- ---- the line
line_bit : (ss : List Sender) → line ss ≤ 1
unfolding line
line_bit [] = omega arith
line_bit (s ∷ ss) = omega (arith, line_bit ss)

together_none : (n : ℕ) → together n [] ≡ replicate n 1
unfolding together line
together_none zero = refl
together_none (suc n) = ap (λ (l : List ℕ). 1 ∷ l) (together_none n)

-- one more sender
together_more : (n : ℕ) (row : List ℕ) (ss : List Sender)
    → together n (record { on = true; bits = row } ∷ ss) ≡ mins (together n ss) row
unfolding together line
together_more zero row ss = refl
together_more (suc n) [] ss =
    let e : min 1 (line ss) ≡ line ss = omega (arith, line_bit ss) in
    ap₂ (λ (b : ℕ) (l : List ℕ). b ∷ l) e (together_more n [] (map onward ss) ∙ mins_none (together n (map onward ss)))
together_more (suc n) (b ∷ row) ss =
    let e : min b (line ss) ≡ min (line ss) b = omega arith in
    ap₂ (λ (x : ℕ) (l : List ℕ). x ∷ l) e (together_more n row (map onward ss))

pub together_mins : (n : ℕ) (frames : List (List ℕ)) → together n (map sending frames) ≡ mins_all (replicate n 1) frames
together_mins n [] = together_none n
together_mins n (frame ∷ frames) =
    together_more n (bits frame) (map sending frames)
    ∙ ap (λ (l : List ℕ). mins l (bits frame)) (together_mins n frames)
    ∙ sym (mins_all_under (replicate n 1) (bits frame) frames)

-- ---- bytes
bits_of_and : (k x y : ℕ) → bits_of k (bit_and x y) ≡ mins (bits_of k x) (bits_of k y)
bits_of_and zero x y = refl
bits_of_and (suc k) x y = ap₂ (λ (b : ℕ) (l : List ℕ). b ∷ l) (bit_and_lem k x y) (bits_of_and k x y)

pub bits_anded : (xs ys : List ℕ) → bits (anded xs ys) ≡ mins (bits xs) (bits ys)
unfolding anded bits
bits_anded [] ys = refl
bits_anded (x ∷ xs) [] = refl
bits_anded (x ∷ xs) (y ∷ ys) =
    ap₂ (λ (a b : List ℕ). a ++ b) (bits_of_and 8 x y) (bits_anded xs ys)
    ∙ sym (mins_append (bits_of 8 x) (bits_of 8 y) (bits xs) (bits ys) refl)

bits_anded_all : (line : List ℕ) (frames : List (List ℕ)) → bits (anded_all line frames) ≡ mins_all (bits line) frames
unfolding anded_all
bits_anded_all line [] = refl
bits_anded_all line (frame ∷ frames) =
    bits_anded_all (anded line frame) frames ∙ ap (λ (l : List ℕ). mins_all l frames) (bits_anded line frame)

bits_ones : (n : ℕ) → bits (replicate n 255) ≡ replicate (8 * n) 1
unfolding bits
bits_ones zero = refl
bits_ones (suc n) =
    let e : 8 + 8 * n ≡ 8 * suc n = omega arith in
    ap (λ (l : List ℕ). replicate 8 1 ++ l) (bits_ones n)
    ∙ replicate-append-replicate 8 (8 * n) 1 ∙ ap (λ (k : ℕ). replicate k 1) e

pub length_anded : (xs ys : List ℕ) → length (anded xs ys) ≡ length xs
unfolding anded
length_anded [] ys = refl
length_anded (x ∷ xs) [] = refl
length_anded (x ∷ xs) (y ∷ ys) = ap suc (length_anded xs ys)

pub take_anded : (n : ℕ) (xs ys : List ℕ) → take n (anded xs ys) ≡ anded (take n xs) ys
unfolding anded
take_anded zero xs ys = refl
take_anded (suc n) [] ys = refl
take_anded (suc n) (x ∷ xs) [] = refl
take_anded (suc n) (x ∷ xs) (y ∷ ys) = ap (λ (l : List ℕ). bit_and x y ∷ l) (take_anded n xs ys)

anded_none : (xs : List ℕ) → anded xs [] ≡ xs
unfolding anded
anded_none [] = refl
anded_none (x ∷ xs) = refl

anded_at : (n : ℕ) (xs ys : List ℕ) → get_or (anded xs (take n ys)) n 0 ≡ get_or xs n 0
unfolding anded
anded_at n [] ys = refl
anded_at zero (x ∷ xs) ys = refl
anded_at (suc n) (x ∷ xs) [] = refl
anded_at (suc n) (x ∷ xs) (y ∷ ys) = anded_at n xs ys

anded_suc : (n : ℕ) (xs ys : List ℕ) → n < length ys → set (anded xs (take n ys)) n (bit_and (get_or xs n 0) (get_or ys n 0)) ≡ anded xs (take (suc n) ys)
unfolding anded
anded_suc n xs [] h = absurd (omega arith)
anded_suc zero [] (y ∷ ys) h = refl
anded_suc zero (x ∷ xs) (y ∷ ys) h = ap (λ (l : List ℕ). bit_and x y ∷ l) (sym (anded_none xs))
anded_suc (suc n) [] (y ∷ ys) h = refl
anded_suc (suc n) (x ∷ xs) (y ∷ ys) h = ap (λ (l : List ℕ). bit_and x y ∷ l) (anded_suc n xs ys (omega arith))

pub anded_start : (xs ys : List ℕ) → xs ≡ anded xs (take 0 ys)
anded_start xs ys = sym (anded_none xs)

pub anded_turn : (n : ℕ) (xs ys out : List ℕ) → n < length ys → out ≡ anded xs (take n ys)
    → set out n (bit_and (get_or out n 0) (get_or ys n 0)) ≡ anded xs (take (n + 1) ys)
anded_turn n xs ys out h e =
    ap₂ (λ (l : List ℕ) (b : ℕ). set l n (bit_and b (get_or ys n 0))) e (ap (λ (l : List ℕ). get_or l n 0) e ∙ anded_at n xs ys)
    ∙ anded_suc n xs ys h ∙ ap (λ (k : ℕ). anded xs (take k ys)) (sym (add-one n))

-- what of a frame the line has no room for changes nothing
pub anded_all_lem : (n : ℕ) (xs ys : List ℕ) → n ≡ min (length xs) (length ys) → anded xs (take n ys) ≡ anded xs ys
unfolding anded
anded_all_lem n [] ys e = refl
anded_all_lem zero (x ∷ xs) [] e = refl
anded_all_lem zero (x ∷ xs) (y ∷ ys) e = absurd (omega arith)
anded_all_lem (suc n) (x ∷ xs) [] e = refl
anded_all_lem (suc n) (x ∷ xs) (y ∷ ys) e = ap (λ (l : List ℕ). bit_and x y ∷ l) (anded_all_lem n xs ys (omega arith))

length_anded_all : (line : List ℕ) (frames : List (List ℕ)) → length (anded_all line frames) ≡ length line
unfolding anded_all
length_anded_all line [] = refl
length_anded_all line (frame ∷ frames) = length_anded_all (anded line frame) frames ∙ length_anded line frame

take_anded_all : (n : ℕ) (line : List ℕ) (frames : List (List ℕ)) → take n (anded_all line frames) ≡ anded_all (take n line) frames
unfolding anded_all
take_anded_all n line [] = refl
take_anded_all n line (frame ∷ frames) =
    take_anded_all n (anded line frame) frames ∙ ap (λ (l : List ℕ). anded_all l frames) (take_anded n line frame)

take_replicate : (n m a : ℕ) → n ≤ m → take n (replicate m a) ≡ replicate n a
take_replicate zero m a h = refl
take_replicate (suc n) zero a h = absurd (omega arith)
take_replicate (suc n) (suc m) a h = ap (λ (l : List ℕ). a ∷ l) (take_replicate n m a (omega arith))

pub together_is_and : (n m : ℕ) (frames : List (List ℕ)) → n ≤ m → Below 256 (anded_all (replicate m 255) frames)
    → octets n (together (8 * n) (map sending frames)) ≡ take n (anded_all (replicate m 255) frames)
together_is_and n m frames h small =
    let all : List ℕ = anded_all (replicate n 255) frames in
    let part : take n (anded_all (replicate m 255) frames) ≡ all =
    take_anded_all n (replicate m 255) frames ∙ ap (λ (l : List ℕ). anded_all l frames) (take_replicate n m 255 h) in
    let long : length all ≡ n = length_anded_all (replicate n 255) frames ∙ length-replicate n 255 in
    let below : Below 256 all = subst (Below 256) part (below_take 256 n (anded_all (replicate m 255) frames) small) in
    ap (octets n)
    (together_mins (8 * n) frames ∙ ap (λ (l : List ℕ). mins_all l frames) (sym (bits_ones n)) ∙ sym (bits_anded_all (replicate n 255) frames))
    ∙ ap (λ (k : ℕ). octets k (bits all)) (sym long)
    ∙ octets_bits all below
    ∙ sym part

-- ---- one voice
module _ (voice : List ℕ) (frames : List (List ℕ)) where
  abbrev pub OneVoice : Type 0
  OneVoice = (frame : List ℕ) → Memᴰ frame frames → (frame ≡ []) ⊎ (frame ≡ voice)

silent : (l : List ℕ) → mins l (bits []) ≡ l
unfolding bits
silent l = mins_none l

again : (voice row : List ℕ) (frames : List (List ℕ)) → OneVoice voice frames → mins_all (mins row (bits voice)) frames ≡ mins row (bits voice)
again voice row [] h = refl
again voice row (frame ∷ frames) h =
    let later : OneVoice voice frames = λ f m. h f (Memᴰ.tail m) in
    ⊎_elim
    (λ (e : frame ≡ []).
    ap (λ (f : List ℕ). mins_all (mins (mins row (bits voice)) (bits f)) frames) e
    ∙ ap (λ (l : List ℕ). mins_all l frames) (silent (mins row (bits voice))) ∙ again voice row frames later)
    (λ (e : frame ≡ voice).
    ap (λ (f : List ℕ). mins_all (mins (mins row (bits voice)) (bits f)) frames) e
    ∙ ap (λ (l : List ℕ). mins_all l frames) (mins_twice row (bits voice)) ∙ again voice row frames later)
    (h frame (Memᴰ.head refl))

heard_once : (voice row : List ℕ) (frames : List (List ℕ)) → OneVoice voice frames → Memᴰ voice frames
    → mins_all row frames ≡ mins row (bits voice)
heard_once voice row [] h m = absurd (Memᴰ.not-nil m)
heard_once voice row (frame ∷ frames) h (Memᴰ.head e) =
    ap (λ (f : List ℕ). mins_all (mins row (bits f)) frames) (sym e) ∙ again voice row frames (λ f k. h f (Memᴰ.tail k))
heard_once voice row (frame ∷ frames) h (Memᴰ.tail m) =
    mins_all_under row (bits frame) frames
    ∙ ap (λ (l : List ℕ). mins l (bits frame)) (heard_once voice row frames (λ f k. h f (Memᴰ.tail k)) m)
    ∙ ⊎_elim (λ (e : frame ≡ []). ap (λ (f : List ℕ). mins (mins row (bits voice)) (bits f)) e ∙ silent (mins row (bits voice)))
    (λ (e : frame ≡ voice). ap (λ (f : List ℕ). mins (mins row (bits voice)) (bits f)) e ∙ mins_twice row (bits voice))
    (h frame (Memᴰ.head refl))

pub one_voice : (voice : List ℕ) (frames : List (List ℕ)) → Below 256 voice → OneVoice voice frames → Memᴰ voice frames
    → octets (length voice) (together (8 * length voice) (map sending frames)) ≡ voice
one_voice voice frames small h m =
    let long : length (bits voice) ≡ 8 * length voice = length_bits voice ∙ omega arith in
    ap (octets (length voice))
    (together_mins (8 * length voice) frames ∙ heard_once voice (replicate (8 * length voice) 1) frames h m
    ∙ mins_ones (bits voice) (8 * length voice) long (bits_below voice))
    ∙ octets_bits voice small
