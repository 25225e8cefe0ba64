-- A script played in pieces is the script played at once, whatever the pieces are and however many records are played at a turn. This is so
-- of any step that is `Steady`: where the script goes on it takes a byte or more of those at hand, and no more bytes behind it change anything
-- unless it waits for them.
--   enough    any two numbers of turns that are more than the bytes play the same
--   resumed   at most n records of a piece played, and then what is left over with more bytes behind it, is both played at once
--   joined    so for all records of a piece
--   ends      the bytes that are left over are the last ones
--   fed       a turn of a program leaves as it was what is printed in the end
--   pieces    so do any number of turns
--   whole     so what was played turn by turn, and what is still to be played, is the script played at once
--   stopped_whole, waited_whole   and where it stopped, or waits for bytes that don't come, nothing is still to be played
-- Assumes nothing.
use mathlib.Core.Path.{◌≡◌, refl, sym, ap, ap₂, ◌∙◌}
use mathlib.Core.List.{List, [], ◌∷◌, ◌++◌, append_assoc, append-nil}
use Prim.Native.Nat.{ℕ, zero, suc, ◌+◌, ◌-◌, ◌≤◌, ◌<◌}
use native.Mathlib.Omega.{arith}
use lib.ListN.{length, drop, length-append, length-drop, drop_of_length-le}
use lib.Seq.{drop-append-le, drop-drop}
use Rattle.base.proofs.Cases.{clash}
use Rattle.playing.proofs.Turns.{kinds, behind_both, none, goes, stops, waits, full}
use Rattle.playing.specs.Playing.{Step, Played, behind, unplayed, played_in, played_of, next_piece, fed_to, fed_all, all_of}
use Rattle.playing.specs.declared.Then.{Then}
use Rattle.playing.specs.declared.Then.TheVariants.{Goes, Stops, Waits, NoRoom}

pub record Steady {Kept : Type 0} (step : Kept → List ℕ → Step Kept) : Type 0 where
  pub takes : (k : Kept) (s : List ℕ) → (step k s).then ≡ Goes → 1 ≤ (step k s).used
  pub inside : (k : Kept) (s : List ℕ) → (step k s).then ≡ Goes → (step k s).used ≤ length s
  pub stays : (k : Kept) (s more : List ℕ) → ((step k s).then ≡ Waits → ⊥) → step k (s ++ more) ≡ step k s

module _ {Kept : Type 0} (step : Kept → List ℕ → Step Kept) (steady : Steady step) where
  pub enough : (n m : ℕ) (k : Kept) (s : List ℕ) → length s < n → length s < m → played_in step n k s ≡ played_in step m k s
  enough zero m k s h l = absurd (omega arith)
  enough (suc n) zero k s h l = absurd (omega arith)
  enough (suc n) (suc m) k s h l =
      kinds (step k s).then
      (λ (e : (step k s).then ≡ Goes).
      let u = steady.takes k s e in
      let v = steady.inside k s e in
      let d = length-drop (step k s).used s in
      goes step n k s e
      ∙ ap (behind (step k s).line) (enough n m (step k s).kept (drop (step k s).used s) (omega arith) (omega arith))
      ∙ sym (goes step m k s e))
      (λ (e : (step k s).then ≡ Stops). stops step n k s e ∙ sym (stops step m k s e))
      (λ (e : (step k s).then ≡ Waits). waits step n k s e ∙ sym (waits step m k s e))
      (λ (e : (step k s).then ≡ NoRoom). full step n k s e ∙ sym (full step m k s e))

  join_behind : (text : List ℕ) (p : Played Kept) (more : List ℕ) → next_piece step (behind text p) more ≡ behind text (next_piece step p more)
  unfolding next_piece
  join_behind text p more =
      let rest = played_of step p.kept (p.left ++ more) in
      kinds p.then
      (λ (e : p.then ≡ Goes). rw e)
      (λ (e : p.then ≡ Stops). rw e)
      (λ (e : p.then ≡ Waits). rw e (sym (behind_both text p.text rest)))
      (λ (e : p.then ≡ NoRoom). rw e (sym (behind_both text p.text rest)))

  -- where nothing is played yet all is still to be played
  waiting : (k : Kept) (a b : List ℕ) → next_piece step (unplayed k a Waits) b ≡ played_of step k (a ++ b)
  unfolding next_piece
  waiting k a b = refl

  filled : (k : Kept) (a b : List ℕ) → next_piece step (unplayed k a NoRoom) b ≡ played_of step k (a ++ b)
  unfolding next_piece
  filled k a b = refl

  stopped : (p : Played Kept) (b : List ℕ) → p.then ≡ Stops → next_piece step p b ≡ p
  unfolding next_piece
  stopped p b e = rw e

  pub resumed : (n : ℕ) (k : Kept) (a b : List ℕ) → next_piece step (played_in step n k a) b ≡ played_of step k (a ++ b)
  unfolding played_of
  resumed zero k a b = ap (λ (p : Played Kept). next_piece step p b) (none step k a) ∙ filled k a b
  resumed (suc n) k a b =
      let here = step k a in
      let rest = drop here.used a in
      let all = length (a ++ b) in
      kinds here.then
      (λ (e : here.then ≡ Goes).
      let u = steady.takes k a e in
      let v = steady.inside k a e in
      let st : step k (a ++ b) ≡ here = steady.stays k a b (λ (w : here.then ≡ Waits). clash cc) in
      let g : (step k (a ++ b)).then ≡ Goes = ap (λ (x : Step Kept). x.then) st ∙ e in
      let d = length-drop here.used a in
      ap (λ (p : Played Kept). next_piece step p b) (goes step n k a e)
      ∙ join_behind here.line (played_in step n here.kept rest) b
      ∙ ap (behind here.line)
      (resumed n here.kept rest b
      ∙ enough (suc (length (rest ++ b))) all here.kept (rest ++ b) (omega arith) (omega (arith, length-append rest b, length-append a b))
      ∙ ap (played_in step all here.kept) (sym (drop-append-le here.used a b (omega arith))))
      ∙ sym (goes step all k (a ++ b) g ∙ ap (λ (x : Step Kept). behind x.line (played_in step all x.kept (drop x.used (a ++ b)))) st))
      (λ (e : here.then ≡ Stops).
      let st : step k (a ++ b) ≡ here = steady.stays k a b (λ (w : here.then ≡ Waits). clash cc) in
      let g : (step k (a ++ b)).then ≡ Stops = ap (λ (x : Step Kept). x.then) st ∙ e in
      let q = stops step n k a e in
      stopped (played_in step (suc n) k a) b (ap (λ (p : Played Kept). p.then) q)
      ∙ q
      ∙ sym (stops step all k (a ++ b) g ∙ ap (λ (x : Step Kept). record { text = x.line; kept = x.kept; left = []; then = Stops }) st))
      (λ (e : here.then ≡ Waits). ap (λ (p : Played Kept). next_piece step p b) (waits step n k a e) ∙ waiting k a b)
      (λ (e : here.then ≡ NoRoom). ap (λ (p : Played Kept). next_piece step p b) (full step n k a e) ∙ filled k a b)

  pub joined : (b : List ℕ) (k : Kept) (a : List ℕ) → played_of step k (a ++ b) ≡ next_piece step (played_of step k a) b
  unfolding played_of
  joined b k a = sym (resumed (suc (length a)) k a b)

  -- the bytes that are left over are the last ones
  abbrev pub Ends : List ℕ → List ℕ → Type 0
  Ends s left = (length left ≤ length s) × (drop (length s - length left) s ≡ left)

  all_left : (s : List ℕ) → Ends s s
  all_left s =
      let z : length s - length s ≡ 0 = omega arith in
      (omega arith, ap (λ (m : ℕ). drop m s) z)

  pub ends : (n : ℕ) (k : Kept) (s : List ℕ) → Ends s (played_in step n k s).left
  ends zero k s = rw (none step k s) (all_left s)
  ends (suc n) k s =
      let here = step k s in
      let rest = drop here.used s in
      let left = (played_in step n here.kept rest).left in
      kinds here.then
      (λ (e : here.then ≡ Goes).
      let v = steady.inside k s e in
      let d = length-drop here.used s in
      let i = ends n here.kept rest in
      let m : length s - length left ≡ here.used + (length rest - length left) = omega (arith, i.0) in
      rw (goes step n k s e)
      (omega (arith, i.0), ap (λ (m : ℕ). drop m s) m ∙ sym (drop-drop (length rest - length left) here.used s) ∙ i.1))
      (λ (e : here.then ≡ Stops). rw (stops step n k s e) (omega arith, drop_of_length-le s {i = length s - 0} (omega arith)))
      (λ (e : here.then ≡ Waits). rw (waits step n k s e) (all_left s))
      (λ (e : here.then ≡ NoRoom). rw (full step n k s e) (all_left s))

  -- a turn, by how the one before it left the script
  over : (n : ℕ) (p : Played Kept) (a : List ℕ) → p.then ≡ Stops → fed_to step n p a ≡ p
  unfolding fed_to
  over n p a e = rw e

  gone : (n : ℕ) (p : Played Kept) (a : List ℕ) → p.then ≡ Goes → fed_to step n p a ≡ p
  unfolding fed_to
  gone n p a e = rw e

  read : (n : ℕ) (p : Played Kept) (a : List ℕ) → p.then ≡ Waits → fed_to step n p a ≡ behind p.text (played_in step n p.kept (p.left ++ a))
  unfolding fed_to
  read n p a e = rw e

  again : (n : ℕ) (p : Played Kept) (a : List ℕ) → p.then ≡ NoRoom → fed_to step n p a ≡ behind p.text (played_in step n p.kept (p.left ++ a))
  unfolding fed_to
  again n p a e = rw e

  more : (n : ℕ) (p : Played Kept) (a b : List ℕ)
      → next_piece step (behind p.text (played_in step n p.kept (p.left ++ a))) b ≡ behind p.text (played_of step p.kept (p.left ++ (a ++ b)))
  more n p a b =
      join_behind p.text (played_in step n p.kept (p.left ++ a)) b
      ∙ ap (behind p.text) (resumed n p.kept (p.left ++ a) b ∙ ap (played_of step p.kept) (append_assoc p.left a b))

  pub fed : (n : ℕ) (p : Played Kept) (a b : List ℕ) → next_piece step (fed_to step n p a) b ≡ next_piece step p (a ++ b)
  unfolding next_piece
  fed n p a b =
      let to : Played Kept → Played Kept = λ (q : Played Kept). next_piece step q b in
      kinds p.then
      (λ (e : p.then ≡ Goes). ap to (gone n p a e) ∙ rw e)
      (λ (e : p.then ≡ Stops). ap to (over n p a e) ∙ rw e)
      (λ (e : p.then ≡ Waits). ap to (read n p a e) ∙ more n p a b ∙ rw e)
      (λ (e : p.then ≡ NoRoom). ap to (again n p a e) ∙ more n p a b ∙ rw e)

  pub pieces : (n : ℕ) (p : Played Kept) (ps : List (List ℕ)) (b : List ℕ)
      → next_piece step (fed_all step n p ps) b ≡ next_piece step p (all_of ps ++ b)
  unfolding fed_all all_of
  pieces n p [] b = refl
  pieces n p (a ∷ ps) b =
      pieces n (fed_to step n p a) ps b ∙ fed n p a (all_of ps ++ b) ∙ ap (next_piece step p) (sym (append_assoc a (all_of ps) b))

  -- a script that waits for more bytes waits for those of the record that is left over
  abbrev Settled : Played Kept → Type 0
  Settled p = p.then ≡ Waits → (step p.kept p.left).then ≡ Waits

  settled : (n : ℕ) (k : Kept) (s : List ℕ) → Settled (played_in step n k s)
  settled zero k s = rw (none step k s) (λ (w : NoRoom ≡ Waits). clash cc)
  settled (suc n) k s =
      let here = step k s in
      kinds here.then
      (λ (e : here.then ≡ Goes). rw (goes step n k s e) (settled n here.kept (drop here.used s)))
      (λ (e : here.then ≡ Stops). rw (stops step n k s e) (λ (w : Stops ≡ Waits). clash cc))
      (λ (e : here.then ≡ Waits). rw (waits step n k s e) (λ (w : Waits ≡ Waits). e))
      (λ (e : here.then ≡ NoRoom). rw (full step n k s e) (λ (w : NoRoom ≡ Waits). clash cc))

  settled_fed : (n : ℕ) (p : Played Kept) (a : List ℕ) → Settled p → Settled (fed_to step n p a)
  settled_fed n p a h =
      kinds p.then
      (λ (e : p.then ≡ Goes). rw (gone n p a e) h)
      (λ (e : p.then ≡ Stops). rw (over n p a e) h)
      (λ (e : p.then ≡ Waits). rw (read n p a e) (settled n p.kept (p.left ++ a)))
      (λ (e : p.then ≡ NoRoom). rw (again n p a e) (settled n p.kept (p.left ++ a)))

  settled_all : (n : ℕ) (p : Played Kept) (ps : List (List ℕ)) → Settled p → Settled (fed_all step n p ps)
  unfolding fed_all
  settled_all n p [] h = h
  settled_all n p (a ∷ ps) h = settled_all n (fed_to step n p a) ps (settled_fed n p a h)

  wait_on : (q : Played Kept) (b : List ℕ) → q.then ≡ Waits → next_piece step q b ≡ behind q.text (played_of step q.kept (q.left ++ b))
  unfolding next_piece
  wait_on q b e = rw e

  left_over : (q : Played Kept) → q.then ≡ Waits → (step q.kept q.left).then ≡ Waits → next_piece step q [] ≡ q
  unfolding played_of
  left_over q e w =
      wait_on q [] e
      ∙ ap (λ (s : List ℕ). behind q.text (played_of step q.kept s)) (append-nil q.left)
      ∙ ap (behind q.text) (waits step (length q.left) q.kept q.left w)
      ∙ ap₂ (λ (l : List ℕ) (t : Then). record { text = l; kept = q.kept; left = q.left; then = t }) (append-nil q.text) (sym e)

  -- k is what is kept before the script, and an empty script waits for its first record
  module _ (n : ℕ) (k : Kept) (ps : List (List ℕ)) (empty : (step k []).then ≡ Waits) where
    pub whole : next_piece step (fed_all step n (unplayed k [] Waits) ps) [] ≡ played_of step k (all_of ps)
    whole = pieces n (unplayed k [] Waits) ps [] ∙ waiting k [] (all_of ps ++ []) ∙ ap (played_of step k) (append-nil (all_of ps))

    pub stopped_whole : (fed_all step n (unplayed k [] Waits) ps).then ≡ Stops → fed_all step n (unplayed k [] Waits) ps ≡ played_of step k (all_of ps)
    stopped_whole e = sym (stopped (fed_all step n (unplayed k [] Waits) ps) [] e) ∙ whole

    pub waited_whole : (fed_all step n (unplayed k [] Waits) ps).then ≡ Waits → fed_all step n (unplayed k [] Waits) ps ≡ played_of step k (all_of ps)
    waited_whole e =
        let q = fed_all step n (unplayed k [] Waits) ps in
        sym (left_over q e (settled_all n (unplayed k [] Waits) ps (λ (w : Waits ≡ Waits). empty) e)) ∙ whole
