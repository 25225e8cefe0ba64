-- A piece of a script, by what became of its first record.
--   kinds         what follows from each way in which a script goes on
--   behind_both   text before text
--   none          no record
--   goes, stops, waits, full   a record, and at most n behind it
-- Assumes nothing.
use mathlib.Core.Path.{◌≡◌, refl, sym, ap}
use mathlib.Core.List.{List, [], ◌++◌, append_assoc}
use Prim.Native.Nat.{ℕ, suc}
use lib.ListN.{drop}
use Rattle.playing.specs.Playing.{Step, Played, behind, unplayed, played_in}
use Rattle.playing.specs.declared.Then.{Then}
use Rattle.playing.specs.declared.Then.TheVariants.{Goes, Stops, Waits, NoRoom}

pub kinds : {P : Type 0} (t : Then) → (t ≡ Goes → P) → (t ≡ Stops → P) → (t ≡ Waits → P) → (t ≡ NoRoom → P) → P
kinds Goes goes stops waits full = goes refl
kinds Stops goes stops waits full = stops refl
kinds Waits goes stops waits full = waits refl
kinds NoRoom goes stops waits full = full refl

pub behind_both : {Kept : Type 0} (a b : List ℕ) (p : Played Kept) → behind a (behind b p) ≡ behind (a ++ b) p
behind_both a b p =
    ap (λ (l : List ℕ). record { text = l; kept = p.kept; left = p.left; then = p.then }) (sym (append_assoc a b p.text))

module _ {Kept : Type 0} (step : Kept → List ℕ → Step Kept) where
  pub goes : (n : ℕ) (k : Kept) (s : List ℕ) → (step k s).then ≡ Goes
      → played_in step (suc n) k s ≡ behind (step k s).line (played_in step n (step k s).kept (drop (step k s).used s))
  unfolding played_in
  goes n k s e = rw (e, played_in)

  pub stops : (n : ℕ) (k : Kept) (s : List ℕ) → (step k s).then ≡ Stops
      → played_in step (suc n) k s ≡ record { text = (step k s).line; kept = (step k s).kept; left = []; then = Stops }
  unfolding played_in
  stops n k s e = rw (e, played_in)

  pub waits : (n : ℕ) (k : Kept) (s : List ℕ) → (step k s).then ≡ Waits → played_in step (suc n) k s ≡ unplayed k s Waits
  unfolding played_in
  waits n k s e = rw (e, played_in)

  pub full : (n : ℕ) (k : Kept) (s : List ℕ) → (step k s).then ≡ NoRoom → played_in step (suc n) k s ≡ unplayed k s NoRoom
  unfolding played_in
  full n k s e = rw (e, played_in)

  pub none : (k : Kept) (s : List ℕ) → played_in step 0 k s ≡ unplayed k s NoRoom
  unfolding played_in
  none k s = refl
