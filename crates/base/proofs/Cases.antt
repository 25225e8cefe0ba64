-- Laws of tests.
--   cases        what follows from a test's being true and from its being false
--   picked       a property of both branches, each where it is chosen, is one of a `pick`
--   guarded      a property of a refusal and of what comes after it is one of an `unless`
--   clash        0 is not 1, so anything follows; with hypotheses that can't both be, `clash cc`
--   never        what is false is not true
--   opposite     nor is a test both
--   first, last  two tests that hold at once, and so each of them
--   both         two tests at once that antt computes, with its two parts
--   passed       an answer that is no refusal passed the test that would have refused it
--   unrefused    what a call gives is no refusal
--   kept_by      it is given exactly if the test is passed
-- Assumes nothing.
use mathlib.Core.Path.{◌≡◌, refl, sym, ◌∙◌}
use mathlib.Core.Bool.{Bool, true, false, ◌&&◌}
use Prim.Native.Nat.{ℕ}
use native.Mathlib.Omega.{arith}
use lib.Dec.{T}
use Rattle.base.specs.Choice.{pick, unless}
use Rattle.base.specs.declared.Refusal.{Refusal}
use Rattle.std.specs.Prelude.{Result, Ok, Err, is_ok}

pub cases : {P : Type 0} (t : Bool) → (t ≡ true → P) → (t ≡ false → P) → P
cases true hit miss = hit refl
cases false hit miss = miss refl

pub picked : {A : Type 0} (P : A → Type 0) (t : Bool) {a b : A} → (t ≡ true → P a) → (t ≡ false → P b) → P (pick t a b)
picked P true hit miss = hit refl
picked P false hit miss = miss refl

pub guarded : {A : Type 0} (P : A → Type 0) (t : Bool) {refusal rest : A} → (t ≡ false → P refusal) → (t ≡ true → P rest) → P (unless t refusal rest)
guarded P true miss hit = hit refl
guarded P false miss hit = miss refl

pub clash : {P : Type 0} → ◌≡◌ {A = ℕ} 0 1 → P
clash e = absurd (omega arith)

pub never : {P : Type 0} → false ≡ true → P
never e = clash cc

pub opposite : {P : Type 0} (t : Bool) → t ≡ true → t ≡ false → P
opposite t hit miss = never (sym miss ∙ hit)

pub first : (a b : Bool) → (a && b) ≡ true → a ≡ true
first true b e = refl
first false b e = e

pub last : (a b : Bool) → (a && b) ≡ true → b ≡ true
last true b e = e
last false b e = never e

abbrev pub both : Bool → Bool → Bool
both true b = b
both false b = false

pub both_left : (a b : Bool) → T (both a b) → T a
both_left true b t = tt
both_left false b t = t

pub both_right : (a b : Bool) → T (both a b) → T b
both_right true b t = t
both_right false b t = absurd t

pub unrefused : {A : Type 0} {refusal : Refusal} {given : A} → ◌≡◌ {A = Result A Refusal} (Err refusal) (Ok given) → ⊥
unrefused e = clash cc

pub kept_by : {A : Type 0} (refusal : Refusal) (given : A) (t : Bool) → is_ok (unless t (Err refusal) (Ok given)) ≡ t
kept_by refusal given true = refl
kept_by refusal given false = refl

pub passed : {A : Type 0} (t : Bool) (refusal rest answer : A) → (refusal ≡ answer → ⊥) → unless t refusal rest ≡ answer → (t ≡ true) × (rest ≡ answer)
passed true refusal rest answer no_refusal e = (refl, e)
passed false refusal rest answer no_refusal e = absurd (no_refusal e)
