-- What a decision on a number gives over a span of numbers: one test that antt computes over the span, and the law that turns it into
-- the answer at each number of it.
--   Numbered  answers that have numbers, by which they are told apart
--   told      two with one number are the same
--   gives     the answer at a number is x, unless the number is one of those left out
--   but       so x is the answer at each number of a span that passes the test, but for those left out
--   all       the same with none left out
-- Assumes nothing.
use mathlib.Core.Path.{◌≡◌, refl, sym, ap, subst, ◌∙◌}
use mathlib.Core.Bool.{Bool, true, false}
use mathlib.Core.List.{List, []}
use Prim.Native.Nat.{ℕ, ◌+◌, ◌≤◌, ◌<◌}
use lib.Dec.{T, eqb, eqb→eq}
use Rattle.base.specs.Choice.{pick}
use Rattle.base.proofs.Span.{passes, span}
use Rattle.moves.specs.Indices.{among}

pub record Numbered (A : Type 0) : Type 0 where
  pub number : A → ℕ
  pub by : ℕ → A
  pub by_number : (a : A) → by (number a) ≡ a

pub told : {A : Type 0} (N : Numbered A) (a b : A) → T (eqb (N.number a) (N.number b)) → a ≡ b
told N a b t = sym (N.by_number a) ∙ ap N.by (eqb→eq (N.number a) (N.number b) t) ∙ N.by_number b

module _ {A : Type 0} (N : Numbered A) (f : ℕ → A) (x : A) where
  abbrev pub gives : List ℕ → ℕ → Bool
  gives out i = pick (among i out) true (eqb (N.number x) (N.number (f i)))

  pub but : (out : List ℕ) (a n : ℕ) → T (passes (gives out) a n) → (i : ℕ) → among i out ≡ false → a ≤ i → i < a + n → x ≡ f i
  but out a n t i h lo hi =
      told N x (f i) (subst (λ (b : Bool). T (pick b true (eqb (N.number x) (N.number (f i))))) h (span (gives out) a n t i lo hi))

  pub all : (a n : ℕ) → T (passes (gives []) a n) → (i : ℕ) → a ≤ i → i < a + n → x ≡ f i
  all a n t i lo hi = but [] a n t i refl lo hi
