-- The distinct numbers of a list, of any length: identifiers, wherever they come from.
-- Assumes nothing.
use Rattle.std.specs.Prelude.{List, [], ◌∷◌, ◌≡◌, ℕ, suc, ◌<◌, eqb, ltb, length, get_or}
use Rattle.base.specs.Choice.{pick}

-- a number put into an ascending list, if it is not there already
unfoldable pub insert : ℕ → List ℕ → List ℕ
insert x [] = x ∷ []
insert x (y ∷ ys) = pick (ltb x y) (x ∷ y ∷ ys) (pick (eqb x y) (y ∷ ys) (y ∷ insert x ys))

-- each number of a list once, the smallest first
unfoldable pub distinct : List ℕ → List ℕ
distinct [] = []
distinct (x ∷ xs) = insert x (distinct xs)

-- how many numbers of a list are smaller than x
unfoldable pub rank : List ℕ → ℕ → ℕ
rank [] x = 0
rank (y ∷ ys) x = pick (ltb y x) (suc (rank ys x)) (rank ys x)

-- x is smaller than each number of a list
unfoldable pub Under : ℕ → List ℕ → Type 0
Under x [] = Unit {0}
Under x (y ∷ ys) = (x < y) × Under x ys

-- each number of a list is smaller than all behind it
unfoldable pub Ascending : List ℕ → Type 0
Ascending [] = Unit {0}
Ascending (y ∷ ys) = Under y ys × Ascending ys

-- two places of a list hold the same number
abbrev pub Repeats : List ℕ → Type 0
Repeats xs = (i : ℕ) × ((j : ℕ) × ((i < j) × ((j < length xs) × (get_or xs i 0 ≡ get_or xs j 0))))
