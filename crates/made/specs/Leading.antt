-- What a table of moves must do for a made card to stay made by its commands (`acted_made`), whatever the mode: where it leads a command of
-- an index from a state. Any other command it may lead anywhere.
-- Assumes nothing.
use Rattle.std.specs.Prelude.{◌≡◌, true, [], ◌∷◌, ℕ}
use Rattle.moves.specs.Indices.{among}
use Rattle.states.specs.declared.Column.{Column}
use Rattle.states.specs.declared.Column.TheVariants.{Tran}

pub record Leading (index : ℕ) (from there : Column) : Type 0 where
  -- 13 stays where it is: it keeps tags, which are there in tran alone
  pub status : index ≡ 13 → there ≡ from
  -- "16, 32, 33, 35, 36: tran stays": no work goes on with another block length, and tags are there in tran alone
  pub tran : among index (16 ∷ 32 ∷ 33 ∷ 35 ∷ 36 ∷ []) ≡ true → there ≡ Tran
