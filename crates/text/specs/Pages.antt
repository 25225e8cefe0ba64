-- A page: an output, and the place in it where the next text goes.
-- Assumes nothing.
use Rattle.std.specs.Prelude.{◌≡◌, List, ℕ}
use Rattle.text.specs.Writing.{Put}
use Rattle.text.specs.declared.page.Page.{Page}

-- the same output, with a text written from the page's place on, which is behind it afterwards
pub record Writes (before after : Page) (text : List ℕ) : Type 0 where
  pub same : after.out.ghost_name ≡ before.out.ghost_name
  pub put : Put before.out.now after.out.now before.at after.at text
