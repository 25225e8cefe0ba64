-- Laws of texts written on a page.
--   writes_both    one text after the other is the text of both, whether there was room for it or not
--   writes_as      the same text, said otherwise
-- Assumes nothing.
use mathlib.Core.Path.{◌≡◌, ◌∙◌}
use mathlib.Core.List.{List, ◌++◌}
use Prim.Native.Nat.{ℕ}
use Rattle.text.proofs.Writing.{put_as, put_both}
use Rattle.text.specs.Pages.{Writes}
use Rattle.text.specs.declared.page.Page.{Page}

pub writes_both : {p q r : Page} {t u : List ℕ} → Writes p q t → Writes q r u → Writes p r (t ++ u)
writes_both x y = record { same = y.same ∙ x.same; put = put_both x.put y.put }

pub writes_as : {p q : Page} {t u : List ℕ} → t ≡ u → Writes p q t → Writes p q u
writes_as e w = record { same = w.same; put = put_as e w.put }
