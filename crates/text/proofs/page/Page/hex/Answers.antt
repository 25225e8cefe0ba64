use mathlib.Core.Path.{refl, sym, ap₂, ◌∙◌}
use mathlib.Core.List.{[], ◌∷◌, ◌++◌}
use Prim.Native.Nat.{ℕ}
use native.Mathlib.Omega.{arith}
use borrow.Author.Rules.{rules}
use lib.ListN.{take}
use Rattle.text.proofs.Pages.{writes_both, writes_as}
use Rattle.text.proofs.Pairs.{turn}
use Rattle.text.proofs.Writing.{put_none}
use Rattle.text.specs.Text.{hex_of}
use Rattle.text.proofs.page.Page.hex.Goals as goal

pub loop-b-init : goal.loop-b-init
unfolding hex_of
loop-b-init c = record { same = refl; put = put_none _ _ _ (search rules) }

pub loop-b-preserved : goal.loop-b-preserved
loop-b-preserved c =
    let l = c.loop-b in
    let s = c.args.bytes.now in
    let digits = ap₂ (λ (x y : ℕ). hex_of (take l.b-index s) ++ (x ∷ y ∷ [])) c.digit.ensures c.digit-in-loop-b.ensures in
    writes_as (digits ∙ sym (turn s l.b-index (omega arith))) (writes_both l.invariant c.put.ensures)
