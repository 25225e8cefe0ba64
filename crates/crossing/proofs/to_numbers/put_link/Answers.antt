-- `crossing::to_numbers::put_link` meets its contract: eight stores from the front are the link's eight numbers and the rest as it was.
-- Assumes nothing.
use borrow.Author.Rules.{rules}
use native.Mathlib.Omega.{arith}
use mathlib.Core.Path.{◌≡◌, ◌∙◌}
use mathlib.Core.List.{List, [], ◌∷◌, ◌++◌}
use Prim.Native.Nat.{ℕ, ◌≤◌}
use lib.ListN.{length, drop}
use lib.Seq.{sets, sets-eq}
use Rattle.card_record.specs.declared.Link.{Link}
use Rattle.tags.specs.Tagging.{first_of}
use Rattle.crossing.specs.Record.{state_number, place_carried, tags_number, last_of, link_numbers}
use Rattle.crossing.proofs.to_numbers.put_link.Goals as goal

stored : (link : Link) (numbers : List ℕ) (state at address size tags first last : ℕ) → 8 ≤ length numbers → state ≡ state_number link.state
    → at ≡ place_carried link.state → address ≡ link.address → size ≡ link.length → tags ≡ tags_number link.tags.range → first ≡ first_of link.tags.range
    → last ≡ last_of link.tags.range
    → sets numbers 0 (state ∷ at ∷ address ∷ size ∷ link.errors.bits ∷ tags ∷ first ∷ last ∷ []) ≡ link_numbers link ++ drop 8 numbers
unfolding link_numbers
stored link numbers state at address size tags first last long e1 e2 e3 e4 e5 e6 e7 =
    sets-eq (state ∷ at ∷ address ∷ size ∷ link.errors.bits ∷ tags ∷ first ∷ last ∷ []) numbers 0 long ∙ simp (e1, e2, e3, e4, e5, e6, e7)

pub returns : goal.returns
returns c =
    let long : length c.args.numbers.now ≡ 13 = search rules in
    stored c.args.link c.args.numbers.now _ _ _ _ _ _ _ (omega (arith, long)) c.state_number.ensures c.place_carried.ensures c.from.ensures c.from-2.ensures
    c.tags_number.ensures c.first_of.ensures c.last_of.ensures
