-- `corpus::play_card` meets its contract. How long the memory is stands in a law: to compute it is to walk the memory.
-- Assumes nothing.
use mathlib.Core.Path.{sym}
use Prim.Native.Nat.{ℕ}
use Rattle.std.proofs.lemmas.List.{length-replicate}
use Rattle.corpus.proofs.play_card.Goals as goal

pub slice_bounds-fresh-end : goal.slice_bounds-fresh-end
slice_bounds-fresh-end g c = sym (length-replicate {A = ℕ} 528384 0)
