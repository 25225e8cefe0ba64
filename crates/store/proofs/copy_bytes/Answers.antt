-- `store::copy_bytes` meets its contract: once as many bytes are passed as there are others, the bytes stand there.
-- Assumes nothing.
use mathlib.Core.Path.{ap, ◌∙◌}
use mathlib.Core.List.{List, ◌++◌, append-nil}
use Prim.Native.Nat.{ℕ}
use native.Mathlib.Omega.{arith}
use lib.ListN.{length, get_or, set, drop_of_length-le}
use Rattle.base.proofs.Copying.{copy_turn, copy_all}
use Rattle.store.proofs.copy_bytes.Goals as goal

pub loop-i-preserved : goal.loop-i-preserved
loop-i-preserved c =
    let l = c.loop-i in
    let s = c.args.bytes.now in
    let o = c.args.over.now in
    ap (λ (m : List ℕ). set m l.i (get_or s l.i 0)) l.invariant ∙ copy_turn s o l.i (omega arith) (omega arith)

pub returns : goal.returns
returns c =
    let l = c.loop-i in
    let s = c.args.bytes.now in
    let o = c.args.over.now in
    l.invariant ∙ copy_all s o l.i (omega arith) ∙ ap (λ (x : List ℕ). s ++ x) (drop_of_length-le o {i = length s} (omega arith)) ∙ append-nil s
