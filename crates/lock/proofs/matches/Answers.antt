use mathlib.Core.Path.{◌≡◌, sym, ap, ◌∙◌}
use mathlib.Core.Bool.{Bool, true, false}
use mathlib.Core.List.{List}
use Prim.Native.Nat.{ℕ}
use native.Mathlib.Omega.{arith}
use borrow.Author.Rules.{rules}
use lib.ListN.{length, take, drop, get_or}
use lib.Seq.{get_or-drop}
use Rattle.lock.specs.Passwords.{stored, same}
use Rattle.lock.specs.declared.Lock.{Lock}
use Rattle.lock.proofs.Same.{same_itself, miss}
use Rattle.lock.proofs.Stored.{stored_first}
use Rattle.lock.proofs.matches.Goals as goal

-- what is to be shown, from a test of the first bytes of the record
by_first : (lock : Lock) (p : List ℕ) (n : ℕ) (r : Bool) → length lock.password ≡ 16 → n ≡ length (stored lock)
    → same (take n (drop 2 p)) (take n lock.password) ≡ r → r ≡ same (take (length (stored lock)) (drop 2 p)) (stored lock)
by_first lock p n r long e t =
    sym t
    ∙ ap (λ (k : ℕ). same (take k (drop 2 p)) (take k lock.password)) e
    ∙ ap (same (take (length (stored lock)) (drop 2 p))) (sym (stored_first lock long))

pub returns-then-payload-i : goal.returns-then-payload-i
returns-then-payload-i c =
    let lock = c.args.lock in
    let p = c.args.payload.now in
    let i = c.loop-i.i in
    let long : length lock.password ≡ 16 = search rules in
    by_first lock p c.held-n.result false long c.held-n.ensures.answer
    (miss (drop 2 p) lock.password i c.held-n.result (omega arith)
    (λ (e : get_or (drop 2 p) i 0 ≡ get_or lock.password i 0). c.if-payload-i.true (sym (get_or-drop 2 p i 0) ∙ e)))

pub returns : goal.returns
returns c =
    let lock = c.args.lock in
    let p = c.args.payload.now in
    let i = c.loop-i.i in
    let long : length lock.password ≡ 16 = search rules in
    let all : i ≡ c.held-n.result = omega arith in
    by_first lock p i true long (all ∙ c.held-n.ensures.answer)
    (ap (λ (b : List ℕ). same b (take i lock.password)) c.loop-i.invariant ∙ same_itself (take i lock.password))
