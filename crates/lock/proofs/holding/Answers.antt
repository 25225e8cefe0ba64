-- `lock::holding` meets its contract: the bytes copied to the front of 16 zeros.
-- Assumes nothing.
use mathlib.Core.Path.{◌≡◌, sym, ap, ap₂, ◌∙◌}
use mathlib.Core.Bool.{Bool}
use mathlib.Core.List.{List, ◌++◌}
use Prim.Native.Nat.{ℕ, ◌+◌, ◌-◌, ◌≤◌}
use native.Mathlib.Omega.{arith}
use lib.ListN.{length, drop, replicate, length-replicate, replicate-append-replicate}
use lib.Seq.{drop_at, take_all}
use Rattle.base.proofs.Copying.{copied_front}
use Rattle.base.specs.Output.{copied}
use Rattle.lock.specs.Passwords.{holding}
use Rattle.lock.specs.declared.Lock.{Lock}
use Rattle.lock.proofs.holding.Goals as goal

-- what is left of 16 zeros behind n bytes
zeros_left : (n : ℕ) → n ≤ 16 → ◌≡◌ {A = List ℕ} (drop n (replicate 16 0)) (replicate (16 - n) 0)
zeros_left n h =
    let zero : ℕ = 0 in
    let all : n + (16 - n) ≡ 16 = omega arith in
    ap (λ (m : ℕ). drop n (replicate m zero)) (sym all)
    ∙ ap (drop n) (sym (replicate-append-replicate n (16 - n) zero))
    ∙ drop_at (replicate n zero) (replicate (16 - n) zero) n (length-replicate n zero)

-- the record that the copy leaves
held : (bytes password : List ℕ) (locked : Bool) → length bytes ≤ 16 → password ≡ copied bytes (replicate 16 0) 0
    → ◌≡◌ {A = Lock} (record { password = password; length = length bytes; locked = locked }) (holding bytes locked)
unfolding holding
held bytes password locked h e =
    let e2 : password ≡ bytes ++ replicate (16 - length bytes) 0 =
    e ∙ copied_front bytes (replicate 16 0) ∙ ap₂ (λ (x y : List ℕ). x ++ y) (take_all 16 bytes h) (zeros_left (length bytes) h)
    in
    λ k. record { password = e2 k; length = length bytes; locked = locked }

pub returns : goal.returns
returns c = held c.args.bytes.now c.copy.new.over c.args.locked c.requires c.copy.ensures.over
