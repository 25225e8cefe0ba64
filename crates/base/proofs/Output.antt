-- What a call that writes into a lent output shows at its returns.
--   short     refused 6 where the output is shorter than the answer
--   written   the answer's length and the output, where the answer stands at its front
-- and what that means to whoever lent the output:
--   untouched   an output that is too short is left as it was
--   rest_kept   nothing past the answer's end is written, whether the answer fits or not
--   front       an answer that fits stands at the front
--   within      what an answer says that it wrote lies within the output
-- Assumes nothing.
use mathlib.Core.Path.{◌≡◌}
use mathlib.Core.Bool.{true, false}
use mathlib.Core.List.{List, ◌++◌}
use Prim.Native.Nat.{ℕ, ◌≤◌, ◌<◌}
use native.Mathlib.Omega.{arith}
use borrow.Author.Tests.{le-leb, lt-leb, leb-true}
use lib.Dec.{leb}
use lib.ListN.{length, take, drop}
use lib.Seq.{drop-append_seam, take_at}
use Rattle.base.proofs.Cases.{cases}
use Rattle.base.specs.Output.{fits, laid, bytes_of}
use Rattle.base.specs.Refusals.{by}
use Rattle.std.specs.Prelude.{Result, Ok, Err}
use Rattle.base.specs.declared.Refusal.{Refusal}

module _ (bytes out : List ℕ) (n : ℕ) (long : length bytes ≡ n) where
  pub short : length out < n → Err (by 6) ≡ fits bytes out
  short h = simp (long, lt-leb n (length out) h)

  pub written : (last : List ℕ) → n ≤ length out → last ≡ bytes ++ drop n out → (Ok n ≡ fits bytes out) × (last ≡ laid (Ok n) bytes out)
  written last h e = (simp (long, le-leb n (length out) h), simp long e)

pub untouched : (bytes out : List ℕ) → length out < length bytes → laid (fits bytes out) bytes out ≡ out
untouched bytes out h = simp (lt-leb (length bytes) (length out) h)

pub rest_kept : (bytes out : List ℕ) → drop (length bytes) (laid (fits bytes out) bytes out) ≡ drop (length bytes) out
rest_kept bytes out =
    cases (leb (length bytes) (length out))
    (λ (t : leb (length bytes) (length out) ≡ true). simp t (drop-append_seam bytes (drop (length bytes) out)))
    (λ (t : leb (length bytes) (length out) ≡ false). simp t)

pub front : (bytes out : List ℕ) (n : ℕ) → length bytes ≡ n → n ≤ length out → take n (laid (fits bytes out) bytes out) ≡ bytes
front bytes out n long h = simp (long, le-leb n (length out) h) (take_at bytes (drop n out) n long)

pub within : (bytes out : List ℕ) (answer : Result ℕ Refusal) → answer ≡ fits bytes out → bytes_of answer ≤ length out
within bytes out answer e =
    rw e
    (cases (leb (length bytes) (length out))
    (λ (t : leb (length bytes) (length out) ≡ true). rw t (leb-true (length bytes) (length out) t))
    (λ (t : leb (length bytes) (length out) ≡ false). rw t (omega arith)))
