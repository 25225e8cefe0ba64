-- What the library writes of a number and of a flag is what the lines show.
-- Assumes nothing.
use mathlib.Core.Path.{◌≡◌, refl, ap}
use mathlib.Core.Bool.{Bool, true, false}
use mathlib.Core.List.{[], ◌∷◌}
use Prim.Native.Nat.{ℕ, ◌<◌, ◌/◌, ◌%◌}
use native.Mathlib.Omega.{arith}
use Rattle.std.specs.Int.{w16, w32, to_be_bytes, from_bool}
use Rattle.cardline_looks.specs.Looks.{two_bytes, four_bytes}
use Rattle.status.specs.Status.{flag}

pub two_written : (n : ℕ) → n < 65536 → to_be_bytes w16 n ≡ two_bytes n
two_written n h =
    let e : n / 256 % 256 ≡ n / 256 = omega arith in
    ap (λ (x : ℕ). x ∷ n % 256 ∷ []) e

pub four_written : (n : ℕ) → n < 4294967296 → to_be_bytes w32 n ≡ four_bytes n
four_written n h =
    let e : n / 16777216 % 256 ≡ n / 16777216 = omega arith in
    ap (λ (x : ℕ). x ∷ n / 65536 % 256 ∷ n / 256 % 256 ∷ n % 256 ∷ []) e

pub flag_written : (is : Bool) → from_bool is ≡ flag is
flag_written true = refl
flag_written false = refl
