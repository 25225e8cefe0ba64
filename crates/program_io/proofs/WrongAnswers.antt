-- Wrong answers that the promises of this crate rule out, by number.
--   past_the_buffer   bytes told of behind the end of the buffer
--   none_told         no byte more, told as bytes
--   kept_lost         bytes told of that end before those that were kept
--   more_than_held    more handed over than the output holds
--   none_handed       nothing handed over
--   none_unsaid       nothing printed of no bytes
--   digits_turned     the low digit of a byte before its high one
-- Assumes nothing.
use mathlib.Core.Path.{◌≡◌, ap}
use mathlib.Core.List.{List, [], ◌∷◌}
use Prim.Native.Nat.{ℕ, min}
use native.Mathlib.Omega.{arith}
use lib.ListN.{get_or}
use Rattle.base.proofs.Cases.{clash}
use Rattle.program_io.specs.HexText.{shown_hex}
use Rattle.program_io.specs.Reading.{Behind}
use Rattle.text.specs.Text.{hex_of}
use Rattle.std.specs.Prelude.{Some, Ok}

-- ---- a read
past_the_buffer : Behind 0 4 (Ok (Some 5)) → ⊥
past_the_buffer e = omega (arith, e.1)

none_told : Behind 2 4 (Ok (Some 2)) → ⊥
none_told e = omega (arith, e.0)

kept_lost : Behind 3 4 (Ok (Some 1)) → ⊥
kept_lost e = omega (arith, e.0)

-- ---- what is handed to the write call
more_than_held : ◌≡◌ {A = ℕ} (min 9 4) 9 → ⊥
more_than_held e = let z : ◌≡◌ {A = ℕ} 4 9 = e in omega arith

none_handed : ◌≡◌ {A = ℕ} (min 3 4) 0 → ⊥
none_handed e = let z : ◌≡◌ {A = ℕ} 3 0 = e in omega arith

-- ---- bytes as they are printed
none_unsaid : shown_hex [] ≡ [] → ⊥
none_unsaid e = clash cc

digits_turned : shown_hex (0x1A ∷ []) ≡ 65 ∷ 49 ∷ [] → ⊥
unfolding hex_of
digits_turned e = let d = ap (λ (l : List ℕ). get_or l 0 0) e in omega arith
