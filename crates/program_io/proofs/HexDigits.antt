-- The digits that a program prints of bytes.
--   front   those at the front of a text are those that were laid there
--   some    where there are bytes, what is printed are their digits
-- Assumes nothing.
use mathlib.Core.Path.{◌≡◌, refl, sym, ap, ◌∙◌}
use mathlib.Core.Bool.{false}
use mathlib.Core.List.{List, [], ◌∷◌}
use Prim.Native.Nat.{ℕ}
use lib.Dec.{leb}
use lib.ListN.{length, take, drop}
use lib.Seq.{take_at}
use Rattle.base.proofs.Cases.{never, passed, unrefused}
use Rattle.base.specs.Output.{bytes_of, fits, laid}
use Rattle.base.specs.Refusals.{by}
use Rattle.base.specs.declared.Refusal.{Refusal}
use Rattle.std.specs.Bool.{◌==◌}
use Rattle.std.specs.Prelude.{Result, Ok, Err}
use Rattle.program_io.specs.HexText.{shown_hex}
use Rattle.text.specs.Text.{hex_of}

pub front : (r : Result ℕ Refusal) (bytes before after : List ℕ) (n : ℕ) → r ≡ fits bytes before → after ≡ laid r bytes before → r ≡ Ok n → take n after ≡ bytes
front r bytes before after n told out ok =
    let e = (passed (leb (length bytes) (length before)) (Err (by 6)) (Ok (length bytes)) (Ok n) unrefused (sym told ∙ ok)).1 in
    let long : length bytes ≡ n = ap bytes_of e in
    ap (take n) (out ∙ ap (λ (x : Result ℕ Refusal). laid x bytes before) ok) ∙ take_at bytes (drop (length bytes) before) n long

pub some : (bytes : List ℕ) → false ≡ (length bytes == 0) → shown_hex bytes ≡ hex_of bytes
some [] e = never e
some (b ∷ bytes) e = refl
