-- `card_blocks::framing::crc_right` meets its contract: a block of the right length is refused by 17 alone, where it is refused; in SPI it is looked at only with checking on.
-- Assumes nothing.
use mathlib.Core.Path.{◌≡◌, refl, sym, ap, ◌∙◌}
use mathlib.Core.Bool.{Bool, true, false, not, ◌&&◌, ◌||◌}
use mathlib.Core.List.{List}
use Prim.Native.Nat.{ℕ, ◌-◌, ◌≤◌}
use borrow.Author.Tests.{le-leb}
use lib.Dec.{eqb}
use lib.ListN.{length}
use Rattle.base.proofs.Cases.{kept_by}
use Rattle.base.specs.Refusals.{by}
use Rattle.crc.specs.Crc.{crc16}
use Rattle.wire.specs.Blocks.{crc_in, payload_of, checked_of}
use Rattle.card_blocks.proofs.framing.crc_right.Goals as goal
use Rattle.card_blocks.proofs.framing.crc_right.Goals.{then-mode, else-mode}
use Rattle.std.specs.Prelude.{is_ok}

-- a block of its length is refused by 17 alone, where its CRC16 is wrong
checks : (b : List ℕ) → 3 ≤ length b → length b ≤ 2050 → is_ok (checked_of b) ≡ eqb (crc_in b) (crc16 (payload_of b))
unfolding checked_of
checks b lo hi = rw (le-leb 3 (length b) lo, le-leb (length b) 2050 hi) (kept_by (by 17) (length b - 2) (eqb (crc_in b) (crc16 (payload_of b))))

off : (spi : Bool) → (spi && false) ≡ false
off true = refl
off false = refl

pub returns-else-not-mode : goal.returns-else-not-mode
returns-else-not-mode c =
    let mode = c.args.mode in
    let looked : (mode.spi && not mode.checks) ≡ false =
    elim c.if-mode.branch [
      | then-mode w ↦ ap (λ (x : Bool). mode.spi && x) (sym w.value-is ∙ c.if-not-mode.false) ∙ off mode.spi
      | else-mode w ↦ ap (λ (x : Bool). x && not mode.checks) w.if-mode.false
    ] in
    c.is_ok.ensures.value ∙ ap is_ok c.check_block.ensures.answer ∙ checks c.args.block.now c.requires.0 c.requires.1
    ∙ sym (ap (λ (x : Bool). x || eqb (crc_in c.args.block.now) (crc16 (payload_of c.args.block.now))) looked)
