-- The rounds that demand 3 speaks of are those that the frame writer writes.
--   written              a round as `wire::write_command` writes it: any argument of CMD2, an address, and any bits 15..0 behind it
--   written_undamaged    it is undamaged
--   undamaged_written    and every undamaged round of bytes is one of these
-- Assumes nothing.
use mathlib.Core.Path.{◌≡◌, ap, ap₂, ◌∙◌}
use mathlib.Core.List.{List}
use Prim.Native.Nat.{ℕ, ◌+◌, ◌*◌, ◌/◌, ◌%◌, ◌^◌, ◌≤◌, ◌<◌}
use native.Mathlib.Omega.{arith}
use Rattle.crc.specs.Bits.{Below}
use Rattle.wire.proofs.FrameTheorems.{read_after_write, write_after_read}
use Rattle.wire.specs.Frames.{command_frame}
use Rattle.rounds.specs.Demand3.{Round, Undamaged}

abbrev pub round_from : List ℕ → List ℕ → ℕ → Round
round_from cmd2 cmd3 address = record { cmd2 = cmd2; cmd3 = cmd3; address = address }

abbrev pub written : ℕ → ℕ → ℕ → Round
written argument address low = round_from (command_frame 2 argument) (command_frame 3 (address * 65536 + low)) address

-- 32 bits of argument, 16 of address, of which one at least is 1, and 16 low bits
pub record Fitting (argument address low : ℕ) : Type 0 where
  pub argument_bits : argument < 2 ^ 32
  pub address_some : 1 ≤ address
  pub address_bits : address < 65536
  pub low_bits : low < 65536

pub written_undamaged : (argument address low : ℕ) → Fitting argument address low → Undamaged (written argument address low)
written_undamaged argument address low f =
    let a = f.address_bits in
    let l = f.low_bits in
    record {
      cmd2 = (argument, read_after_write 2 argument (omega arith) f.argument_bits);
      cmd3 = (address * 65536 + low, (read_after_write 3 (address * 65536 + low) (omega arith) (omega arith), omega arith));
      address = f.address_some;
    }

pub undamaged_written : (round : Round) → Below 256 round.cmd2 → Below 256 round.cmd3 → Undamaged round
    → (argument : ℕ) × ((low : ℕ) × (Fitting argument round.address low × (round ≡ written argument round.address low)))
undamaged_written round bytes2 bytes3 u =
    let x : ℕ = u.cmd2.0 in
    let y : ℕ = u.cmd3.0 in
    let w2 = write_after_read round.cmd2 bytes2 2 x u.cmd2.1 in
    let w3 = write_after_read round.cmd3 bytes3 3 y u.cmd3.1.0 in
    let high : y / 65536 ≡ round.address = u.cmd3.1.1 in
    let small : y < 2 ^ 32 = w3.1 in
    let whole : y ≡ round.address * 65536 + y % 65536 = omega arith in (
      x,
      (
        y % 65536,
        (
          record { argument_bits = w2.1; address_some = u.address; address_bits = omega arith; low_bits = omega arith },
          ap₂ (λ (f g : List ℕ). round_from f g round.address) w2.2 (w3.2 ∙ ap (command_frame 3) whole),
        ),
      ),
    )
