-- A good block is stored, so what is written is read back.
--   good_granted      a block of 512 bytes with its CRC16, in SPI behind the start byte, is granted wherever the card awaits a write that it can take
--   write_read        so 512 bytes that are written by CMD24 are read back by CMD17, in MMC mode and in SPI
--   write_read_many   and so are those of CMD25, stopped by CMD12, in MMC mode
-- Assumes nothing.
use mathlib.Core.Path.{◌≡◌, sym, ap, ◌∙◌}
use mathlib.Core.Bool.{Bool, false}
use mathlib.Core.List.{List, [], ◌∷◌}
use Prim.Native.Nat.{ℕ, ◌/◌, ◌%◌, ◌≤◌, ◌<◌}
use native.Mathlib.Omega.{arith}
use borrow.Author.Tests.{lt-ltb}
use lib.ListN.{length, take}
use lib.Seq.{take_at}
use Rattle.card_blocks.proofs.Outcomes.{WritesAt, one, many}
use Rattle.card_blocks.specs.BlockIn.{awaited_length, block_good, write_judged, carried_out}
use Rattle.card_blocks.specs.Framing.{unstarted, with_start}
use Rattle.card_blocks.specs.declared.BlockJudged.{BlockJudged}
use Rattle.crc.specs.Crc.{crc16}
use Rattle.made.specs.Run.{World, outcome_of, output_after}
use Rattle.card_record.specs.Record.{size_of}
use Rattle.states.specs.declared.Incoming.{Incoming}
use Rattle.states.specs.declared.Incoming.TheVariants.{One, Many}
use Rattle.states.specs.declared.State.TheVariants.{Rcv}
use Rattle.store.specs.Lent.{seen}
use Rattle.wire.specs.Blocks.{block_of}
use Rattle.stored.specs.ReadBack.{block_in, block_out, stored_then_read, stored_stopped_then_read, framed_sector, Awaiting, Writable}
use Rattle.stored.proofs.Framed.{behind_start, reaches, framed_right}
use Rattle.stored.proofs.ReadBack.{read_back, read_back_many}
use Rattle.std.specs.Prelude.{Ok, None}

module _ (spi : Bool) (w : World) (payload : List ℕ) (at : ℕ) (here : w.card.mode.spi ≡ spi) (sector : length payload ≡ 512) (writable : Writable w at) where
  -- the payload as it comes in
  abbrev block : List ℕ
  block = with_start spi (block_of payload)

  in_memory : at / 512 < size_of w.card.registers.groups / 512
  in_memory = omega (arith, writable.in_range)

  write_good : {incoming : Incoming} → WritesAt incoming at → (carried_out w.card incoming payload w.lent.map).stepped.reply.outcome ≡ Ok None
  unfolding write_judged block_good
  write_good (one at) = rw (lt-ltb (at / 512) (size_of w.card.registers.groups / 512) in_memory, writable.free)
  write_good (many at) = rw (lt-ltb (at / 512) (size_of w.card.registers.groups / 512) in_memory, writable.free)

  write_long : {incoming : Incoming} → WritesAt incoming at → awaited_length w.card incoming ≡ length payload
  write_long (one at) = sym sector
  write_long (many at) = sym sector

  pub good_granted : {incoming : Incoming} → WritesAt incoming at → w.card.link.state ≡ Rcv incoming → outcome_of w (block_in block) ≡ Ok None
  good_granted {incoming} writes state =
      let right = framed_right spi w.card payload here (omega arith) (omega arith) incoming (write_long writes) w.lent.map in
      ap (λ (j : BlockJudged). j.stepped.reply.outcome) (reaches w.card block (seen w.lent) incoming writable.right state ∙ right) ∙ write_good writes

  payload_back : take 512 (block_of payload) ≡ payload
  unfolding block_of
  payload_back = take_at payload (crc16 payload / 256 ∷ crc16 payload % 256 ∷ []) 512 sector

  -- the block that goes out is the one that came in
  same_block : with_start spi (block_of (take 512 (unstarted spi block))) ≡ block
  same_block =
      ap (λ (b : List ℕ). with_start spi (block_of (take 512 b))) (behind_start spi (block_of payload))
      ∙ ap (λ (p : List ℕ). with_start spi (block_of p)) payload_back

  module _ (awaiting : Awaiting w.card at) (output : List ℕ) (room : framed_sector spi ≤ length output) where
    pub write_read : w.card.link.state ≡ Rcv (One at)
        → take (framed_sector spi) (output_after (stored_then_read spi w (with_start spi (block_of payload)) at) (block_out output)) ≡ with_start spi (block_of payload)
    write_read state = (read_back spi w block at here awaiting output room state (good_granted (one at) state)).front ∙ same_block

module _ (w : World) (payload : List ℕ) (at : ℕ) (here : w.card.mode.spi ≡ false) (sector : length payload ≡ 512) (writable : Writable w at)
    (awaiting : Awaiting w.card at) (output : List ℕ) (room : 514 ≤ length output) where
  pub write_read_many : w.card.link.state ≡ Rcv (Many at) → take 514 (output_after (stored_stopped_then_read w (block_of payload) at) (block_out output)) ≡ block_of payload
  write_read_many state =
      (read_back_many w (block_of payload) at here awaiting output room state (good_granted false w payload at here sector writable (many at) state)).front
      ∙ same_block false w payload at here sector writable
