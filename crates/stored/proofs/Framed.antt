-- A payload that comes framed as a card's mode has it, with the length that the card awaits, is refused neither 16 nor 17: in MMC mode and in SPI,
-- whether CRCs are checked or not.
--   behind_start, start_length    what stands behind the start byte, and how long a block is with it
--   reaches          a block that is awaited, where the card is lent what is its own, is looked at
--   framed_right     so what the block does is what its payload does
--   request_right    of a lock request: what the request does
-- Assumes nothing.
use mathlib.Core.Path.{◌≡◌, refl, ap, ◌∙◌}
use mathlib.Core.Bool.{Bool, true, false, not, ◌&&◌, ◌||◌}
use mathlib.Core.List.{List, [], ◌∷◌}
use Prim.Native.Nat.{ℕ, ◌+◌, ◌-◌, ◌/◌, ◌%◌, ◌≤◌}
use native.Mathlib.Omega.{arith}
use borrow.Author.Tests.{eq-eqb}
use lib.Dec.{eqb}
use lib.ListN.{length, take}
use lib.Seq.{take_at}
use Rattle.card_blocks.specs.BlockIn.{awaited_length, request_judged, carried_out, checked_judged, awaited_judged, block_judged}
use Rattle.card_blocks.specs.Framing.{beside, started, unstarted, with_start, crc_right}
use Rattle.card_record.specs.Record.{length_read}
use Rattle.card_record.specs.declared.Card.{Card}
use Rattle.card_record.specs.declared.Mode.{Mode}
use Rattle.crc.specs.Crc.{crc16}
use Rattle.states.specs.declared.Incoming.{Incoming}
use Rattle.states.specs.declared.Incoming.TheVariants.{LockRequest}
use Rattle.states.specs.declared.State.TheVariants.{Rcv}
use Rattle.store.specs.Lent.{Seen, lending_of}
use Rattle.wire.proofs.BlockTheorems.{long, good, check_after_write}
use Rattle.wire.specs.Blocks.{longest_block, block_of, payload_of, crc_in}
use Rattle.std.specs.Prelude.{Ok}

-- ---- the start byte
starts : (spi : Bool) (block : List ℕ) → started spi (with_start spi block) ≡ true
starts true block = refl
starts false block = refl

pub behind_start : (spi : Bool) (block : List ℕ) → unstarted spi (with_start spi block) ≡ block
behind_start true block = refl
behind_start false block = refl

pub start_length : (spi : Bool) (block : List ℕ) (n : ℕ) → length block ≡ n + 2 → length (with_start spi block) ≡ n + beside spi
start_length true block n e = omega (arith, e)
start_length false block n e = e

-- ---- the CRC16
or_true : (b : Bool) → (b || true) ≡ true
or_true true = refl
or_true false = refl

-- one that is right passes in every mode
crc_passes_lem : (mode : Mode) (block : List ℕ) → eqb (crc_in block) (crc16 (payload_of block)) ≡ true → crc_right mode block ≡ true
crc_passes_lem mode block e = ap (λ (b : Bool). mode.spi && not mode.checks || b) e ∙ or_true (mode.spi && not mode.checks)

-- ---- 12 and 15
pub reaches : (card : Card) (block : List ℕ) (seen : Seen) (incoming : Incoming) → lending_of seen card.registers.groups ≡ Ok tt
    → card.link.state ≡ Rcv incoming → block_judged card block seen ≡ awaited_judged card incoming block seen.map
unfolding block_judged
reaches card block seen incoming right on = rw (right, on)

-- ---- 16 and 17
module _ (spi : Bool) (card : Card) (payload : List ℕ) (here : card.mode.spi ≡ spi) (some : 1 ≤ length payload) (few : length payload ≤ longest_block) where
  -- the payload as it comes in
  abbrev framed : List ℕ
  framed = with_start spi (block_of payload)

  crc_right_lem : eqb (crc_in (block_of payload)) (crc16 (payload_of (block_of payload))) ≡ true
  crc_right_lem =
      eq-eqb (crc_in (block_of payload)) (crc16 (payload_of (block_of payload)))
      (good (block_of payload) (length payload) (check_after_write payload some few)).crc

  payload_back : payload_of (block_of payload) ≡ payload
  unfolding block_of
  payload_back =
      let n : length (block_of payload) - 2 ≡ length payload = omega (arith, long payload) in
      ap (λ (k : ℕ). take k (block_of payload)) n ∙ take_at payload (crc16 payload / 256 ∷ crc16 payload % 256 ∷ []) (length payload) refl

  pub framed_right : (incoming : Incoming) → awaited_length card incoming ≡ length payload → (map : List ℕ)
      → awaited_judged card incoming framed map ≡ carried_out card incoming payload map
  unfolding awaited_judged checked_judged
  framed_right incoming n map =
      let mode : Mode = record { spi = spi; checks = card.mode.checks } in
      let whole = eq-eqb (length framed) (length payload + beside spi) (start_length spi (block_of payload) (length payload) (long payload)) in
      rw (n, here, whole, starts spi (block_of payload), behind_start spi (block_of payload), crc_passes_lem mode (block_of payload) crc_right_lem, payload_back)

  pub request_right : (seen : Seen) → lending_of seen card.registers.groups ≡ Ok tt → card.link.state ≡ Rcv LockRequest
      → length_read card.link.length ≡ length payload → block_judged card framed seen ≡ request_judged card payload
  request_right seen right on n = reaches card framed seen LockRequest right on ∙ framed_right LockRequest n seen.map
