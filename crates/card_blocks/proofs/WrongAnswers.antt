-- Wrong answers that the promises rule out, each refuted at a sample that antt computes: a call's answer is the definition, so a call
-- that gave the wrong answer would make the two equal. (Those of blocks are laws of the crates above.)
--   refusal_done    a refused call told as carried out
--   refusal_sends   one that sends a register
--   refusal_wakes   one that leaves another record
--   done_refused    a call that is carried out told as refused
--   done_sends      one that sends a register
--   done_resets     one that leaves another record
-- A block in, in SPI:
--   length_answered, protected_answered, failed_answered   a data response to a block that is refused 16, 19 or 20
--   good_blamed     0B to a good block
--   bad_accepted    05 to one refused 17
--   start_ignored   a block taken behind another start byte
--   crc_looked_at   17 with checking off
--   crc_passed_by   a wrong CRC16 taken with checking on
--   mmc_answers     a data response in MMC mode, to a good block
--   mmc_blames      .. or to one refused 17
-- A block out, in SPI:
--   unstarted       one with no start byte
--   start_uncounted one counted without it
--   start_unfit     one sent where there is no room for it
-- Assumes nothing.
use mathlib.Core.Path.{◌≡◌}
use mathlib.Core.Bool.{Bool, true, false}
use mathlib.Core.List.{List, [], ◌∷◌}
use Prim.Native.Nat.{ℕ}
use native.Mathlib.Omega.{arith}
use lib.ListN.{replicate, get_or}
use Rattle.base.proofs.Cases.{clash}
use Rattle.base.specs.Refusals.{by}
use Rattle.card_record.specs.declared.Sent.TheVariants.{Cid, DataResponse}
use Rattle.crc.specs.Bits.{bits}
use Rattle.crc.specs.Crc.{crc16, check_sum, remainder, divide}
use Rattle.lock.specs.Passwords.{no_password, holding}
use Rattle.lock.specs.Requests.{request_of}
use Rattle.card_record.specs.Power.{fresh_link, mmc_mode}
use Rattle.card_record.specs.Record.{with_state}
use Rattle.card_record.specs.declared.Card.{Card}
use Rattle.card_record.specs.declared.Registers.{Registers}
use Rattle.states.specs.declared.Incoming.TheVariants.{One, LockRequest}
use Rattle.states.specs.declared.Outgoing.TheVariants.{Csd as CsdOut}
use Rattle.states.specs.declared.State.{State}
use Rattle.states.specs.declared.State.TheVariants.{Idle, Tran, Data, Rcv, Prg, Ina}
use Rattle.status.specs.Status.{no_errors}
use Rattle.store.specs.Lent.{lent_of}
use Rattle.tags.specs.Tagging.{no_tags}
use Rattle.wire.specs.Blocks.{block_of}
use Rattle.card_blocks.specs.BlockIn.{block_refused, block_good, write_judged, request_judged, checked_judged, awaited_judged, state_judged}
use Rattle.card_blocks.specs.BlockOut.{out_good, bytes_judged, state_sends, in_front, sent_out}
use Rattle.card_blocks.specs.Replies.{refused, done}
use Rattle.card_blocks.specs.declared.BlockJudged.{BlockJudged}
use Rattle.card_blocks.specs.declared.Sending.TheVariants.{Csd}
use Rattle.card_blocks.specs.declared.Storing.TheVariants.{All}
use Rattle.std.specs.Prelude.{Ok, Err, Some, None}

abbrev registers : Registers
registers = record { cid = replicate 16 1; csd = replicate 16 2; ocr = 0x00FF8000; groups = 1 }

abbrev card : State → Card
card state = record { registers = registers; lock = no_password; link = with_state fresh_link state; mode = mmc_mode }

refusal_done : (refused (card Ina) (by 12)).reply.outcome ≡ Ok None → ⊥
refusal_done e = clash cc

refusal_sends : (refused (card Ina) (by 12)).reply.sent ≡ Cid → ⊥
refusal_sends e = clash cc

refusal_wakes : (refused (card Ina) (by 12)).card.link.state ≡ Idle → ⊥
unfolding fresh_link
refusal_wakes e = clash cc

done_refused : (done (card Tran)).reply.outcome ≡ Err (by 12) → ⊥
done_refused e = clash cc

done_sends : (done (card Tran)).reply.sent ≡ Cid → ⊥
done_sends e = clash cc

done_resets : (done (card Tran)).card.link.state ≡ Idle → ⊥
unfolding fresh_link
done_resets e = clash cc

-- ---- a block in
-- a locked card that awaits a lock request of one byte: 8 is a forced erase, and is granted
abbrev asking : Bool → Bool → Card
asking spi checks =
    record {
      registers = registers;
      lock = holding (1 ∷ []) true;
      link = record { state = Rcv LockRequest; address = 1; length = 1; errors = no_errors; tags = no_tags };
      mode = record { spi = spi; checks = checks };
    }

abbrev asked : Bool → Bool → List ℕ → BlockJudged
asked spi checks block = state_judged (asking spi checks) (Rcv LockRequest) block []

length_answered : (byte : ℕ) → (asked true false (0xFE ∷ 8 ∷ 0 ∷ [])).stepped.reply.sent ≡ DataResponse byte → ⊥
unfolding awaited_judged block_refused
length_answered byte e = clash cc

protected_answered : (byte : ℕ) → (write_judged (asking true false) (One 0) 0 (1 ∷ [])).stepped.reply.sent ≡ DataResponse byte → ⊥
unfolding write_judged block_refused
protected_answered byte e = clash cc

failed_answered : (byte : ℕ) → (asked true false (0xFE ∷ 4 ∷ 0 ∷ 0 ∷ [])).stepped.reply.sent ≡ DataResponse byte → ⊥
unfolding awaited_judged checked_judged request_judged request_of holding block_refused
failed_answered byte e = clash cc

good_blamed : (asked true false (0xFE ∷ 8 ∷ 0 ∷ 0 ∷ [])).stepped.reply.sent ≡ DataResponse 0x0B → ⊥
unfolding awaited_judged checked_judged request_judged request_of holding block_good
good_blamed e = clash cc

bad_accepted : (asked true true (0xFE ∷ 8 ∷ 0 ∷ 0 ∷ [])).stepped.reply.sent ≡ DataResponse 0x05 → ⊥
unfolding awaited_judged checked_judged block_refused crc16 check_sum remainder divide bits
bad_accepted e = clash cc

start_ignored : (asked true false (0xFF ∷ 8 ∷ 0 ∷ 0 ∷ [])).stepped.reply.outcome ≡ Ok None → ⊥
unfolding awaited_judged block_refused
start_ignored e = clash cc

crc_looked_at : (asked true false (0xFE ∷ 8 ∷ 0 ∷ 0 ∷ [])).stepped.reply.outcome ≡ Err (by 17) → ⊥
unfolding awaited_judged checked_judged request_judged request_of holding block_good
crc_looked_at e = clash cc

crc_passed_by : (asked true true (0xFE ∷ 8 ∷ 0 ∷ 0 ∷ [])).stepped.reply.outcome ≡ Ok None → ⊥
unfolding awaited_judged checked_judged block_refused crc16 check_sum remainder divide bits
crc_passed_by e = clash cc

mmc_answers : (byte : ℕ) → (block_good (asking false false) Prg All).stepped.reply.sent ≡ DataResponse byte → ⊥
unfolding block_good
mmc_answers byte e = clash cc

mmc_blames : (byte : ℕ) → (block_refused (asking false false) LockRequest (by 17) None).stepped.reply.sent ≡ DataResponse byte → ⊥
unfolding block_refused
mmc_blames byte e = clash cc

-- ---- a block out
-- the CSD, of which each byte is 2, with 16 bytes of payload, 2 of CRC16 and the start byte
unstarted : get_or (sent_out (asking true false) (lent_of [] []) Csd (replicate 19 0)) 0 0 ≡ 2 → ⊥
unfolding sent_out in_front block_of
unstarted e = let z : ◌≡◌ {A = ℕ} 0xFE 2 = e in omega arith

start_uncounted : (state_sends (asking true false) (Data CsdOut) 19).stepped.reply.outcome ≡ Ok (Some 18) → ⊥
unfolding bytes_judged out_good
start_uncounted e = clash cc

start_unfit : (state_sends (asking true false) (Data CsdOut) 18).stepped.reply.outcome ≡ Ok (Some 18) → ⊥
unfolding bytes_judged
start_unfit e = clash cc
