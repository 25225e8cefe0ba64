-- Samples that antt computes, each of a made card (`samples_made`), so that no theorem holds for want of cases:
--   write_happens, erase_happens, force_happens    a byte that changes by each cause
--   protect_happens, free_happens, clear_happens   an entry that changes by each cause
--   unlock_happens                                 a locked card that its password unlocks
--   spi_write_happens, spi_erase_happens, spi_force_happens, spi_protect_happens, spi_free_happens, spi_unlock_happens    and the same in SPI
-- Assumes nothing.
use mathlib.Core.Path.{◌≡◌, refl}
use mathlib.Core.Bool.{true, false}
use mathlib.Core.List.{List, [], ◌∷◌, ◌++◌}
use Prim.Native.Nat.{ℕ, ◌+◌, ◌≤◌}
use native.Mathlib.Omega.{arith}
use lib.ListN.{length, get_or, replicate}
use Rattle.base.proofs.Cases.{never}
use Rattle.card_blocks.specs.BlockIn.{block_good, write_judged, request_judged, checked_judged, awaited_judged, block_judged}
use Rattle.card.specs.Frame.{frame_judged}
use Rattle.card.specs.Step.{step_of, lent_after}
use Rattle.card.specs.declared.Call.TheVariants.{Frame, BlockIn}
use Rattle.command.specs.Answers.{answered}
use Rattle.command.specs.Arguments.{argument_fault}
use Rattle.command.specs.Command.{taken_of, command_of}
use Rattle.command.specs.Obey.{tagging_of, judged_of, change_of, after_checks, acted_of}
use Rattle.crc.specs.Bits.{bits}
use Rattle.crc.specs.Crc.{divide, remainder, check_sum, crc16}
use Rattle.lock.specs.Passwords.{stored, same, holding, no_password}
use Rattle.lock.specs.Requests.{password_in, presented, request_of}
use Rattle.lock.specs.declared.Lock.{Lock}
use Rattle.made.proofs.Locks.{holding_made}
use Rattle.made.proofs.Pending.{none_pending}
use Rattle.made.proofs.Reached.{register}
use Rattle.made.specs.Made.{MadeRegisters, MadeLock, MadeMode, Waits, Made}
use Rattle.moves.specs.Moves.{move_of}
use Rattle.moves.specs.Rows.{transfer_row, row_of}
use Rattle.card_record.specs.Power.{mmc_mode}
use Rattle.card_record.specs.declared.Card.{Card}
use Rattle.card_record.specs.declared.Mode.{Mode}
use Rattle.spi.specs.Answers.{answered_in}
use Rattle.spi.specs.Hearing.{taken_in, spi_heard, heard_of}
use Rattle.spi_moves.specs.Moves.{row_of as row_in_spi, move_of as move_in_spi}
use Rattle.states.specs.declared.Incoming.{Incoming}
use Rattle.states.specs.declared.Incoming.TheVariants.{One, LockRequest}
use Rattle.states.specs.declared.State.{State}
use Rattle.states.specs.declared.State.TheVariants.{Tran, Rcv}
use Rattle.status.specs.Status.{no_errors}
use Rattle.store.specs.Erase.{erased_sector, sector_erased, erased_to, erased}
use Rattle.store.specs.Lent.{Lent, lent_of, seen}
use Rattle.store.specs.Map.{entries_right}
use Rattle.store.specs.Memory.{sector_written}
use Rattle.tags.specs.Made.{MadeTags}
use Rattle.tags.specs.Tagging.{no_tags, tags_of, any_of}
use Rattle.tags.specs.declared.Kind.TheVariants.{Sectors}
use Rattle.tags.specs.declared.Range.TheVariants.{Full}
use Rattle.tags.specs.declared.Tags.{Tags}
use Rattle.wire.specs.Blocks.{block_of}
use Rattle.wire.specs.Frames.{crc7_of, sealed, command_frame, fields_of, framing_of}
use Rattle.wire.specs.Responses.{last_byte, register_right}

-- a card of 8,192 bytes, with registers whose last byte is right
abbrev sample_in : Mode → State → ℕ → Lock → Tags → Card
sample_in mode state length lock tags =
    record {
      registers = record { cid = register; csd = register; ocr = 0x00FF8000; groups = 1 };
      lock = lock;
      link = record { state = state; address = 1; length = length; errors = no_errors; tags = tags };
      mode = mode;
    }

abbrev sample : State → ℕ → Lock → Tags → Card
sample = sample_in mmc_mode

-- in SPI with CRC checking off
abbrev spi_mode : Mode
spi_mode = record { spi = true; checks = false }

-- each is a card as making and calls leave one
registers_right : MadeRegisters (record { cid = register; csd = register; ocr = 0x00FF8000; groups = 1 })
unfolding register_right last_byte crc7_of remainder divide bits
registers_right = record { size = refl; cid = refl; csd = refl; ocr = omega arith }

sample_made : (mode : Mode) (state : State) (length : ℕ) (lock : Lock) (tags : Tags) → MadeMode mode state → MadeLock lock
    → (1 ≤ length) × (length ≤ 2048) → MadeTags 8192 tags → (any_of tags ≡ true → (state ≡ Tran) × (lock.locked ≡ false))
    → Waits 1 length lock.locked state → Made (sample_in mode state length lock tags)
sample_made mode state length lock tags m l b t g w =
    record {
      registers = registers_right;
      lock = l;
      link = record { address = omega arith; block = b; tags = t; tagged = g; work = w; errors = none_pending mode.spi };
      mode = m;
    }

-- the samples of a mode: one that awaits a write, one with a tag, one with none, and two that await a lock request
abbrev SamplesMade : Mode → Type 0
SamplesMade mode =
    Made (sample_in mode (Rcv (One 512)) 512 no_password no_tags)
    × (Made (sample_in mode Tran 512 no_password (tags_of (Full Sectors 1 1)))
    × (Made (sample_in mode Tran 512 no_password no_tags)
    × (Made (sample_in mode (Rcv LockRequest) 1 (holding (7 ∷ []) true) no_tags) × Made (sample_in mode (Rcv LockRequest) 3 (holding (7 ∷ []) true) no_tags))))

samples_of : (mode : Mode) → ((incoming : Incoming) → MadeMode mode (Rcv incoming)) → MadeMode mode Tran → SamplesMade mode
unfolding holding
samples_of mode awaits idles =
    let free : MadeLock no_password = holding_made [] false (omega arith) (λ e. never e) in
    let shut : MadeLock (holding (7 ∷ []) true) = holding_made (7 ∷ []) true (omega arith) (λ e. omega arith) in (
      sample_made mode (Rcv (One 512)) 512 no_password no_tags (awaits (One 512)) free (omega arith, omega arith) tt (λ e. never e) (refl, (omega arith, (refl, refl))),
      (
        sample_made mode Tran 512 no_password (tags_of (Full Sectors 1 1)) idles free (omega arith, omega arith) (omega arith, (refl, omega arith)) (λ e. (refl, refl)) tt,
        (
          sample_made mode Tran 512 no_password no_tags idles free (omega arith, omega arith) tt (λ e. never e) tt,
          (
            sample_made mode (Rcv LockRequest) 1 (holding (7 ∷ []) true) no_tags (awaits LockRequest) shut (omega arith, omega arith) tt (λ e. never e) tt,
            sample_made mode (Rcv LockRequest) 3 (holding (7 ∷ []) true) no_tags (awaits LockRequest) shut (omega arith, omega arith) tt (λ e. never e) tt,
          ),
        ),
      ),
    )

samples_made : SamplesMade mmc_mode × SamplesMade spi_mode
samples_made = (
  samples_of mmc_mode (λ incoming. record { checks = λ c. never c; reached = λ s. never s }) (record { checks = λ c. never c; reached = λ s. never s }),
  samples_of spi_mode (λ incoming. record { checks = λ c. never c; reached = λ s. refl }) (record { checks = λ c. never c; reached = λ s. refl }),
)

-- what each is lent: a memory of one byte throughout, and a map of one entry
abbrev lent_all : ℕ → ℕ → Lent
lent_all byte entry = lent_of (replicate 8192 byte) (entry ∷ [])

write_happens : get_or (lent_after (sample (Rcv (One 512)) 512 no_password no_tags) BlockIn (block_of (replicate 512 7)) (lent_all 0xFF 0)).memory 512 0 ≡ 7
unfolding block_judged awaited_judged checked_judged write_judged block_good sector_written block_of crc16 check_sum remainder divide bits holding entries_right
write_happens = refl

erase_happens : get_or (lent_after (sample Tran 512 no_password (tags_of (Full Sectors 1 1))) (Frame true false) (command_frame 38 0) (lent_all 0 0)).memory 512 0 ≡ 0xFF
unfolding frame_judged heard_of command_of row_of transfer_row move_of taken_of judged_of tagging_of acted_of after_checks answered change_of holding entries_right erased erased_to sector_erased erased_sector sector_written command_frame sealed crc7_of remainder divide bits framing_of fields_of
erase_happens = refl

force_happens : get_or (lent_after (sample (Rcv LockRequest) 1 (holding (7 ∷ []) true) no_tags) BlockIn (block_of (8 ∷ [])) (lent_all 0 1)).memory 512 0 ≡ 0xFF
unfolding block_judged awaited_judged checked_judged request_judged request_of block_good block_of crc16 check_sum remainder divide bits holding entries_right
force_happens = refl

clear_happens : (lent_after (sample (Rcv LockRequest) 1 (holding (7 ∷ []) true) no_tags) BlockIn (block_of (8 ∷ [])) (lent_all 0 1)).map ≡ 0 ∷ []
unfolding block_judged awaited_judged checked_judged request_judged request_of block_good block_of crc16 check_sum remainder divide bits holding entries_right
clear_happens = refl

protect_happens : (lent_after (sample Tran 512 no_password no_tags) (Frame true false) (command_frame 28 0) (lent_all 0 0)).map ≡ 1 ∷ []
unfolding frame_judged heard_of command_of row_of transfer_row move_of taken_of judged_of tagging_of argument_fault acted_of after_checks answered change_of holding entries_right command_frame sealed crc7_of remainder divide bits framing_of fields_of
protect_happens = refl

free_happens : (lent_after (sample Tran 512 no_password no_tags) (Frame true false) (command_frame 29 0) (lent_all 0 1)).map ≡ 0 ∷ []
unfolding frame_judged heard_of command_of row_of transfer_row move_of taken_of judged_of tagging_of argument_fault acted_of after_checks answered change_of holding entries_right command_frame sealed crc7_of remainder divide bits framing_of fields_of
free_happens = refl

unlock_happens : (step_of (sample (Rcv LockRequest) 3 (holding (7 ∷ []) true) no_tags) BlockIn (block_of (0 ∷ 1 ∷ 7 ∷ [])) (seen (lent_all 0 0)) 0).card.lock.locked ≡ false
unfolding block_judged awaited_judged checked_judged request_judged request_of presented password_in stored same block_good block_of crc16 check_sum remainder divide bits holding entries_right
unlock_happens = refl

-- ---- the same in SPI, with the line low, the start byte before a block, and a CRC that is wrong
-- CMD38, CMD28 and CMD29 of argument 0 with 0 for their CRC7
abbrev unsealed : ℕ → List ℕ
unsealed index = (64 + index) ∷ 0 ∷ 0 ∷ 0 ∷ 0 ∷ 1 ∷ []

spi_write_happens : get_or (lent_after (sample_in spi_mode (Rcv (One 512)) 512 no_password no_tags) BlockIn (0xFE ∷ replicate 512 7 ++ (0 ∷ 0 ∷ [])) (lent_all 0xFF 0)).memory 512 0 ≡ 7
unfolding block_judged awaited_judged checked_judged write_judged block_good sector_written crc16 check_sum remainder divide bits holding entries_right
spi_write_happens = refl

spi_erase_happens : get_or (lent_after (sample_in spi_mode Tran 512 no_password (tags_of (Full Sectors 1 1))) (Frame true true) (unsealed 38) (lent_all 0 0)).memory 512 0 ≡ 0xFF
unfolding frame_judged heard_of spi_heard row_in_spi move_in_spi taken_in answered_in judged_of tagging_of acted_of after_checks change_of holding entries_right erased erased_to sector_erased erased_sector sector_written crc7_of remainder divide bits framing_of fields_of
spi_erase_happens = refl

spi_force_happens : get_or (lent_after (sample_in spi_mode (Rcv LockRequest) 1 (holding (7 ∷ []) true) no_tags) BlockIn (0xFE ∷ 8 ∷ 0 ∷ 0 ∷ []) (lent_all 0 1)).memory 512 0 ≡ 0xFF
unfolding block_judged awaited_judged checked_judged request_judged request_of block_good crc16 check_sum remainder divide bits holding entries_right
spi_force_happens = refl

spi_protect_happens : (lent_after (sample_in spi_mode Tran 512 no_password no_tags) (Frame true true) (unsealed 28) (lent_all 0 0)).map ≡ 1 ∷ []
unfolding frame_judged heard_of spi_heard row_in_spi move_in_spi taken_in answered_in judged_of tagging_of argument_fault acted_of after_checks change_of holding entries_right crc7_of remainder divide bits framing_of fields_of
spi_protect_happens = refl

spi_free_happens : (lent_after (sample_in spi_mode Tran 512 no_password no_tags) (Frame true true) (unsealed 29) (lent_all 0 1)).map ≡ 0 ∷ []
unfolding frame_judged heard_of spi_heard row_in_spi move_in_spi taken_in answered_in judged_of tagging_of argument_fault acted_of after_checks change_of holding entries_right crc7_of remainder divide bits framing_of fields_of
spi_free_happens = refl

spi_unlock_happens : (step_of (sample_in spi_mode (Rcv LockRequest) 3 (holding (7 ∷ []) true) no_tags) BlockIn (0xFE ∷ 0 ∷ 1 ∷ 7 ∷ 0 ∷ 0 ∷ []) (seen (lent_all 0 0)) 0).card.lock.locked ≡ false
unfolding block_judged awaited_judged checked_judged request_judged request_of presented password_in stored same block_good crc16 check_sum remainder divide bits holding entries_right
spi_unlock_happens = refl
