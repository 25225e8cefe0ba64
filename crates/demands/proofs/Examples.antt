-- What the theorems suppose does happen: computed, on a card at address 1 in some state.
--   faulted_met        CMD16 of 0 in tran is taken, and has an error: bit 29
--   lock_met           CMD17 in tran on a locked card is taken, and not let through
--   passed_over_met    CMD13 to address 2 is passed over
--   no_move_met        CMD17 in stby, and CMD24 in prg, have no legal move
--   refuses_met        a block in at a card in tran is refused 15
--   damaged_met        CMD0 with a wrong CRC7 at a card in SPI in idle is refused 3, with the line low and high; low it is answered by 09
--   block_crc_met      a lock request with a wrong CRC16 at a card in SPI that checks is refused 17, and 0B is sent
--   illegal_met        CMD2 has no move in SPI
--   spi_faulted_met    CMD16 of 0 in tran is taken in SPI, and has an error: bit 29
-- Assumes nothing.
use mathlib.Core.Path.{◌≡◌, refl}
use mathlib.Core.Bool.{Bool, true, false}
use mathlib.Core.List.{List, [], ◌∷◌}
use Prim.Native.Nat.{ℕ}
use native.Mathlib.Omega.{arith}
use lib.ListN.{replicate}
use Rattle.base.specs.Refusals.{by}
use Rattle.card.specs.Frame.{frame_judged, frame_stepped}
use Rattle.card.specs.Step.{step_of}
use Rattle.card.specs.declared.Call.{Call}
use Rattle.card.specs.declared.Call.TheVariants.{Frame, BlockIn}
use Rattle.card_blocks.specs.BlockIn.{block_refused, checked_judged, awaited_judged, block_judged}
use Rattle.card_blocks.specs.declared.Stepped.{Stepped}
use Rattle.command.specs.Command.{met_by}
use Rattle.command.specs.Arguments.{argument_fault}
use Rattle.command.specs.Obey.{passes_lock, tagging_of, judged_of}
use Rattle.command.specs.declared.Met.{Met}
use Rattle.lock.specs.Passwords.{holding, no_password}
use Rattle.moves.specs.Classes.{class_of}
use Rattle.moves.specs.Moves.{move_of}
use Rattle.moves.specs.Rows.{transfer_row, row_of}
use Rattle.card_record.specs.Power.{mmc_mode}
use Rattle.card_record.specs.declared.Card.{Card}
use Rattle.card_record.specs.declared.Link.{Link}
use Rattle.card_record.specs.declared.Mode.{Mode}
use Rattle.card_record.specs.declared.Sent.TheVariants.{Nothing, SpiR1, DataResponse}
use Rattle.crc.specs.Bits.{bits}
use Rattle.crc.specs.Crc.{divide, remainder, check_sum, crc16}
use Rattle.moves.specs.declared.Move.TheVariants.{Illegal}
use Rattle.spi.specs.Answers.{answered_in, faulted}
use Rattle.spi.specs.Hearing.{damaged_of}
use Rattle.spi_answers.specs.Answers.{r1_of, cleared_r1}
use Rattle.spi_moves.specs.Moves.{row_of as row_of_spi, move_of as move_of_spi}
use Rattle.states.specs.declared.Incoming.TheVariants.{LockRequest}
use Rattle.states.specs.declared.Column.TheVariants as column
use Rattle.states.specs.declared.State.{State}
use Rattle.states.specs.declared.State.TheVariants.{Idle, Stby, Tran, Rcv, Prg}
use Rattle.status.specs.ErrorBits.{error_bit}
use Rattle.status.specs.Status.{no_errors}
use Rattle.store.specs.Lent.{lent_of, seen}
use Rattle.store.specs.Map.{entries_right}
use Rattle.tags.specs.Tagging.{no_tags}
use Rattle.wire.specs.Frames.{crc7_of, fields_of, framing_of}
use Rattle.demands.specs.Faulted.{fault}
use Rattle.demands.specs.InSpi.{TakenInSpi}
use Rattle.demands.specs.Refused.{Refuses}
use Rattle.demands.specs.Silenced.{Taken, PassedOver, NoLegalMove}
use Rattle.std.specs.Prelude.{Some}

abbrev linked : State → Link
linked state = record { state = state; address = 1; length = 512; errors = no_errors; tags = no_tags }

abbrev meeting : Bool → Met
meeting locked = record { ocr = 0x00FF8000; groups = 1; locked = locked; wins = true }

pub faulted_met : Taken (linked Tran) (meeting false) 16 0 column.Tran × (fault (linked Tran) (meeting false) 16 0 ≡ Some (error_bit 29))
unfolding move_of row_of transfer_row judged_of tagging_of argument_fault class_of
faulted_met = (refl, refl)

pub lock_met : Taken (linked Tran) (meeting true) 17 0 column.Data × (passes_lock true 17 ≡ false)
unfolding move_of row_of transfer_row class_of
lock_met = (refl, refl)

pub passed_over_met : PassedOver (linked Tran) (meeting false) 13 0x00020000
passed_over_met = PassedOver.another_address refl (λ e. omega arith)

pub no_move_met : NoLegalMove (linked Stby) (meeting false) 17 0 × NoLegalMove (linked Prg) (meeting false) 24 0
unfolding row_of transfer_row
no_move_met = (record { judged = refl; selects = refl; stuck = refl }, record { judged = refl; selects = refl; stuck = refl })

-- a card of no groups, in a state and a mode; of blocks of so many bytes
abbrev carded : State → ℕ → Mode → Card
carded state n mode =
    record {
      registers = record { cid = replicate 16 0; csd = replicate 16 0; ocr = 0x00FF8000; groups = 0 };
      lock = no_password;
      link = record { state = state; address = 1; length = n; errors = no_errors; tags = no_tags };
      mode = mode;
    }

pub refuses_met : Refuses (carded Tran 512 mmc_mode) BlockIn [] (lent_of [] []) [] (by 15)
unfolding block_judged entries_right
refuses_met = refl

-- ---- in SPI
abbrev in_spi : Bool → Mode
in_spi checks = record { spi = true; checks = checks }

abbrev wrong_reset : List ℕ
wrong_reset = 0x40 ∷ 0 ∷ 0 ∷ 0 ∷ 0 ∷ 0x97 ∷ []

-- a call at this card, with nothing lent and no output
abbrev stepped : Card → Call → List ℕ → Stepped
stepped card call input = step_of card call input (seen (lent_of [] [])) 0

pub damaged_met : Refuses (carded Idle 512 (in_spi false)) (Frame true true) wrong_reset (lent_of [] []) [] (by 3)
    × Refuses (carded Idle 512 (in_spi false)) (Frame true false) wrong_reset (lent_of [] []) [] (by 3)
    × ((stepped (carded Idle 512 (in_spi false)) (Frame true true) wrong_reset).reply.sent ≡ SpiR1 0x09)
    × ((stepped (carded Idle 512 (in_spi false)) (Frame true false) wrong_reset).reply.sent ≡ Nothing)
unfolding frame_stepped frame_judged framing_of fields_of bits crc7_of remainder divide entries_right damaged_of faulted answered_in r1_of cleared_r1
damaged_met = (refl, refl, refl, refl)

-- FE, one byte, and a CRC16 that is not that of the byte
abbrev wrong_block : List ℕ
wrong_block = 0xFE ∷ 0 ∷ 0 ∷ 1 ∷ []

pub block_crc_met : Refuses (carded (Rcv LockRequest) 1 (in_spi true)) BlockIn wrong_block (lent_of [] []) [] (by 17)
    × ((stepped (carded (Rcv LockRequest) 1 (in_spi true)) BlockIn wrong_block).reply.sent ≡ DataResponse 0x0B)
unfolding block_judged awaited_judged checked_judged block_refused entries_right crc16 check_sum bits remainder divide
block_crc_met = (refl, refl)

pub illegal_met : move_of_spi (row_of_spi 2) column.Idle ≡ Illegal
unfolding move_of_spi row_of_spi
illegal_met = refl

pub spi_faulted_met : TakenInSpi (carded Tran 512 (in_spi false)) true 16 0 column.Tran
    × (fault (carded Tran 512 (in_spi false)).link (met_by (carded Tran 512 (in_spi false)) true) 16 0 ≡ Some (error_bit 29))
unfolding move_of_spi row_of_spi judged_of tagging_of argument_fault class_of holding
spi_faulted_met = (refl, refl)
