-- A locked card that was made, in use, computed: what the theorems on locked cards speak of happens, in MMC mode and in SPI. A card of 8,192 bytes
-- with the password 2A is made and taken to tran; a handheld sets blocks of 3 bytes, which its lock request has, asks with a wrong password, and then
-- with the right one (document 02, request 4).
--   locked_made       it is made, not refused, and is locked
--   reached, reached_made    four frames take it to tran, and two in SPI, which it enters by CMD0 with its select line low: it is locked still, and
--                     made, so that the theorems speak of it
--   length_set        CMD16 of 3 is answered with no error bit, and sets the block length
--   length_refused    CMD16 of 0 and of 2,049 is answered with bit 29, and sets none
--   asked             CMD42 takes it to the request
--   wrong_fails       a wrong password is refused 20: bit 24 is set and the card in tran, locked; nothing that is lent changes
--   asks_again        CMD42 takes it to the request again
--   right_unlocks     the right password is carried out: the card is unlocked
--   right_answered    in SPI a data response follows, 05
--   opened            its work being done it is in tran, and its blocks have 3 bytes
--   opens_speaks      it is one that `opens` speaks of
--   read_refused      while it is locked CMD17 is answered with bit 24 and reads nothing
--   spi_read_refused  the same in SPI, where R1 does not show bit 24, which waits for the next R2
--   length_falls_back, length_told_24, length_unset    wrong answers: blocks of 2,048 bytes once it is opened; bit 24 for CMD16 of 0; a CMD16 of 3 that
--                     leaves the block length
-- Assumes nothing.
use mathlib.Core.Path.{◌≡◌, refl, sym, ap, ◌∙◌, subst}
use mathlib.Core.Bool.{Bool, true, false}
use mathlib.Core.List.{List, [], ◌∷◌, ◌++◌}
use Prim.Native.Nat.{ℕ, ◌^◌, ◌<◌}
use native.Mathlib.Omega.{arith}
use Rattle.base.specs.Choice.{pick}
use Rattle.base.specs.Refusals.{by}
use Rattle.card_blocks.specs.BlockIn.{block_refused, block_good, block_replied, request_judged, block_judged, stored_by}
use Rattle.card.specs.Frame.{frame_judged, frame_stepped}
use Rattle.card_blocks.specs.Framing.{unstarted}
use Rattle.card_blocks.specs.declared.BlockJudged.{BlockJudged}
use Rattle.card.specs.declared.Call.TheVariants.{Frame, WorkDone}
use Rattle.card_blocks.specs.declared.Storing.TheVariants.{Nothing}
use Rattle.command.specs.Answers.{response_of, answered}
use Rattle.command.specs.Arguments.{argument_fault}
use Rattle.command.specs.Command.{taken_of, command_of}
use Rattle.command.specs.Obey.{tagging_of, judged_of, reset_told, awaited_by, obeyed, change_of, after_checks, acted_of}
use Rattle.card_record.specs.declared.Sent.TheVariants.{Nothing as Unsent, Status, SpiR1, DataResponse}
use Rattle.crc.specs.Bits.{bits}
use Rattle.crc.specs.Crc.{divide, remainder}
use Rattle.lock.specs.Passwords.{stored, same, holding, powered_of, lock_made as lock_made_of}
use Rattle.lock.specs.Requests.{password_in, presented, request_of}
use Rattle.made.proofs.Reached.{register}
use Rattle.made.proofs.Run.{made_stays_made}
use Rattle.made.specs.BlockLength.{Brings}
use Rattle.made.specs.Made.{Made}
use Rattle.made.specs.Run.{World, Input, given, next, outcome_of, run_of, made_lent, begun}
use Rattle.moves.specs.Classes.{class_of}
use Rattle.moves.specs.Moves.{move_of}
use Rattle.moves.specs.Rows.{transfer_row, row_of}
use Rattle.card_record.specs.Making.{password_made, made_of}
use Rattle.card_record.specs.Power.{default_length, fresh_link, worked}
use Rattle.spi.specs.Answers.{answered_in}
use Rattle.spi.specs.Hearing.{taken_in, spi_heard, heard_of}
use Rattle.spi_answers.specs.Answers.{r1_of, cleared_r1}
use Rattle.spi_moves.specs.Moves.{row_of as row_in_spi, move_of as move_in_spi}
use Rattle.states.specs.declared.Incoming.TheVariants.{LockRequest}
use Rattle.states.specs.declared.State.{State}
use Rattle.states.specs.declared.State.TheVariants.{Tran, Rcv, Prg}
use Rattle.status.specs.ErrorBits.{error_bit}
use Rattle.status.specs.Status.{no_errors, with_bit, word_of}
use Rattle.status.specs.declared.Errors.{Errors}
use Rattle.store.specs.Lent.{seen}
use Rattle.store.specs.Map.{entries_right}
use Rattle.wire.proofs.FrameTheorems.{framing, read_after_write}
use Rattle.wire.specs.Frames.{crc7_of, sealed, command_frame, fields_of, framing_of, frame_of}
use Rattle.wire.specs.Responses.{last_byte, register_right}
use Rattle.stored.specs.Opening.{request_in, Opens}
use Rattle.stored.specs.ReadBack.{commanded}
use Rattle.stored.proofs.Framed.{request_right}
use Rattle.stored.proofs.InUse.{lent, card_with, commands, to_tran, answer}
use Rattle.stored.proofs.Opening.{opens}
use Rattle.std.specs.Prelude.{Result, Option, Ok, Err, None}
use Rattle.base.specs.declared.Refusal.{Refusal}

abbrev made : World
made = begun register register 0x00FF8000 (0x2A ∷ []) lent

pub locked_made : ((made_lent register register 0x00FF8000 (0x2A ∷ []) lent).making ≡ Ok tt) × (made.card.lock.locked ≡ true)
unfolding made_of password_made lock_made_of holding powered_of stored register_right last_byte crc7_of remainder divide bits entries_right
locked_made = (refl, refl)

-- the card in SPI or in MMC mode, in a state, with a block length and these error bits, locked or not; what it is lent is as it was
abbrev card_in : Bool → State → ℕ → Errors → Bool → World
card_in spi state length errors locked = card_with spi (holding (0x2A ∷ []) locked) state length errors

abbrev reset : Bool → World
reset spi = card_in spi Tran 2048 no_errors true

pub reached : (spi : Bool) → run_of made (to_tran spi) ≡ reset spi
unfolding run_of next made_of password_made lock_made_of powered_of stored register_right last_byte fresh_link crc7_of remainder divide bits entries_right command_frame sealed framing_of fields_of frame_stepped frame_judged heard_of spi_heard row_in_spi move_in_spi taken_in answered_in cleared_r1 command_of row_of transfer_row move_of class_of taken_of acted_of after_checks answered response_of reset_told word_of judged_of tagging_of argument_fault obeyed awaited_by change_of holding
reached true = refl
reached false = refl

pub reached_made : (spi : Bool) → Made (reset spi).card
reached_made spi =
    subst (λ (w : World). Made w.card) (reached spi)
    (made_stays_made register register 0x00FF8000 (0x2A ∷ []) lent (to_tran spi) locked_made.0)

-- ---- the block length
abbrev sized : Bool → World
sized spi = card_in spi Tran 3 no_errors true

-- R1 is that of a locked card in tran, and in SPI it is 00
pub length_set : (spi : Bool) → (answer spi (reset spi) 16 3 ≡ pick spi (SpiR1 0) (Status 16 0x02000900)) × (commanded spi (reset spi) 16 3 ≡ sized spi)
unfolding next crc7_of remainder divide bits entries_right command_frame sealed framing_of fields_of frame_stepped frame_judged heard_of spi_heard row_in_spi move_in_spi taken_in answered_in cleared_r1 r1_of command_of row_of transfer_row move_of class_of taken_of acted_of after_checks answered response_of reset_told word_of judged_of tagging_of argument_fault obeyed awaited_by change_of holding
length_set true = (refl, refl)
length_set false = (refl, refl)

-- the same with bit 29
abbrev Refuses : Bool → ℕ → Type 0
Refuses spi n = (answer spi (sized spi) 16 n ≡ pick spi (SpiR1 0x40) (Status 16 0x22000900)) × (commanded spi (sized spi) 16 n ≡ sized spi)

pub length_refused : (spi : Bool) → Refuses spi 0 × Refuses spi 2049
unfolding next crc7_of remainder divide bits entries_right command_frame sealed framing_of fields_of frame_stepped frame_judged heard_of spi_heard row_in_spi move_in_spi taken_in answered_in cleared_r1 r1_of command_of row_of transfer_row move_of class_of taken_of acted_of after_checks answered response_of reset_told word_of judged_of tagging_of argument_fault obeyed awaited_by change_of holding
length_refused true = ((refl, refl), (refl, refl))
length_refused false = ((refl, refl), (refl, refl))

-- ---- the request
abbrev awaiting : Bool → World
awaiting spi = card_in spi (Rcv LockRequest) 3 no_errors true

-- a request that failed leaves bit 24
abbrev failed : Bool → World
failed spi = card_in spi Tran 3 (with_bit no_errors (error_bit 24)) true

pub asked : (spi : Bool) → commanded spi (sized spi) 42 0 ≡ awaiting spi
unfolding next crc7_of remainder divide bits entries_right command_frame sealed framing_of fields_of frame_stepped frame_judged heard_of spi_heard row_in_spi move_in_spi taken_in answered_in cleared_r1 r1_of command_of row_of transfer_row move_of class_of taken_of acted_of after_checks answered response_of reset_told word_of judged_of tagging_of argument_fault obeyed awaited_by change_of holding
asked true = refl
asked false = refl

-- an unlock with a password of one byte, and no surplus
abbrev unlock : ℕ → List ℕ
unlock byte = 0 ∷ 1 ∷ byte ∷ []

abbrev request : Bool → ℕ → Input
request spi byte = request_in spi (unlock byte)

-- such a block judged, and the world that it leaves
abbrev judged : Bool → ℕ → BlockJudged
judged spi byte = block_judged (awaiting spi).card (request spi byte).bytes (seen lent)

abbrev left : Bool → ℕ → BlockJudged → World
left spi byte given = record { card = given.stepped.card; lent = stored_by (unstarted spi (request spi byte).bytes) given.storing lent }

-- a request that stores nothing: the card that it leaves, and what became of it
abbrev becoming : World → Result (Option ℕ) Refusal → BlockJudged
becoming world outcome = record { stepped = block_replied world.card outcome; storing = Nothing }

reads : (spi : Bool) (byte : ℕ) → judged spi byte ≡ request_judged (awaiting spi).card (unlock byte)
unfolding entries_right
reads spi byte = request_right spi (awaiting spi).card (unlock byte) refl (omega arith) (omega arith) (seen lent) refl refl refl

-- ---- a wrong password, and CMD42 anew
wrong_judged : (spi : Bool) → judged spi 0x2B ≡ becoming (failed spi) (Err (by 20))
unfolding request_judged request_of presented password_in stored same holding block_refused
wrong_judged spi = reads spi 0x2B

pub wrong_fails : (spi : Bool) → (outcome_of (awaiting spi) (request spi 0x2B) ≡ Err (by 20)) × (next (awaiting spi) (request spi 0x2B) ≡ failed spi)
unfolding next
wrong_fails spi = (ap (λ (j : BlockJudged). j.stepped.reply.outcome) (wrong_judged spi), ap (left spi 0x2B) (wrong_judged spi))

-- R1 clears bit 24
pub asks_again : commanded false (failed false) 42 0 ≡ awaiting false
unfolding next crc7_of remainder divide bits entries_right command_frame sealed framing_of fields_of frame_stepped frame_judged heard_of command_of row_of transfer_row move_of class_of taken_of acted_of after_checks answered response_of reset_told word_of judged_of tagging_of argument_fault obeyed awaited_by change_of holding
asks_again = refl

-- ---- the right one
right_judged : (spi : Bool) → judged spi 0x2A ≡ becoming (card_in spi Prg 3 no_errors false) (Ok None)
unfolding request_judged request_of presented password_in stored same holding block_good
right_judged spi = reads spi 0x2A

pub right_unlocks : (spi : Bool) → (outcome_of (awaiting spi) (request spi 0x2A) ≡ Ok None) × (next (awaiting spi) (request spi 0x2A) ≡ card_in spi Prg 3 no_errors false)
unfolding next
right_unlocks spi = (ap (λ (j : BlockJudged). j.stepped.reply.outcome) (right_judged spi), ap (left spi 0x2A) (right_judged spi))

pub right_answered : (spi : Bool) → (judged spi 0x2A).stepped.reply.sent ≡ pick spi (DataResponse 0x05) Unsent
right_answered spi = ap (λ (j : BlockJudged). j.stepped.reply.sent) (right_judged spi)

-- ---- all of it
-- what the handheld sends, the last being that the card has done its work
abbrev opening : Bool → List Input
opening spi = commands spi ((16, 3) ∷ (42, 0) ∷ []) ++ (request spi 0x2A ∷ given WorkDone [] ∷ [])

abbrev unlocked : Bool → World
unlocked spi = card_in spi Tran 3 no_errors false

worked_unlocked : (spi : Bool) → next (card_in spi Prg 3 no_errors false) (given WorkDone []) ≡ unlocked spi
unfolding next worked
worked_unlocked spi = refl

pub opened : (spi : Bool) → run_of (reset spi) (opening spi) ≡ unlocked spi
unfolding run_of
opened spi =
    ap (λ (w : World). next (next (commanded spi w 42 0) (request spi 0x2A)) (given WorkDone [])) (length_set spi).1
    ∙ ap (λ (w : World). next (next w (request spi 0x2A)) (given WorkDone [])) (asked spi)
    ∙ ap (λ (w : World). next w (given WorkDone [])) (right_unlocks spi).1
    ∙ worked_unlocked spi

-- CMD16 and CMD42 as they are sent, which the card hears
abbrev command : Bool → ℕ → ℕ → Input
command spi index argument = given (Frame true spi) (command_frame index argument)

brought : (spi : Bool) (world : World) (index argument : ℕ) → world.card.mode.spi ≡ spi → index < 64 → argument < 2 ^ 32
    → Brings world.card (command spi index argument) index argument
unfolding frame_of
brought spi world index argument here i a =
    let is = framing (framing_of (command_frame index argument)) index argument (read_after_write index argument i a) in
    record { wins = true; selected = spi; called = refl; heard = record { right = true; framing = is; crc = refl; low = λ e. sym here ∙ e } }

pub opens_speaks : (spi : Bool) → Opens spi (reset spi) (unlock 0x2A) (command spi 16 3) (command spi 42 0)
unfolding stored holding entries_right next
opens_speaks spi =
    opens (reset spi) (record { made = reached_made spi; locked = refl; tran = refl; right = refl }) [] (command spi 16 3) (command spi 42 0)
    (record {
      few = omega arith;
      sets = brought spi (reset spi) 16 3 refl (omega arith) (omega arith);
      argument = 0;
      asks = brought spi (commanded spi (reset spi) 16 3) 42 0 (ap (λ (w : World). w.card.mode.spi) (length_set spi).1) (omega arith) (omega arith);
    })

-- ---- a command that is not let through: R1 shows bits 25 and 24, tran and bit 8, and the card stays in tran
pub read_refused : (answer false (sized false) 17 0 ≡ Status 17 0x03000900) × (commanded false (sized false) 17 0 ≡ sized false)
unfolding next crc7_of remainder divide bits entries_right command_frame sealed framing_of fields_of frame_stepped frame_judged heard_of command_of row_of transfer_row move_of class_of taken_of acted_of after_checks answered response_of reset_told word_of judged_of tagging_of argument_fault obeyed awaited_by change_of holding
read_refused = (refl, refl)

-- in SPI R1 is 00, and bit 24 waits
pub spi_read_refused : (answer true (sized true) 17 0 ≡ SpiR1 0) × (commanded true (sized true) 17 0 ≡ failed true)
unfolding next crc7_of remainder divide bits entries_right command_frame sealed framing_of fields_of frame_stepped frame_judged heard_of spi_heard row_in_spi move_in_spi taken_in answered_in cleared_r1 r1_of class_of acted_of after_checks reset_told judged_of tagging_of argument_fault obeyed awaited_by change_of holding
spi_read_refused = (refl, refl)

-- ---- wrong answers
length_falls_back : (spi : Bool) → (run_of (reset spi) (opening spi)).card.link.length ≡ default_length → ⊥
length_falls_back spi e = let three : (run_of (reset spi) (opening spi)).card.link.length ≡ 3 = ap (λ (w : World). w.card.link.length) (opened spi) in omega arith

length_told_24 : answer false (sized false) 16 0 ≡ Status 16 0x03000900 → ⊥
length_told_24 e =
    let told : Status 16 0x22000900 ≡ Status 16 0x03000900 = sym (length_refused false).0.0 ∙ e in
    let z : ◌≡◌ {A = ℕ} 0x22000900 0x03000900 = cc in
    omega arith

length_unset : (spi : Bool) → commanded spi (reset spi) 16 3 ≡ reset spi → ⊥
length_unset spi e =
    let same : sized spi ≡ reset spi = sym (length_set spi).1 ∙ e in
    let lengths : ◌≡◌ {A = ℕ} 3 2048 = ap (λ (w : World). w.card.link.length) same in
    omega arith
