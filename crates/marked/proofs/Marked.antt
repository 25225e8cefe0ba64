-- The marked examples hold of our reader, our card, our sum and our `busline`, over the definitions that the contracts name, and not of wrong ones.
--   marked_hold    of ours, whatever the card's select line, which a card in MMC mode reads for CMD0 alone: antt computes each
--   refusing       not of a reader that refuses every frame
--   accepting      not of a reader that does not look at the CRC7
--   silent_card    not of a card that refuses all frames, and so sends nothing
--   one_answer     not of a card that answers all frames with one R1, or with any one line
--   little         not of a sum with its bytes swapped
--   mute           not of a program that prints nothing
-- Assumes nothing.
use mathlib.Core.Path.{◌≡◌, refl, sym, ap, ◌∙◌}
use mathlib.Core.Bool.{Bool, true, false}
use mathlib.Core.List.{List, [], ◌∷◌}
use Prim.Native.Nat.{ℕ, ◌+◌, ◌*◌, ◌/◌, ◌%◌}
use native.Mathlib.Omega.{arith}
use lib.ListN.{length, get_or}
use Rattle.base.proofs.Cases.{clash}
use Rattle.base.specs.Refusals.{refusal_of}
use Rattle.card.specs.Frame.{frame_judged, frame_stepped as card_frame_of}
use Rattle.card_record.specs.Sending.{sent_bytes}
use Rattle.command.specs.Answers.{response_of, answered}
use Rattle.command.specs.Arguments.{argument_fault}
use Rattle.command.specs.Command.{taken_of, command_of}
use Rattle.command.specs.Obey.{tagging_of, judged_of, reset_told, awaited_by, obeyed, change_of, after_checks, acted_of}
use Rattle.crc.specs.Bits.{bits}
use Rattle.crc.specs.Crc.{divide, remainder, check_sum, crc16}
use Rattle.busline_records.specs.Transcript.{transcript}
use Rattle.lock.specs.Passwords.{holding}
use Rattle.moves.specs.Classes.{class_of}
use Rattle.moves.specs.Moves.{move_of}
use Rattle.moves.specs.Rows.{transfer_row, row_of}
use Rattle.card_record.specs.Power.{fresh_link}
use Rattle.card_record.specs.declared.Card.{Card}
use Rattle.spi.specs.Hearing.{heard_of}
use Rattle.status.specs.Status.{word_of}
use Rattle.store.specs.Lent.{seen_of}
use Rattle.store.specs.Map.{entries_right}
use Rattle.wire.specs.Frames.{crc7_of, sealed, fields_of, framing_of, frame_of, as_command}
use Rattle.wire.specs.Responses.{r1_frame}
use Rattle.marked.proofs.Transcript.{eight_lines_lem}
use Rattle.marked.specs.Marked.{card_in, all, marked}
use Rattle.std.specs.Prelude.{Result, Ok, Err}
use Rattle.base.specs.declared.Refusal.{Refusal}
use Rattle.wire.specs.declared.Fields.{Fields}
use Rattle.wire.specs.declared.Command.{Command}

-- what our card puts on the line for a frame, its select line being low (`selected`) or high, lent a memory of 8,192 bytes and its map
abbrev pub ours : Bool → Card → List ℕ → List ℕ
ours selected card frame = sent_bytes card.registers (card_frame_of card true selected frame (seen_of 8192 (0 ∷ []))).reply.sent

pub marked_hold : (selected : Bool) → all frame_of (ours selected) crc16 transcript marked
unfolding card_in holding fresh_link card_frame_of frame_judged entries_right heard_of command_of taken_of acted_of after_checks judged_of tagging_of argument_fault reset_told obeyed awaited_by change_of response_of answered word_of class_of move_of row_of transfer_row sent_bytes r1_frame sealed frame_of framing_of fields_of crc7_of crc16 check_sum remainder divide bits
marked_hold true = (refl, (refl, (refl, (refl, (refl, (refl, (refl, (refl, (eight_lines_lem, tt)))))))))
marked_hold false = (refl, (refl, (refl, (refl, (refl, (refl, (refl, (refl, (eight_lines_lem, tt)))))))))

pub refusing : (reply : Card → List ℕ → List ℕ) (sum : List ℕ → ℕ) (play : List ℕ → List ℕ) (n : ℕ) → all (λ f. Err (refusal_of n)) reply sum play marked → ⊥
refusing reply sum play n h = let e = h.0 in clash cc

-- the framing with every CRC7 taken for right
abbrev blind : Result Fields Refusal → Result Command Refusal
blind (Ok fields) = Ok (as_command fields.index fields.argument)
blind (Err r) = Err r

pub accepting : (reply : Card → List ℕ → List ℕ) (sum : List ℕ → ℕ) (play : List ℕ → List ℕ)
    → all (λ f. blind (framing_of f)) reply sum play marked → ⊥
unfolding framing_of fields_of crc7_of remainder divide bits
accepting reply sum play h = let e = h.1.1.1.1.1.0 in clash cc

pub one_answer : (read : List ℕ → Result Command Refusal) (line : List ℕ) (sum : List ℕ → ℕ) (play : List ℕ → List ℕ) → all read (λ c f. line) sum play marked → ⊥
one_answer read line sum play h =
    let e : ◌≡◌ {A = ℕ} 0x10 0x0D = ap (λ (l : List ℕ). get_or l 0 0) (sym h.1.1.1.0 ∙ h.1.1.1.1.0) in omega arith

pub silent_card : (read : List ℕ → Result Command Refusal) (sum : List ℕ → ℕ) (play : List ℕ → List ℕ) → all read (λ c f. []) sum play marked → ⊥
silent_card read sum play h = one_answer read [] sum play h

pub little : (read : List ℕ → Result Command Refusal) (reply : Card → List ℕ → List ℕ) (play : List ℕ → List ℕ)
    → all read reply (λ p. crc16 p % 256 * 256 + crc16 p / 256) play marked → ⊥
unfolding crc16 check_sum remainder divide bits
little read reply play h = let e = h.1.1.1.1.1.1.0 in omega arith

pub mute : (read : List ℕ → Result Command Refusal) (reply : Card → List ℕ → List ℕ) (sum : List ℕ → ℕ) → all read reply sum (λ s. []) marked → ⊥
mute read reply sum h = let e = ap length h.1.1.1.1.1.1.1.1.0 in omega arith
