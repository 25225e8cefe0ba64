-- What a card sends in answer to a frame always fits 17 bytes: an R1 has an index of 6 bits. What it sends beside number 3, and after a block in,
-- is one byte or nothing.
--   framed_index            a frame that was read has such an index, whether its CRC7 is right or wrong
--   heard_sendable          and so what is sent can be written
--   damaged_byte, in_byte   a frame that is refused 3, and a block in
-- Assumes nothing.
use mathlib.Core.Path.{◌≡◌, refl, ap, ◌∙◌, subst}
use mathlib.Core.Bool.{Bool, not, ◌&&◌}
use mathlib.Core.List.{List}
use Prim.Native.Nat.{ℕ, ◌*◌, ◌^◌, ◌≤◌, ◌<◌}
use native.Mathlib.Omega.{arith}
use borrow.Author.Tests.{eqb-true}
use lib.Dec.{eqb}
use lib.ListN.{length, take, drop, length-drop}
use lib.Seq.{length-take-le}
use Rattle.base.proofs.Cases.{picked, guarded, clash}
use Rattle.base.specs.Refusals.{number_of}
use Rattle.card.specs.Frame.{command_heard}
use Rattle.card_blocks.proofs.Outcomes.{InOutcome, unreads, refuses, stores, grants, forces, block_outcome}
use Rattle.card_blocks.specs.BlockIn.{block_refused, block_good, block_judged}
use Rattle.card_blocks.specs.Framing.{response_to}
use Rattle.card_blocks.specs.declared.BlockJudged.{BlockJudged}
use Rattle.card_record.specs.Sending.{sent_bytes, Sendable}
use Rattle.card_record.specs.declared.Card.{Card}
use Rattle.card_record.specs.declared.Link.{Link}
use Rattle.card_record.specs.declared.Mode.{Mode}
use Rattle.card_record.specs.declared.Registers.{Registers}
use Rattle.card_record.specs.declared.Sent.{Sent}
use Rattle.command.proofs.Sends.{sendable}
use Rattle.command.specs.declared.Met.{Met}
use Rattle.crc.proofs.Bits.{below_take, below_drop, bits_below, spelt_lt, length_bits}
use Rattle.crc.specs.Bits.{bits}
use Rattle.moves.specs.declared.Move.{Move}
use Rattle.moves.specs.declared.Move.TheVariants.{Ignored, Silent, Illegal, To}
use Rattle.spi.specs.Answers.{response_of, sent_in, answered_in, faulted}
use Rattle.spi.specs.Hearing.{taken_in, moved_in, spi_heard, as_spi, heard_of, damaged_of}
use Rattle.spi.specs.declared.Heard.{Heard}
use Rattle.spi.specs.declared.Response.{Response}
use Rattle.spi.specs.declared.Response.TheVariants.{R1, R2, R3}
use Rattle.spi_moves.specs.Moves.{row_of, move_of}
use Rattle.states.specs.States.{column_of, column_number}
use Rattle.status.specs.declared.Errors.{Errors}
use Rattle.store.specs.Lent.{Seen}
use Rattle.wire.proofs.Told.{fields_told}
use Rattle.wire.specs.Frames.{field, fields_of, framing_of, as_fields}
use Rattle.firmware.specs.Answers.{byte_sent}
use Rattle.std.specs.Prelude.{Result, Option, Ok, Err, Some, None}
use Rattle.base.specs.declared.Refusal.{Refusal}
use Rattle.wire.specs.declared.Fields.{Fields}

-- ---- an index has 6 bits
index_small : (frame : List ℕ) → length frame ≡ 6 → field (bits frame) 2 6 ≤ 63
index_small frame six =
    let long : length (bits frame) ≡ 48 = length_bits frame ∙ ap (λ (n : ℕ). n * 8) six in
    let behind : length (drop 2 (bits frame)) ≡ 46 = rw (length-drop 2 (bits frame)) (omega (arith, long)) in
    let small : field (bits frame) 2 6 < 2 ^ 6 =
    subst (λ (m : ℕ). field (bits frame) 2 6 < 2 ^ m) (length-take-le 6 (drop 2 (bits frame)) (omega (arith, behind)))
    (spelt_lt (take 6 (drop 2 (bits frame))) (below_take 2 6 (drop 2 (bits frame)) (below_drop 2 2 (bits frame) (bits_below frame))))
    in
    omega (arith, small)

module _ (index argument : ℕ) (right : Bool) where
  abbrev Indexed : Result Fields Refusal → Type 0
  Indexed framing = framing ≡ Ok (as_fields index argument right) → index ≤ 63

  index_by : (given word : ℕ) (is : Bool) → given ≤ 63 → Indexed (Ok (as_fields given word is))
  index_by given word is small e = let same = ap (λ (f : Fields). f.index) (fields_told e) in omega (arith, same, small)

  pub framed_index : (frame : List ℕ) → framing_of frame ≡ Ok (as_fields index argument right) → index ≤ 63
  unfolding framing_of fields_of
  framed_index frame =
      guarded Indexed (eqb (length frame) 6) (λ t e. clash cc)
      (λ t.
      guarded Indexed (eqb (field (bits frame) 0 1) 0) (λ u e. clash cc)
      (λ u.
      guarded Indexed (eqb (field (bits frame) 1 1) 1) (λ v e. clash cc)
      (λ v.
      guarded Indexed (eqb (field (bits frame) 47 1) 1) (λ w e. clash cc)
      (λ w. index_by (field (bits frame) 2 6) _ _ (index_small frame (eqb-true (length frame) 6 t))))))

-- ---- a command
sent_sendable : (response : Response) (errors : Errors) (idle locked : Bool) → Sendable (sent_in response errors idle locked)
sent_sendable R1 errors idle locked = tt
sent_sendable R2 errors idle locked = tt
sent_sendable R3 errors idle locked = tt

moved_sendable : (mode : Mode) (link : Link) (met : Met) (index argument : ℕ) (move : Move) → Sendable (moved_in mode link met index argument move).sent
unfolding faulted taken_in answered_in
moved_sendable mode link met index argument Ignored = tt
moved_sendable mode link met index argument Silent = tt
moved_sendable mode link met index argument Illegal = tt
moved_sendable mode link met index argument (To column) = sent_sendable (response_of index) _ _ _

pub heard_sendable : (mode : Mode) (selected : Bool) (link : Link) (met : Met) (whole : Bool) (index argument : ℕ) (of : Seen) → index ≤ 63
    → Sendable (command_heard mode selected link met whole index argument of).sent
unfolding command_heard heard_of spi_heard
heard_sendable mode selected link met whole index argument of small =
    picked (λ (h : Heard). Sendable h.sent) (as_spi mode selected index)
    (λ t. moved_sendable mode link met index argument (move_of (row_of index) (column_of link.state)))
    (λ t. picked (λ (h : Heard). Sendable h.sent) mode.spi (λ u. tt) (λ u. sendable link met index argument small))

-- ---- one byte
module _ (registers : Registers) where
  abbrev OneByte : Sent → Type 0
  OneByte sent = sent_bytes registers sent ≡ byte_sent sent

  pub damaged_byte : (mode : Mode) (selected : Bool) (link : Link) → OneByte (damaged_of mode selected link).sent
  unfolding damaged_of faulted answered_in sent_bytes
  damaged_byte mode selected link =
      picked (λ (h : Heard). OneByte h.sent) mode.spi
      (λ here.
      picked (λ (h : Heard). OneByte h.sent) (selected && not (eqb (column_number (column_of link.state)) 9)) (λ low. refl) (λ low. refl))
      (λ here. refl)

  response_byte : (spi : Bool) (outcome : Result (Option ℕ) Refusal) → OneByte (response_to spi outcome)
  unfolding sent_bytes
  response_byte spi (Ok None) = picked OneByte spi (λ t. refl) (λ t. refl)
  response_byte spi (Ok (Some n)) = refl
  response_byte spi (Err refusal) = picked OneByte (spi && eqb (number_of refusal) 17) (λ t. refl) (λ t. refl)

  in_outcome : (card : Card) (block : List ℕ) (of : Seen) {judged : BlockJudged} → InOutcome card block of judged
      → OneByte judged.stepped.reply.sent
  unfolding block_refused block_good sent_bytes
  in_outcome card block of (unreads n listed) = refl
  in_outcome card block of (refuses incoming refusal fault on why) = response_byte card.mode.spi (Err refusal)
  in_outcome card block of (stores incoming at w on storable) = response_byte card.mode.spi (Ok None)
  in_outcome card block of (grants on asked) = response_byte card.mode.spi (Ok None)
  in_outcome card block of (forces on asked) = response_byte card.mode.spi (Ok None)

  pub in_byte : (card : Card) (block : List ℕ) (of : Seen) → OneByte (block_judged card block of).stepped.reply.sent
  in_byte card block of = in_outcome card block of (block_outcome card block of)
