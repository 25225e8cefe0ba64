-- What a block at a card leaves in C, by what became of it. In the order of each call's promise: its number; the thirteen numbers, and that
-- they stand for the next record, with the bytes; what else it was lent.
--   in_judged, out_judged_lem             a block in and a block out, once what is lent was judged
--   in_unlent, in_left, in_told       a block in: 12; 15; every other
--   out_unlent, out_left, out_told    a block out: 12; 15 and 6; every other
-- Assumes nothing.
use mathlib.Core.Path.{◌≡◌, refl, sym, ap, subst, ◌∙◌}
use mathlib.Core.Bool.{true, false}
use mathlib.Core.List.{List, ◌++◌}
use Prim.Native.Nat.{ℕ}
use lib.ListN.{length, drop}
use Rattle.firmware.specs.Numbers.{number_told}
use Rattle.base.specs.Refusals.{number_of}
use Rattle.base.specs.declared.Refusal.{Refusal}
use Rattle.card_blocks.specs.BlockIn.{unread, state_judged, block_judged, stored_by}
use Rattle.card_blocks.specs.Framing.{unstarted}
use Rattle.card_blocks.specs.BlockOut.{unsent, state_sends, out_judged, sent_out}
use Rattle.card_blocks.specs.declared.BlockJudged.{BlockJudged}
use Rattle.card_blocks.specs.declared.OutJudged.{OutJudged}
use Rattle.card_blocks.specs.declared.Stepped.{Stepped}
use Rattle.card_record.specs.Sending.{sent_bytes}
use Rattle.card_record.specs.declared.Card.{Card}
use Rattle.crossing.proofs.Crossing.{link_and_lock_told, own_password}
use Rattle.crossing.specs.Record.{link_of, mode_of, lock_of, card_of, link_numbers, mode_numbers, lock_numbers}
use Rattle.store.specs.Lent.{Lent, seen, lending_of, once_lent}
use Rattle.firmware.specs.Answers.{byte_sent, leaves_record, numbers_after, fronted, wrote_of}
use Rattle.firmware.proofs.Kept.{Stays, InKept, in_kept, in_stays, OutKept, out_kept, out_stays}
use Rattle.firmware.proofs.Sends.{in_byte}
use Rattle.firmware.proofs.Told.{lock_front, after_left, after_told, linked}
use Rattle.firmware.proofs.Left.{unlent_leaves}
use Rattle.std.specs.Prelude.{Result, Err}

module _ (numbers cid csd password : List ℕ) where
  abbrev card : Card
  card = card_of numbers cid csd password

  -- ---- a block in
  module _ (block : List ℕ) (lent : Lent) (response : List ℕ) where
    -- the numbers that it tells
    abbrev told_in : Card → List ℕ
    told_in next = link_numbers next.link ++ mode_numbers next.mode ++ lock_numbers next.lock

    abbrev InBy : Stepped → Lent → ℕ → List ℕ → List ℕ → Lent → List ℕ → ℕ → Type 0
    InBy stepped left r after secret now told sent =
        (r ≡ number_told stepped.reply.outcome)
        × (((after ≡ numbers_after r (told_in stepped.card) numbers) × (card_of after cid csd secret ≡ stepped.card))
        × ((secret ≡ stepped.card.lock.password)
        × ((now ≡ left)
        × ((told ≡ fronted (sent_bytes card.registers stepped.reply.sent) response)
        × (sent ≡ length (sent_bytes card.registers stepped.reply.sent))))))

    abbrev judged_in : BlockJudged
    judged_in = block_judged card block (seen lent)

    -- what is lent afterwards
    abbrev left_in : BlockJudged → Lent
    left_in judged = stored_by (unstarted card.mode.spi block) judged.storing lent

    abbrev InLeft : ℕ → List ℕ → List ℕ → Lent → List ℕ → ℕ → Type 0
    InLeft = InBy judged_in.stepped (left_in judged_in)

    pub in_judged : (lending : Result Unit Refusal) → lending_of (seen lent) card.registers.groups ≡ lending
        → once_lent lending (unread card) (state_judged card card.link.state block lent.map) ≡ judged_in
    unfolding block_judged
    in_judged lending e =
        sym (ap (λ (l : Result Unit Refusal). once_lent l (unread card) (state_judged card card.link.state block lent.map)) e)

    pub in_unlent : (refusal : Refusal) (r : ℕ) → lending_of (seen lent) card.registers.groups ≡ Err refusal → r ≡ number_of refusal
        → InLeft r numbers password lent response 0
    unfolding sent_bytes
    in_unlent refusal r e n =
        let leaves = ap leaves_record n ∙ unlent_leaves (seen lent) card.registers.groups refusal e in
        subst (λ (j : BlockJudged). InBy j.stepped (left_in j) r numbers password lent response 0) (in_judged (Err refusal) e)
        (n, ((after_left r (told_in card) numbers leaves, refl), (sym (own_password numbers cid csd password), (refl, (refl, refl)))))

    -- the data response, a byte or nothing
    module _ (stepped : Stepped) (same : stepped ≡ judged_in.stepped) (told : List ℕ) (sent : ℕ)
        (bytes : told ≡ fronted (byte_sent stepped.reply.sent) response) (count : sent ≡ length (byte_sent stepped.reply.sent)) where
      one_byte : byte_sent stepped.reply.sent ≡ sent_bytes card.registers stepped.reply.sent
      one_byte =
          subst (λ (s : Stepped). byte_sent s.reply.sent ≡ sent_bytes card.registers s.reply.sent) (sym same)
          (sym (in_byte card.registers card block (seen lent)))

      responds : (told ≡ fronted (sent_bytes card.registers stepped.reply.sent) response)
          × (sent ≡ length (sent_bytes card.registers stepped.reply.sent))
      responds = (bytes ∙ ap (λ (l : List ℕ). fronted l response) one_byte, count ∙ ap length one_byte)

      pub in_left : (r : ℕ) (now : Lent) → r ≡ number_told stepped.reply.outcome → leaves_record r ≡ true → now ≡ left_in judged_in
          → InLeft r numbers password now told sent
      in_left r now n leaves stored =
          let stays = subst (Stays card) (sym same) (in_stays card block (seen lent)) (ap leaves_record (sym n) ∙ leaves) in
          let secret = ap (λ (c : Card). c.lock.password) stays ∙ own_password numbers cid csd password in
          subst (λ (s : Stepped). InBy s (left_in judged_in) r numbers password now told sent) same
          (n, ((after_left r (told_in stepped.card) numbers leaves, sym stays), (sym secret, (stored, responds))))

      pub in_told : (r : ℕ) (after : List ℕ) (now : Lent) → r ≡ number_told stepped.reply.outcome → leaves_record r ≡ false
          → after ≡ told_in stepped.card ++ drop 11 numbers
          → (link_of after ≡ stepped.card.link) × (mode_of after ≡ stepped.card.mode)
          × (lock_of after stepped.card.lock.password ≡ stepped.card.lock) → now ≡ left_in judged_in
          → InLeft r after stepped.card.lock.password now told sent
      in_told r after now n leaves is each stored =
          let next = stepped.card in
          let secret = next.lock.password in
          let kept = subst (λ (s : Stepped). InKept card s.card) (sym same) (in_kept card block (seen lent)) in
          let stands =
          ap (λ (l : List ℕ). card_of l cid csd secret) is
          ∙ link_and_lock_told next.link next.mode next.lock numbers cid csd password (sym (ap link_of is) ∙ each.0)
          (sym (ap mode_of is) ∙ each.1) (sym (ap (λ (l : List ℕ). lock_of l secret) is) ∙ each.2)
          ∙ sym kept
          in
          subst (λ (s : Stepped). InBy s (left_in judged_in) r after secret now told sent) same
          (n, ((is ∙ lock_front next.link next.mode next.lock numbers ∙ after_told r (told_in next) numbers leaves, stands), (refl, (stored, responds))))

  -- ---- a block out
  module _ (lent : Lent) (out : List ℕ) where
    abbrev OutBy : Stepped → List ℕ → ℕ → List ℕ → List ℕ → ℕ → Type 0
    OutBy stepped left r after now written =
        (r ≡ number_told stepped.reply.outcome)
        × (((after ≡ numbers_after r (link_numbers stepped.card.link ++ mode_numbers stepped.card.mode) numbers) × (card_of after cid csd password ≡ stepped.card))
        × ((now ≡ left) × (written ≡ wrote_of stepped.reply.outcome)))

    abbrev judged_out : OutJudged
    judged_out = out_judged card (seen lent) (length out)

    abbrev OutLeft : ℕ → List ℕ → List ℕ → ℕ → Type 0
    OutLeft = OutBy judged_out.stepped (sent_out card lent judged_out.sending out)

    pub out_judged_lem : (lending : Result Unit Refusal) → lending_of (seen lent) card.registers.groups ≡ lending
        → once_lent lending (unsent card) (state_sends card card.link.state (length out)) ≡ judged_out
    unfolding out_judged
    out_judged_lem lending e = sym (ap (λ (l : Result Unit Refusal). once_lent l (unsent card) (state_sends card card.link.state (length out))) e)

    pub out_unlent : (refusal : Refusal) (r : ℕ) → lending_of (seen lent) card.registers.groups ≡ Err refusal → r ≡ number_of refusal
        → OutLeft r numbers out 0
    unfolding sent_out
    out_unlent refusal r e n =
        let leaves = ap leaves_record n ∙ unlent_leaves (seen lent) card.registers.groups refusal e in
        subst (λ (j : OutJudged). OutBy j.stepped (sent_out card lent j.sending out) r numbers out 0) (out_judged_lem (Err refusal) e)
        (n, ((after_left r (link_numbers card.link ++ mode_numbers card.mode) numbers leaves, refl), (refl, refl)))

    pub out_left : (stepped : Stepped) (r : ℕ) (now : List ℕ) (written : ℕ) → stepped ≡ judged_out.stepped
        → r ≡ number_told stepped.reply.outcome → leaves_record r ≡ true → now ≡ sent_out card lent judged_out.sending out
        → written ≡ wrote_of stepped.reply.outcome → OutLeft r numbers now written
    out_left stepped r now written same n leaves sent count =
        let stays = subst (Stays card) (sym same) (out_stays card (seen lent) (length out)) (ap leaves_record (sym n) ∙ leaves) in
        subst (λ (s : Stepped). OutBy s (sent_out card lent judged_out.sending out) r numbers now written) same
        (n, ((after_left r (link_numbers stepped.card.link ++ mode_numbers stepped.card.mode) numbers leaves, sym stays), (sent, count)))

    pub out_told : (stepped : Stepped) (r : ℕ) (after now : List ℕ) (written : ℕ) → stepped ≡ judged_out.stepped
        → r ≡ number_told stepped.reply.outcome → leaves_record r ≡ false
        → after ≡ link_numbers stepped.card.link ++ mode_numbers stepped.card.mode ++ drop 9 numbers
        → (link_of after ≡ stepped.card.link) × (mode_of after ≡ stepped.card.mode)
        → now ≡ sent_out card lent judged_out.sending out → written ≡ wrote_of stepped.reply.outcome → OutLeft r after now written
    out_told stepped r after now written same n leaves told stands sent count =
        let is = linked numbers cid csd password stepped.card.link stepped.card.mode after told stands in
        let kept = subst (λ (s : Stepped). OutKept card s.card) (sym same) (out_kept card (seen lent) (length out)) in
        subst (λ (s : Stepped). OutBy s (sent_out card lent judged_out.sending out) r after now written) same
        (n, ((is.0 ∙ after_told r (link_numbers stepped.card.link ++ mode_numbers stepped.card.mode) numbers leaves, is.1 ∙ sym kept), (sent, count)))
