-- CMD2 shows the AND of the frames too.
--   cid_line_lem      what the line shows where losers fall silent is the AND of what the winners send: they all send the same
--   frame_won, frame_lost   what a winner and a loser send
--   any_ready_lem, none_ready   whether a card is Ready
--   longest-..    how long the line is where each frame is empty or the same
-- Assumes nothing.
use mathlib.Core.Path.{◌≡◌, refl, sym, ap, ◌∙◌, subst}
use mathlib.Core.Bool.{Bool, true, false, false≢true}
use mathlib.Core.List.Memᴰ
use mathlib.Core.List.{List, [], ◌∷◌, map, Memᴰ}
use mathlib.Core.Logic.{inl, inr, ⊎_elim}
use Prim.Native.Nat.{ℕ, ◌*◌, ◌≤◌}
use native.Mathlib.Omega.{arith}
use lib.ListN.{length}
use Rattle.base.proofs.Cases.{cases}
use Rattle.card_record.specs.Sending.{sent_bytes}
use Rattle.command.specs.declared.Commanded.{Commanded}
use Rattle.card_record.specs.declared.Sent.{Sent}
use Rattle.crc.proofs.Bits.{octets_bits, octets_below, length_bits}
use Rattle.crc.specs.Bits.{bits, octets, Below}
use Rattle.shared_line.proofs.Arbitration.{wins_shown, someone, contested_length, contested_below}
use Rattle.shared_line.proofs.Together.{OneVoice, one_voice}
use Rattle.shared_line.specs.Line.{contested, together}
use Rattle.card_record.specs.declared.Card.{Card}
use Rattle.wire.specs.Responses.{r2_frame}
use Rattle.bus.proofs.Taking.{taken_lost, taken_won}
use Rattle.bus.proofs.Winners.{cid_bitwise}
use Rattle.bus.specs.Bus.{is_ready, cid_sender, cid_bits, wins_line, command_on, command_at, frame_from, any_ready, longest_of, frame_sender, cid_line, and_line}
use Rattle.bus.specs.Contest.{cid_of, Held}

any_ready_lem : (cards : List Card) → any_ready cards ≡ true → (card : Card) × Memᴰ card cards × (is_ready card ≡ true)
unfolding any_ready
any_ready_lem [] e = absurd (false≢true e)
any_ready_lem (x ∷ cards) e =
    cases (is_ready x)
    (λ (t : is_ready x ≡ true). (x, Memᴰ.head refl, t))
    (λ (t : is_ready x ≡ false). let w = any_ready_lem cards (rw t at e) in (w.0, Memᴰ.tail w.1, w.2))

none_ready : (cards : List Card) → any_ready cards ≡ false → (card : Card) → Memᴰ card cards → is_ready card ≡ false
unfolding any_ready
none_ready [] e card m = absurd (Memᴰ.not-nil m)
none_ready (x ∷ cards) e card (Memᴰ.head p) =
    cases (is_ready card)
    (λ (t : is_ready card ≡ true). let u : is_ready x ≡ true = ap is_ready (sym p) ∙ t in absurd (false≢true (sym (rw u at e))))
    (λ t. t)
none_ready (x ∷ cards) e card (Memᴰ.tail m) =
    cases (is_ready x)
    (λ (t : is_ready x ≡ true). absurd (false≢true (sym (rw t at e))))
    (λ (t : is_ready x ≡ false). none_ready cards (rw t at e) card m)

-- how long the line is where each frame is empty or the same
longest_within : (voice : List ℕ) (frames : List (List ℕ)) → OneVoice voice frames → longest_of frames ≤ length voice
unfolding longest_of
longest_within voice [] h = omega arith
longest_within voice (frame ∷ frames) h =
    let below = longest_within voice frames (λ f m. h f (Memᴰ.tail m)) in
    ⊎_elim
    (λ (e : frame ≡ []). let n : length frame ≡ 0 = ap length e in omega arith)
    (λ (e : frame ≡ voice). let n : length frame ≡ length voice = ap length e in omega arith)
    (h frame (Memᴰ.head refl))

longest_least : (voice : List ℕ) (frames : List (List ℕ)) → Memᴰ voice frames → length voice ≤ longest_of frames
unfolding longest_of
longest_least voice [] m = absurd (Memᴰ.not-nil m)
longest_least voice (frame ∷ frames) (Memᴰ.head e) = let n : length voice ≡ length frame = ap length e in omega arith
longest_least voice (frame ∷ frames) (Memᴰ.tail m) = let h = longest_least voice frames m in omega arith

module _ (cards : List Card) (held : (card : Card) → Memᴰ card cards → Held card) (argument : ℕ) where
  abbrev voice : List ℕ
  voice = 0x3F ∷ octets 16 (contested cid_bits (map cid_sender cards))

  abbrev frames : List (List ℕ)
  frames = map (frame_from cards 2 argument) cards

  -- a winner is Ready, and its CID is what the line shows
  winner : (card : Card) → Memᴰ card cards → wins_line cards card ≡ true
      → (is_ready card ≡ true) × (bits (cid_of card) ≡ contested cid_bits (map cid_sender cards))
  winner card m t =
      wins_shown cid_bits (map cid_sender cards) (cid_sender card) (Memᴰ.map cid_sender m)
      (length_bits (cid_of card) ∙ ap (λ (n : ℕ). n * 8) (held card m).0) t

  frame_lost : (card : Card) → wins_line cards card ≡ false → frame_from cards 2 argument card ≡ []
  unfolding frame_from command_at sent_bytes
  frame_lost card t =
      ap (λ (w : Bool). sent_bytes card.registers (command_on card w 2 argument).sent) t
      ∙ ap (λ (c : Commanded). sent_bytes card.registers c.sent) (taken_lost card argument)

  frame_won : (card : Card) → Memᴰ card cards → wins_line cards card ≡ true → frame_from cards 2 argument card ≡ voice
  unfolding frame_from command_at sent_bytes r2_frame
  frame_won card m t =
      let h = held card m in
      let s = winner card m t in
      ap (λ (w : Bool). sent_bytes card.registers (command_on card w 2 argument).sent) t
      ∙ ap (λ (x : Sent). sent_bytes card.registers x) (taken_won card argument s.0)
      ∙ ap (λ (l : List ℕ). 0x3F ∷ l)
      (sym (octets_bits (cid_of card) h.1) ∙ ap (λ (n : ℕ). octets n (bits (cid_of card))) h.0 ∙ ap (octets 16) s.1)

  one_cid : OneVoice voice frames
  one_cid frame m =
      let w = Memᴰ.of_map (frame_from cards 2 argument) cards m in
      cases (wins_line cards w.0)
      (λ (t : wins_line cards w.0 ≡ true). inr (sym w.2 ∙ frame_won w.0 w.1 t))
      (λ (t : wins_line cards w.0 ≡ false). inl (sym w.2 ∙ frame_lost w.0 t))

  voice_small : Below 256 voice
  voice_small =
      let line : List ℕ = contested cid_bits (map cid_sender cards) in
      (omega arith, octets_below 16 line (contested_length cid_bits (map cid_sender cards)) (contested_below cid_bits (map cid_sender cards)))

  voice_heard : any_ready cards ≡ true → Memᴰ voice frames
  voice_heard e =
      let ready = any_ready_lem cards e in
      let won = someone cid_bits (map cid_sender cards) (cid_bitwise cards held) (cid_sender ready.0) (Memᴰ.map cid_sender ready.1) ready.2 in
      let from = Memᴰ.of_map cid_sender cards won.1 in
      let wins : wins_line cards from.0 ≡ true = rw from.2 won.2 in
      subst (λ (f : List ℕ). Memᴰ f frames) (frame_won from.0 from.1 wins) (Memᴰ.map (frame_from cards 2 argument) from.1)

  -- where no card is Ready, none wins
  nobody_wins : any_ready cards ≡ false → (card : Card) → Memᴰ card cards → wins_line cards card ≡ false
  nobody_wins e card m =
      cases (wins_line cards card)
      (λ (t : wins_line cards card ≡ true).
      let s = winner card m t in
      absurd (false≢true (sym (none_ready cards e card m) ∙ s.0)))
      (λ t. t)

  pub cid_line_lem : cid_line cards ≡ and_line frames
  unfolding cid_line and_line
  cid_line_lem =
      cases (any_ready cards)
      (λ (e : any_ready cards ≡ true).
      let m = voice_heard e in
      let n : longest_of frames ≡ length voice = omega (arith, longest_within voice frames one_cid, longest_least voice frames m) in
      let left : cid_line cards ≡ voice = simp e in
      left ∙ sym (ap (λ (k : ℕ). octets k (together (8 * k) (map frame_sender frames))) n ∙ one_voice voice frames voice_small one_cid m))
      (λ (e : any_ready cards ≡ false).
      let quiet : OneVoice [] frames =
      λ frame m. (let w = Memᴰ.of_map (frame_from cards 2 argument) cards m in inl (sym w.2 ∙ frame_lost w.0 (nobody_wins e w.0 w.1))) in
      let n : longest_of frames ≡ 0 = omega (arith, longest_within [] frames quiet) in
      let left : cid_line cards ≡ [] = simp e in
      left ∙ sym (ap (λ (k : ℕ). octets k (together (8 * k) (map frame_sender frames))) n))
