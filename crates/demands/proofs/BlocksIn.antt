-- Document 02, request 1, a block in. For every record, and every block.
--   sixteen_exactly    a block that 12 and 15 let on is refused 16 exactly if its length is not the awaited one, or in SPI its first byte not FE
--   seventeen_exactly  past 16, it is refused 17 exactly if its CRC16 is wrong and counts: in MMC mode always, in SPI if checking is on
--   responds           in SPI 05 follows a block that was taken, 0B one that was refused 17, and nothing any other number; in MMC mode nothing
-- Assumes nothing.
use mathlib.Core.Path.{◌≡◌, refl, sym, ap, ◌∙◌}
use mathlib.Core.Bool.{Bool, true, false, not, ◌&&◌, ◌||◌}
use mathlib.Core.List.{List, [], ◌∷◌}
use Prim.Native.Nat.{ℕ, ◌+◌, ◌/◌}
use lib.Dec.{eqb, ltb}
use lib.ListN.{length, get_or}
use Rattle.base.proofs.Cases.{guarded, never}
use Rattle.base.specs.Choice.{pick, unless}
use Rattle.base.specs.Refusals.{refusal_of, by, number_of}
use Rattle.card.specs.Step.{step_of}
use Rattle.card.specs.declared.Call.TheVariants.{BlockIn}
use Rattle.card_blocks.proofs.Outcomes.{InOutcome, unreads, refuses, stores, grants, forces, block_outcome}
use Rattle.card_blocks.specs.BlockIn.{awaited_length, block_refused, block_good, write_judged, lock_judged, request_judged, carried_out, checked_judged, wrong_length, awaited_judged, unread, state_judged, block_judged}
use Rattle.card_blocks.specs.Framing.{beside, started, unstarted, response_to}
use Rattle.card_blocks.specs.declared.BlockJudged.{BlockJudged}
use Rattle.card_record.specs.Record.{size_of, csd_protects}
use Rattle.card_record.specs.declared.Card.{Card}
use Rattle.card_record.specs.declared.Sent.TheVariants.{Nothing, DataResponse}
use Rattle.lock.specs.Requests.{request_of}
use Rattle.lock.specs.declared.Answer.{Answer}
use Rattle.lock.specs.declared.Answer.TheVariants.{Granted, Erased, Failed}
use Rattle.lock.specs.declared.Lock.{Lock}
use Rattle.moves.proofs.Among.{each}
use Rattle.states.specs.declared.Incoming.{Incoming}
use Rattle.states.specs.declared.Incoming.TheVariants.{One, Many, LockRequest}
use Rattle.states.specs.declared.State.{State}
use Rattle.store.specs.Lent.{Lent, Seen, seen, once_lent}
use Rattle.store.specs.Map.{protected_in}
use Rattle.wire.specs.Blocks.{payload_of, crc_in}
use Rattle.crc.specs.Crc.{crc16}
use Rattle.demands.specs.BlocksIn.{Awaited, refuses16, refuses17}
use Rattle.demands.specs.Refused.{Refuses}
use Rattle.std.specs.Prelude.{Result, Option, Ok, Err, Some, None}
use Rattle.base.specs.declared.Refusal.{Refusal}

-- what became of a block, and whether that is this number
abbrev outcome_of : BlockJudged → Result (Option ℕ) Refusal
outcome_of judged = judged.stepped.reply.outcome

abbrev said_by : Result (Option ℕ) Refusal → ℕ
said_by (Ok None) = 0
said_by (Ok (Some n)) = 0
said_by (Err refusal) = number_of refusal

abbrev says : ℕ → BlockJudged → Bool
says n judged = eqb (said_by (outcome_of judged)) n

-- ---- a block of the right length with the right CRC16: neither 16 nor 17
abbrev Passed : BlockJudged → Type 0
Passed judged = (says 16 judged ≡ false) × (says 17 judged ≡ false)

write_passed : (card : Card) (incoming : Incoming) (sector : ℕ) (map : List ℕ) → Passed (write_judged card incoming sector map)
unfolding write_judged block_refused block_good
write_passed card incoming sector map =
    guarded Passed (ltb sector (size_of card.registers.groups / 512)) (λ t. (refl, refl))
    (λ t. guarded Passed (not (protected_in map (csd_protects card.registers.csd) sector)) (λ u. (refl, refl)) (λ u. (refl, refl)))

lock_passed : (card : Card) (lock : Lock) (answer : Answer) → Passed (lock_judged card lock answer)
unfolding block_refused block_good
lock_passed card lock Granted = (refl, refl)
lock_passed card lock Erased = (refl, refl)
lock_passed card lock Failed = (refl, refl)

carried_passed : (card : Card) (incoming : Incoming) (payload map : List ℕ) → Passed (carried_out card incoming payload map)
unfolding request_judged
carried_passed card (One at) payload map = write_passed card (One at) (at / 512) map
carried_passed card (Many at) payload map = write_passed card (Many at) (at / 512) map
carried_passed card LockRequest payload map =
    lock_passed card (request_of card.lock payload (csd_protects card.registers.csd)).lock
    (request_of card.lock payload (csd_protects card.registers.csd)).answer

-- ---- the two tests, by mode
not_or : (t : Bool) → (not t || false) ≡ not t
not_or true = refl
not_or false = refl

by_mode : (spi : Bool) (n awaited : ℕ) (first : Bool)
    → (not (eqb n (awaited + beside spi)) || not (not spi || first)) ≡ pick spi (not (eqb n (awaited + 3)) || not first) (not (eqb n (awaited + 2)))
by_mode true n awaited first = refl
by_mode false n awaited first = not_or (eqb n (awaited + 2))

by_three : (spi checks right : Bool) → (spi && not checks || right) ≡ not ((not spi || checks) && not right)
by_three true true true = refl
by_three true true false = refl
by_three true false right = refl
by_three false checks true = refl
by_three false checks false = refl

-- ---- 16 and 17
module _ (card : Card) (incoming : Incoming) where
  abbrev wrong : BlockJudged
  wrong = wrong_length card incoming

  sixteen_said : (long first : Bool) (rest : BlockJudged) → says 16 rest ≡ false
      → says 16 (unless long wrong (unless first wrong rest)) ≡ (not long || not first)
  unfolding block_refused
  sixteen_said true true rest e = e
  sixteen_said true false rest e = refl
  sixteen_said false first rest e = refl

  sixteen_given : (long first : Bool) (rest : BlockJudged) → (not long || not first) ≡ true
      → outcome_of (unless long wrong (unless first wrong rest)) ≡ Err (by 16)
  unfolding block_refused
  sixteen_given true true rest e = never e
  sixteen_given true false rest e = refl
  sixteen_given false first rest e = refl

  past_sixteen : (long first : Bool) (rest : BlockJudged) → (not long || not first) ≡ false → unless long wrong (unless first wrong rest) ≡ rest
  past_sixteen true true rest e = refl
  past_sixteen true false rest e = never (sym e)
  past_sixteen false first rest e = never (sym e)

  seventeen_said : (n : ℕ) (counts : Bool) (rest : BlockJudged) → says n rest ≡ false
      → says n (unless (not counts) (block_refused card incoming (by 17) None) rest) ≡ (counts && eqb 17 n)
  unfolding block_refused
  seventeen_said n true rest e = refl
  seventeen_said n false rest e = e

  seventeen_given : (counts : Bool) (rest : BlockJudged) → counts ≡ true
      → outcome_of (unless (not counts) (block_refused card incoming (by 17) None) rest) ≡ Err (by 17)
  unfolding block_refused
  seventeen_given true rest e = refl
  seventeen_given false rest e = never e

none : (counts : Bool) → (counts && false) ≡ false
none true = refl
none false = refl

all : (counts : Bool) → (counts && true) ≡ counts
all true = refl
all false = refl

module _ (card : Card) (block : List ℕ) (lent : Lent) (out : List ℕ) (incoming : Incoming) (on : Awaited card lent incoming) where
  abbrev inner : List ℕ
  inner = unstarted card.mode.spi block

  abbrev long : Bool
  long = eqb (length block) (awaited_length card incoming + beside card.mode.spi)

  abbrev first : Bool
  first = started card.mode.spi block

  abbrev carried : BlockJudged
  carried = carried_out card incoming (payload_of inner) (seen lent).map

  abbrev checked : BlockJudged
  checked = unless (not (refuses17 card.mode block)) (block_refused card incoming (by 17) None) carried

  abbrev sixteen : Bool
  sixteen = refuses16 card incoming block

  judged : block_judged card block (seen lent) ≡ unless long (wrong_length card incoming) (unless first (wrong_length card incoming) checked)
  unfolding block_judged awaited_judged checked_judged
  judged =
      ap (λ (l : Result Unit Refusal). once_lent l (unread card) (state_judged card card.link.state block (seen lent).map)) on.lent_right
      ∙ ap (λ (s : State). state_judged card s block (seen lent).map) on.awaiting
      ∙ ap (λ (t : Bool). unless long (wrong_length card incoming) (unless first (wrong_length card incoming) (unless t (block_refused card incoming (by 17) None) carried)))
      (by_three card.mode.spi card.mode.checks (eqb (crc_in inner) (crc16 (payload_of inner))))

  tested : (not long || not first) ≡ sixteen
  tested = by_mode card.mode.spi (length block) (awaited_length card incoming) (eqb (get_or block 0 0) 0xFE)

  said : says 16 (block_judged card block (seen lent)) ≡ sixteen
  said =
      ap (says 16) judged
      ∙ sixteen_said card incoming long first checked
      (seventeen_said card incoming 16 (refuses17 card.mode block) carried (carried_passed card incoming (payload_of inner) (seen lent).map).0
      ∙ none (refuses17 card.mode block))
      ∙ tested

  pub sixteen_exactly : (Refuses card BlockIn block lent out (by 16) → sixteen ≡ true) × (sixteen ≡ true → Refuses card BlockIn block lent out (by 16))
  sixteen_exactly = (
    λ (e : Refuses card BlockIn block lent out (by 16)). sym said ∙ ap (λ (o : Result (Option ℕ) Refusal). eqb (said_by o) 16) e,
    λ (t : sixteen ≡ true). ap outcome_of judged ∙ sixteen_given card incoming long first checked (tested ∙ t),
  )

  pub seventeen_exactly : sixteen ≡ false
      → (Refuses card BlockIn block lent out (by 17) → refuses17 card.mode block ≡ true)
      × (refuses17 card.mode block ≡ true → Refuses card BlockIn block lent out (by 17))
  seventeen_exactly past =
      let checks : block_judged card block (seen lent) ≡ checked = judged ∙ past_sixteen card incoming long first checked (tested ∙ past) in
      let told : says 17 (block_judged card block (seen lent)) ≡ refuses17 card.mode block =
      ap (says 17) checks
      ∙ seventeen_said card incoming 17 (refuses17 card.mode block) carried (carried_passed card incoming (payload_of inner) (seen lent).map).1
      ∙ all (refuses17 card.mode block) in (
        λ (e : Refuses card BlockIn block lent out (by 17)). sym told ∙ ap (λ (o : Result (Option ℕ) Refusal). eqb (said_by o) 17) e,
        λ (t : refuses17 card.mode block ≡ true). ap outcome_of checks ∙ seventeen_given card incoming (refuses17 card.mode block) carried t,
      )

-- ---- the data response
module _ (card : Card) where
  abbrev Responds : BlockJudged → Type 0
  Responds judged = judged.stepped.reply.sent ≡ response_to card.mode.spi (outcome_of judged)

  unanswered : (spi : Bool) → Nothing ≡ pick (spi && false) (DataResponse 0x0B) Nothing
  unanswered true = refl
  unanswered false = refl

  responding : (block : List ℕ) (seen : Seen) {j : BlockJudged} → InOutcome card block seen j → Responds j
  unfolding block_refused block_good
  responding block seen (unreads n listed) =
      each (λ (k : ℕ). Responds (unread card (refusal_of k))) (12 ∷ 15 ∷ []) (unanswered card.mode.spi, (unanswered card.mode.spi, tt)) n listed
  responding block seen (refuses incoming refusal fault on why) = refl
  responding block seen (stores incoming at w on ok) = refl
  responding block seen (grants on e) = refl
  responding block seen (forces on e) = refl

  pub responds : (block : List ℕ) (seen : Seen) (room : ℕ)
      → (step_of card BlockIn block seen room).reply.sent ≡ response_to card.mode.spi (step_of card BlockIn block seen room).reply.outcome
  responds block seen room = responding block seen (block_outcome card block seen)
