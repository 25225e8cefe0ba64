-- A handheld opens a locked card with a request of a length that it sets, in MMC mode and in SPI (document 02, request 4).
--   opens    of any made locked card in tran, whatever its password and whatever stands behind it in the request, up to 2,048 bytes
-- Assumes nothing.
use mathlib.Core.Path.{◌≡◌, refl, ap, ap₂, ◌∙◌, subst}
use mathlib.Core.Bool.{Bool, true, false}
use mathlib.Core.List.{List, [], ◌∷◌}
use Prim.Native.Nat.{ℕ, ◌≤◌}
use native.Mathlib.Omega.{arith}
use lib.ListN.{length}
use Rattle.base.proofs.Cases.{cases, opposite}
use Rattle.card.specs.declared.Call.TheVariants.{WorkDone}
use Rattle.card_blocks.specs.BlockIn.{block_good, request_judged, lock_judged, block_judged, stored_by}
use Rattle.card_blocks.specs.Framing.{unstarted, response_to}
use Rattle.card_blocks.specs.declared.BlockJudged.{BlockJudged}
use Rattle.card_blocks.specs.declared.Storing.TheVariants.{Nothing as Unstored}
use Rattle.card_record.specs.Power.{worked}
use Rattle.card_record.specs.Record.{csd_protects, with_lock}
use Rattle.card_record.specs.declared.Sent.TheVariants.{Nothing}
use Rattle.command.specs.Obey.{reset_told}
use Rattle.lock.proofs.Sequences.{unlock_granted}
use Rattle.lock.proofs.Stored.{stored_length}
use Rattle.lock.specs.Passwords.{stored, flagged}
use Rattle.lock.specs.declared.Lock.{Lock}
use Rattle.lock.specs.declared.Requested.{Requested}
use Rattle.made.proofs.Links.{length_as}
use Rattle.made.specs.BlockLength.{Brings}
use Rattle.made.specs.Run.{World, Input, given, next, run_of}
use Rattle.states.specs.declared.State.TheVariants.{Tran, Prg}
use Rattle.status.specs.declared.Errors.{Errors}
use Rattle.store.specs.Lent.{seen}
use Rattle.tags.specs.Tagging.{any_of}
use Rattle.stored.specs.Opening.{LockedInTran, unlock_request, Handheld, request_in, Carries, r1_in, behind_r1, standing, behind_set, sized_world, asked_world, opened_world, ready_world, Opens}
use Rattle.stored.proofs.Framed.{request_right}
use Rattle.stored.proofs.InTran.{length_heard, request_heard, carries_heard}
use Rattle.std.specs.Prelude.{Ok, None}

module _ (world : World) (card : LockedInTran world) (surplus : List ℕ) (set ask : Input)
    (sent : Handheld world (unlock_request world.card.lock surplus) set ask) where
  abbrev spi : Bool
  spi = world.card.mode.spi

  abbrev lock : Lock
  lock = world.card.lock

  abbrev request : List ℕ
  request = unlock_request lock surplus

  abbrev n : ℕ
  n = length request

  -- how the card stands on the way
  abbrev first : World
  first = sized_world spi world request

  abbrev second : World
  second = asked_world spi world request

  abbrev third : World
  third = opened_world spi world request

  abbrev last : World
  last = ready_world spi world request

  -- ---- CMD16
  -- a made card has a password where it is locked, and no tags
  some : 1 ≤ length (stored lock)
  some = omega (arith, card.made.lock.locked card.locked, stored_length lock card.made.lock.bytes)

  untagged : any_of world.card.link.tags ≡ false
  untagged =
      cases (any_of world.card.link.tags)
      (λ (t : any_of world.card.link.tags ≡ true). opposite lock.locked card.locked (card.made.link.tagged t).1)
      (λ (t : any_of world.card.link.tags ≡ false). t)

  untold : reset_told world.card.link 16 ≡ world.card.link.errors
  unfolding reset_told
  untold = rw untagged refl

  lock_is : lock ≡ flagged lock true
  lock_is = ap (flagged lock) card.locked

  sized : Carries world set (r1_in spi 16 world.card.link.errors true) first
  sized =
      let brings = sent.sets in
      let heard =
      length_heard spi world.card brings.wins brings.selected (record { mode_is = refl; tran = card.tran; low = brings.heard.low }) n
      (omega arith) sent.few
      in
      let carried = carries_heard world set 16 n card.right brings _ heard refl in
      record {
        reply = carried.reply ∙ ap₂ (λ (e : Errors) (l : Bool). record { outcome = Ok None; sent = r1_in spi 16 e l }) untold card.locked;
        left = carried.left
            ∙ ap₂ (λ (e : Errors) (l : Lock). record { card = with_lock (standing world Tran n (behind_r1 spi e) true).card l; lent = world.lent }) untold lock_is;
      }

  -- ---- CMD42
  asked : Carries first ask (r1_in spi 42 (behind_set spi world request) true) second
  unfolding reset_told
  asked =
      let brings = subst (λ (w : World). Brings w.card ask 42 sent.argument) sized.left sent.asks in
      let heard =
      request_heard spi first.card brings.wins brings.selected (record { mode_is = refl; tran = refl; low = brings.heard.low }) sent.argument
      in
      carries_heard first ask 42 sent.argument card.right brings _ heard refl

  -- ---- the request
  judged : block_judged second.card (request_in spi request).bytes (seen world.lent)
      ≡ block_good (with_lock second.card (flagged lock false)) Prg Unstored
  unfolding request_judged stored
  judged =
      request_right spi second.card request refl (omega arith) sent.few (seen world.lent) card.right refl
      (length_as n (omega arith, sent.few))
      ∙ ap (λ (r : Requested). lock_judged second.card r.lock r.answer)
      (unlock_granted (flagged lock true) (stored lock) surplus (csd_protects world.card.registers.csd) refl some refl)

  opened : Carries second (request_in spi request) (response_to spi (Ok None)) third
  unfolding next block_good
  opened =
      record {
        reply = ap (λ (j : BlockJudged). j.stepped.reply) judged;
        left = ap (λ (j : BlockJudged).
            record { card = j.stepped.card; lent = stored_by (unstarted spi (request_in spi request).bytes) j.storing world.lent }) judged;
      }

  ready : Carries third (given WorkDone []) Nothing last
  unfolding next worked
  ready = record { reply = refl; left = refl }

  all : Opens spi world request set ask
  unfolding run_of
  all =
      let behind : List Input = request_in spi request ∷ given WorkDone [] ∷ [] in
      record {
        sized = sized;
        asked = asked;
        opened = opened;
        ready = ready;
        run = ap (λ (w : World). run_of w (ask ∷ behind)) sized.left
            ∙ ap (λ (w : World). run_of w behind) asked.left
            ∙ ap (λ (w : World). next w (given WorkDone [])) opened.left
            ∙ ready.left;
      }

pub opens : (world : World) → LockedInTran world → (surplus : List ℕ) (set ask : Input)
    → Handheld world (unlock_request world.card.lock surplus) set ask
    → Opens world.card.mode.spi world (unlock_request world.card.lock surplus) set ask
opens = all
