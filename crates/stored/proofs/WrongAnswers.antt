-- Wrong answers that the predicates of specs/ rule out: a step that did so would need a cause that there is none of.
--   power_erases, work_erases, out_erases    a byte that changes at power-on, at work done, at a block out
--   spared_erased, untagged_erased           a frame that fills a sector that is protected, or one that is not tagged
--   status_erases                            a byte that changes at CMD13
--   refused_stores                           a refused block that is stored
--   power_clears, status_protects            an entry that changes at power-on, or at CMD13
--   set_clears                               CMD28 that clears a group
--   high_erases, high_protects               in SPI, a byte or an entry that changes at a frame with the line high
--   damaged_erases                           CMD38 with a wrong CRC7 that erases where the CRC7 counts
--   frame_unlocks                            a locked card that a frame unlocks
--   prefix_unlocks, set_unlocks              an unlock with a password of another length, or by a request whose byte 0 is 1
--   password_kept                            power-on that unlocks a card with a password of one byte
--   password_erases, write_erases            a forced erase by a request whose byte 0 is 0, or where a write is awaited
-- Assumes nothing.
use mathlib.Core.Path.{◌≡◌, sym, ap, ap₂, ◌∙◌}
use mathlib.Core.Bool.{Bool, true, false}
use mathlib.Core.List.{List}
use mathlib.Core.Logic.{◌⊎◌, inl, inr}
use Prim.Native.Nat.{ℕ}
use native.Mathlib.Omega.{arith}
use lib.ListN.{length, get_or}
use Rattle.wire.specs.declared.Fields.{Fields}
use Rattle.wire.proofs.Told.{index_told, fields_told}
use Rattle.base.proofs.Cases.{clash, opposite}
use Rattle.base.specs.declared.Refusal.{Refusal}
use Rattle.card_blocks.specs.BlockIn.{block_judged}
use Rattle.card.specs.Frame.{frame_judged}
use Rattle.card.specs.declared.Call.{Call}
use Rattle.card.specs.declared.Call.TheVariants.{Frame, BlockIn, BlockOut, WorkDone, PowerOn}
use Rattle.command.specs.declared.Change.TheVariants.{Protect}
use Rattle.lock.specs.Passwords.{stored}
use Rattle.lock.specs.Requests.{password_in}
use Rattle.card_record.specs.Record.{csd_protects}
use Rattle.card_record.specs.declared.Card.{Card}
use Rattle.spi.specs.Hearing.{crc_passes}
use Rattle.states.specs.declared.Incoming.TheVariants.{One}
use Rattle.states.specs.declared.State.TheVariants.{Rcv}
use Rattle.store.specs.Lent.{Seen}
use Rattle.store.specs.Map.{protected_in}
use Rattle.tags.specs.Tags.{tagged_of}
use Rattle.wire.specs.Frames.{framing_of, as_fields}
use Rattle.stored.specs.Changes.{SetBy, GrantedWrite, payload_at, ForcedErase, Cause, written, erased as by_tag, forced, MapCause, set}
use Rattle.stored.specs.Locked.{UnlockGranted, Unlocking, none_stored, unlocked, forced as by_force}
use Rattle.std.specs.Prelude.{Ok, Err}

module _ (card : Card) (input : List ℕ) (seen : Seen) where
  -- a byte changes at a frame or at a block in, and at no other call
  no_cause : (call : Call) (sector : ℕ) → (call ≡ BlockIn → ⊥) → ((wins selected : Bool) → call ≡ Frame wins selected → ⊥) → Cause card call input seen sector → ⊥
  no_cause call sector b f (written at w e) = b w.called
  no_cause call sector b f (by_tag t) = f t.wins t.selected t.called
  no_cause call sector b f (forced g) = b g.called

  power_erases : (sector : ℕ) → Cause card PowerOn input seen sector → ⊥
  power_erases sector =
      no_cause PowerOn sector (λ c. clash cc) (λ w s c. clash cc)

  work_erases : (sector : ℕ) → Cause card WorkDone input seen sector → ⊥
  work_erases sector =
      no_cause WorkDone sector (λ c. clash cc) (λ w s c. clash cc)

  out_erases : (sector : ℕ) → Cause card BlockOut input seen sector → ⊥
  out_erases sector =
      no_cause BlockOut sector (λ c. clash cc) (λ w s c. clash cc)

  spared_erased : (wins selected : Bool) (sector : ℕ) → protected_in seen.map (csd_protects card.registers.csd) sector ≡ true → Cause card (Frame wins selected) input seen sector → ⊥
  spared_erased wins selected sector p (written at w e) = let c = w.called in clash cc
  spared_erased wins selected sector p (by_tag t) = opposite (protected_in seen.map (csd_protects card.registers.csd) sector) p t.unprotected
  spared_erased wins selected sector p (forced f) = let c = f.called in clash cc

  untagged_erased : (wins selected : Bool) (sector : ℕ) → tagged_of card.link.tags sector ≡ false → Cause card (Frame wins selected) input seen sector → ⊥
  untagged_erased wins selected sector u (written at w e) = let c = w.called in clash cc
  untagged_erased wins selected sector u (by_tag t) = opposite (tagged_of card.link.tags sector) t.tagged u
  untagged_erased wins selected sector u (forced f) = let c = f.called in clash cc

  status_erases : (wins selected : Bool) (sector argument : ℕ) (right : Bool) → framing_of input ≡ Ok (as_fields 13 argument right) → Cause card (Frame wins selected) input seen sector → ⊥
  status_erases wins selected sector argument right r (written at w e) = let c = w.called in clash cc
  status_erases wins selected sector argument right r (by_tag t) = let z = index_told (sym r ∙ t.command.framing) in omega arith
  status_erases wins selected sector argument right r (forced f) = let c = f.called in clash cc

  refused_stores : (at : ℕ) (refusal : Refusal) → (block_judged card input seen).stepped.reply.outcome ≡ Err refusal
      → GrantedWrite card BlockIn input seen at → ⊥
  refused_stores at refusal r w = let g = w.granted 0 in clash cc

  power_clears : (group : ℕ) → MapCause card PowerOn input seen group → ⊥
  power_clears group (set s) = let c = s.called in clash cc
  power_clears group (forced f) = let c = f.called in clash cc

  -- the index of a frame that sets or clears a group
  neither : (wins selected : Bool) (index argument other group : ℕ) (right : Bool) → (index ≡ 28 → ⊥) → (index ≡ 29 → ⊥)
      → framing_of input ≡ Ok (as_fields index argument right)
      → SetBy card (Frame wins selected) input seen wins selected 28 true other group
      ⊎ SetBy card (Frame wins selected) input seen wins selected 29 false other group → ⊥
  neither wins selected index argument other group right a b r (inl c) = a (index_told (sym r ∙ c.0.framing))
  neither wins selected index argument other group right a b r (inr c) = b (index_told (sym r ∙ c.0.framing))

  status_protects : (wins selected : Bool) (group argument : ℕ) (right : Bool) → framing_of input ≡ Ok (as_fields 13 argument right) → MapCause card (Frame wins selected) input seen group → ⊥
  status_protects wins selected group argument right r (set s) =
      neither s.wins s.selected 13 argument s.argument group right (λ e. omega arith) (λ e. omega arith) r s.taken
  status_protects wins selected group argument right r (forced f) = let c = f.called in clash cc

  set_or_not : (wins selected : Bool) (other group argument : ℕ) (right : Bool) → framing_of input ≡ Ok (as_fields 28 argument right)
      → (frame_judged card wins selected input seen).change ≡ Protect group false
      → SetBy card (Frame wins selected) input seen wins selected 28 true other group
      ⊎ SetBy card (Frame wins selected) input seen wins selected 29 false other group → ⊥
  set_or_not wins selected other group argument right r p (inl c) = let e = sym p ∙ c.1 in clash cc
  set_or_not wins selected other group argument right r p (inr c) = let z = index_told (sym r ∙ c.0.framing) in omega arith

  told : (v w a b : Bool) → Frame v a ≡ Frame w b → (v ≡ w) × (a ≡ b)
  told v w a b e = (cc, cc)

  set_clears : (wins selected : Bool) (group argument : ℕ) (right : Bool) → framing_of input ≡ Ok (as_fields 28 argument right)
      → (frame_judged card wins selected input seen).change ≡ Protect group false → MapCause card (Frame wins selected) input seen group → ⊥
  set_clears wins selected group argument right r p (set s) =
      let same = told wins s.wins selected s.selected s.called in
      set_or_not s.wins s.selected s.argument group argument right r
      (sym (ap₂ (λ (w l : Bool). (frame_judged card w l input seen).change) same.0 same.1) ∙ p) s.taken
  set_clears wins selected group argument right r p (forced f) = let c = f.called in clash cc

  -- in SPI "a frame with the line high is ignored"
  ignored : (wins selected line : Bool) → card.mode.spi ≡ true → Frame wins false ≡ Frame selected line → (card.mode.spi ≡ true → line ≡ true) → ⊥
  ignored wins selected line here e low = let same = told wins selected false line e in opposite line (low here) (sym same.1)

  high_erases : (wins : Bool) (sector : ℕ) → card.mode.spi ≡ true → Cause card (Frame wins false) input seen sector → ⊥
  high_erases wins sector here (written at w e) = let c = w.called in clash cc
  high_erases wins sector here (by_tag t) = ignored wins t.wins t.selected here t.called t.command.low
  high_erases wins sector here (forced f) = let c = f.called in clash cc

  high_protects : (wins : Bool) (group : ℕ) → card.mode.spi ≡ true → MapCause card (Frame wins false) input seen group → ⊥
  high_protects wins group here (set s) = ignored wins s.wins s.selected here s.called (either_low s.selected s.wins s.argument s.taken)
    where
      either_low : (selected v : Bool) (argument : ℕ)
          → SetBy card (Frame wins false) input seen v selected 28 true argument group
          ⊎ SetBy card (Frame wins false) input seen v selected 29 false argument group → card.mode.spi ≡ true → selected ≡ true
      either_low selected v argument (inl t) = t.0.low
      either_low selected v argument (inr t) = t.0.low
  high_protects wins group here (forced f) = let c = f.called in clash cc

  -- a CRC7 that is wrong, at a card that does not let it pass
  damaged_erases : (wins selected : Bool) (sector argument : ℕ) → framing_of input ≡ Ok (as_fields 38 argument false) → crc_passes card.mode 38 false ≡ false
      → Cause card (Frame wins selected) input seen sector → ⊥
  damaged_erases wins selected sector argument r c (written at w e) = let d = w.called in clash cc
  damaged_erases wins selected sector argument r c (by_tag t) =
      let wrong = sym (ap (λ (f : Fields). f.crc_right) (fields_told (sym r ∙ t.command.framing))) in
      opposite (crc_passes card.mode 38 false) (sym (ap (crc_passes card.mode 38) wrong) ∙ t.command.crc) c
  damaged_erases wins selected sector argument r c (forced f) = let d = f.called in clash cc

  frame_unlocks : (wins selected : Bool) → Unlocking card (Frame wins selected) input seen → ⊥
  frame_unlocks wins selected (none_stored c n) = clash cc
  frame_unlocks wins selected (by_force f) = let c = f.called in clash cc
  frame_unlocks wins selected (unlocked u) = let c = u.called in clash cc

  prefix_unlocks : (call : Call) → (length (password_in (payload_at card input)) ≡ length (stored card.lock) → ⊥) → UnlockGranted card call input seen → ⊥
  prefix_unlocks call ne u = ne (ap length u.password)

  set_unlocks : (call : Call) → get_or (payload_at card input) 0 0 ≡ 1 → UnlockGranted card call input seen → ⊥
  set_unlocks call s u = omega (arith, s, u.unlock)

  password_kept : length (stored card.lock) ≡ 1 → Unlocking card PowerOn input seen → ⊥
  password_kept l (none_stored c n) = omega arith
  password_kept l (by_force f) = let c = f.called in clash cc
  password_kept l (unlocked u) = let c = u.called in clash cc

module _ (card : Card) (call : Call) (input : List ℕ) (seen : Seen) where
  password_erases : get_or (payload_at card input) 0 0 ≡ 0 → ForcedErase card call input seen → ⊥
  password_erases z f = omega (arith, z, f.forced)

  write_erases : (at : ℕ) → card.link.state ≡ Rcv (One at) → ForcedErase card call input seen → ⊥
  write_erases at s f = let a = f.awaited in clash cc
