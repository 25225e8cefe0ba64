-- A run of calls at one card, by the definitions that its calls promise.
-- Assumes nothing.
use Rattle.std.specs.Prelude.{◌≡◌, List, [], ◌∷◌, ℕ, length, Result, Option}
use Rattle.card.specs.Step.{step_of, lent_after, output_of}
use Rattle.card.specs.declared.Call.{Call}
use Rattle.card_record.specs.Making.{made_of}
use Rattle.card_record.specs.declared.Card.{Card}
use Rattle.card_record.specs.declared.Made.{Made}
use Rattle.store.specs.Lent.{Lent, seen}
use Rattle.base.specs.declared.Refusal.{Refusal}

-- a card with what it is lent
pub record World : Type 0 where
  pub card : Card
  pub lent : Lent

-- one call: which, the bytes that come in, and the output that is lent
pub record Input : Type 0 where
  pub call : Call
  pub bytes : List ℕ
  pub output : List ℕ

-- a call that is lent no output
abbrev pub given : Call → List ℕ → Input
given call bytes = record { call = call; bytes = bytes; output = [] }

-- the world after a call: the next record, and what was lent as the call left it
unfoldable pub next : World → Input → World
next world input =
    record {
      card = (step_of world.card input.call input.bytes (seen world.lent) (length input.output)).card;
      lent = lent_after world.card input.call input.bytes world.lent;
    }

-- what becomes of a call, and the output that it leaves
abbrev pub outcome_of : World → Input → Result (Option ℕ) Refusal
outcome_of world input =
    (step_of world.card input.call input.bytes (seen world.lent) (length input.output)).reply.outcome

abbrev pub output_after : World → Input → List ℕ
output_after world input = output_of world.card input.call world.lent input.output

-- the world after a list of calls, one after the other
unfoldable pub run_of : World → List Input → World
run_of world [] = world
run_of world (input ∷ inputs) = run_of (next world input) inputs

-- a make that is lent this
abbrev pub made_lent : List ℕ → List ℕ → ℕ → List ℕ → Lent → Made
made_lent cid csd ocr password lent = made_of cid csd ocr password (length lent.memory) lent.map

-- where a run begins, if the make was not refused: "a made card is as after power-on, its memory and map untouched"
abbrev pub begun : List ℕ → List ℕ → ℕ → List ℕ → Lent → World
begun cid csd ocr password lent = record { card = (made_lent cid csd ocr password lent).card; lent = lent }

-- what is lent keeps the lengths that it had
pub record SameLengths (lent after : Lent) : Type 0 where
  pub memory : length after.memory ≡ length lent.memory
  pub map : length after.map ≡ length lent.map
