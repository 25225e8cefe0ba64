-- Document 01, "Refusal numbers": what a call at a card answers.
-- Assumes nothing.
use Rattle.base.specs.declared.Refusal.{Refusal}
use Rattle.card_blocks.specs.declared.Stepped.{Stepped}
use Rattle.card_record.specs.declared.Sent.{Sent}
use Rattle.card_record.specs.declared.Sent.TheVariants.{Nothing}
use Rattle.card_record.specs.declared.Card.{Card}
use Rattle.std.specs.Prelude.{ℕ, Result, Option, Ok, Err, None}

-- the next record, what became of the call, and what the card sends
abbrev pub replied : Card → Result (Option ℕ) Refusal → Sent → Stepped
replied card outcome sent = record { card = card; reply = record { outcome = outcome; sent = sent } }

-- "Refusals give a number and no value": a refused call that leaves this record
abbrev pub refused : Card → Refusal → Stepped
refused card refusal = replied card (Err refusal) Nothing

-- a call that is carried out and sends nothing
abbrev pub done : Card → Stepped
done card = replied card (Ok None) Nothing
