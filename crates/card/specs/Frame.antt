-- Document 01, "How a card takes a frame", and document 02, request 1: a frame at a card. "Frame: 1, 2, 3; at a card 12 comes first".
-- Assumes nothing.
use Rattle.std.specs.Prelude.{Bool, true, false, List, ℕ, Result, Option, Ok, Err, None}
use Rattle.base.specs.Choice.{unless}
use Rattle.base.specs.Refusals.{by}
use Rattle.base.specs.declared.Refusal.{Refusal}
use Rattle.card_blocks.specs.Replies.{replied, refused}
use Rattle.card.specs.declared.Answered.{Answered}
use Rattle.card_blocks.specs.declared.Stepped.{Stepped}
use Rattle.command.specs.Command.{met_by}
use Rattle.command.specs.declared.Change.{Change}
use Rattle.command.specs.declared.Change.TheVariants.{Nothing, Protect, Erase}
use Rattle.command.specs.declared.Met.{Met}
use Rattle.card_record.specs.Record.{csd_protects, with_errors, with_link}
use Rattle.card_record.specs.declared.Card.{Card}
use Rattle.card_record.specs.declared.Link.{Link}
use Rattle.card_record.specs.declared.Mode.{Mode}
use Rattle.spi.specs.Hearing.{heard_of, crc_passes, damaged_of}
use Rattle.spi.specs.declared.Heard.{Heard}
use Rattle.status.specs.ErrorBits.{error_bit}
use Rattle.status.specs.Status.{with_bit}
use Rattle.store.specs.Erase.{erased, any_spared}
use Rattle.store.specs.Lent.{Lent, Seen, with_memory, with_map, lending_of, once_lent}
use Rattle.store.specs.Map.{group_set}
use Rattle.tags.specs.declared.Tags.{Tags}
use Rattle.wire.specs.Frames.{framing_of}
use Rattle.wire.specs.declared.Fields.{Fields}

-- a frame judged: the answer, and what is to change in what is lent
pub record FrameJudged : Type 0 where
  pub stepped : Stepped
  pub change : Change

-- a frame refused: nothing changes in what is lent
abbrev pub frame_refused : Card → Refusal → FrameJudged
frame_refused card refusal = record { stepped = refused card refusal; change = Nothing }

-- the record after a command: commands change link and mode alone
abbrev pub hearing : Card → Heard → Card
hearing card heard = record { registers = card.registers; lock = card.lock; link = heard.link; mode = heard.mode }

-- a command as the card took it, or a frame refused 3 as it left the card: in SPI something is sent beside the number
abbrev pub commanded : Card → Result (Option ℕ) Refusal → Heard → FrameJudged
commanded card outcome heard = record { stepped = replied (hearing card heard) outcome heard.sent; change = heard.change }

-- 1 and 2, which "change nothing"; 3, where the CRC7 counts; then the command. "In its own call a card is alone on the line, so CMD2 wins"; a
-- card that shares its line is told whether it won. `selected` says that the card's select line is low
abbrev pub framed : Card → Bool → Bool → Result Fields Refusal → FrameJudged
framed card wins selected (Err refusal) = frame_refused card refusal
framed card wins selected (Ok fields) =
    unless (crc_passes card.mode fields.index fields.crc_right) (commanded card (Err (by 3)) (damaged_of card.mode selected card.link))
    (commanded card (Ok None) (heard_of card.mode selected card.link (met_by card wins) fields.index fields.argument))

-- a frame judged: 12 before all else
unfoldable pub frame_judged : Card → Bool → Bool → List ℕ → Seen → FrameJudged
frame_judged card wins selected frame seen =
    once_lent (lending_of seen card.registers.groups) (frame_refused card) (framed card wins selected (framing_of frame))

-- whether a command spares a tagged sector, where these are the tags and the card is protected whole or is not
abbrev pub sparing : Tags → Bool → Seen → Change → Bool
sparing tags whole seen Nothing = false
sparing tags whole seen (Protect group on) = false
sparing tags whole seen Erase = any_spared seen.map tags whole seen.bytes

-- the same at a card, with its own tags and its CSD
abbrev pub spares : Card → Seen → Change → Bool
spares card seen change = sparing card.link.tags (csd_protects card.registers.csd) seen change

-- CMD38 "sets bit 15 if any was spared": it waits for the next R1
abbrev pub skip_told : Link → Bool → Link
skip_told link true = with_errors link (with_bit link.errors (error_bit 15))
skip_told link false = link

abbrev pub spared_told : Stepped → Bool → Stepped
spared_told stepped true = replied (with_link stepped.card (skip_told stepped.card.link true)) stepped.reply.outcome stepped.reply.sent
spared_told stepped false = stepped

-- what a judged frame answers: bit 15 where its command spared a sector
abbrev pub frame_told : Card → Seen → FrameJudged → Stepped
frame_told card seen judged = spared_told judged.stepped (spares card seen judged.change)

-- a frame at a card of this record
unfoldable pub frame_stepped : Card → Bool → Bool → List ℕ → Seen → Stepped
frame_stepped card wins selected frame seen = frame_told card seen (frame_judged card wins selected frame seen)

-- what is lent afterwards: "set, clear the addressed group"; "fills every tagged sector outside protection"
abbrev pub changed : Tags → Bool → Change → Lent → Lent
changed tags whole Nothing lent = lent
changed tags whole (Protect group on) lent = with_map lent (group_set lent.map group on)
changed tags whole Erase lent = with_memory lent (erased lent.map tags whole lent.memory)

-- the same at a card, with its own tags and its CSD
abbrev pub changed_by : Card → Change → Lent → Lent
changed_by card change lent = changed card.link.tags (csd_protects card.registers.csd) change lent

-- a command as a card's mode and link take it: those that it leaves, with bit 15 where it spared a sector, and what is sent
abbrev pub answered_by : Link → Bool → Seen → Heard → Answered
answered_by link whole seen heard =
    record { mode = heard.mode; link = skip_told heard.link (sparing link.tags whole seen heard.change); sent = heard.sent }

unfoldable pub command_heard : Mode → Bool → Link → Met → Bool → ℕ → ℕ → Seen → Answered
command_heard mode selected link met whole index argument seen = answered_by link whole seen (heard_of mode selected link met index argument)
