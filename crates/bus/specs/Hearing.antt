-- A command for all cards as code carries it out: each takes it in its turn, and what it sends is ANDed into the line. That this is what
-- the line shows is proved (`line_is_heard` and `told_is_command` in proofs/Telling).
-- Assumes nothing.
use Rattle.std.specs.Prelude.{Bool, List, [], ◌∷◌, map, ℕ, max, leb, length, take, replicate, Result, Ok, Err}
use Rattle.base.specs.Choice.{pick, unless}
use Rattle.base.specs.Refusals.{by}
use Rattle.card_record.specs.Sending.{sent_bytes}
use Rattle.command.specs.Command.{met_by, decided_of}
use Rattle.command.specs.declared.Decided.{Decided}
use Rattle.shared_line.specs.Bytes.{anded}
use Rattle.moves.specs.Indices.{among}
use Rattle.moves.specs.declared.Move.TheVariants.{Ignored}
use Rattle.moves.specs.declared.Row.TheVariants.{Unsupported}
use Rattle.card_record.specs.Record.{with_link}
use Rattle.card_record.specs.declared.Card.{Card}
use Rattle.wire.specs.Frames.{framing_of}
use Rattle.bus.specs.Bus.{cards_of, with_cards, command_on, card_after, line_of, shown_of, padded, bus_indices}
use Rattle.bus.specs.declared.Asked.{Asked}
use Rattle.bus.specs.declared.Asked.TheVariants.{Command, Damaged, Refused}
use Rattle.bus.specs.declared.Bus.{Bus}
use Rattle.bus.specs.declared.Framed.{Framed as Answered}
use Rattle.bus.specs.declared.Heard.{Heard}
use Rattle.bus.specs.declared.Turned.{Turned}
use Rattle.base.specs.declared.Refusal.{Refusal}
use Rattle.wire.specs.declared.Fields.{Fields}

-- what a frame asks of a bus of so many cards: "at a bus 13, 1, 2, 3, 14", and else a command of all its cards
abbrev pub framing_asked : Result Fields Refusal → Asked
framing_asked (Err refusal) = Refused refusal
framing_asked (Ok fields) =
    unless fields.crc_right Damaged (unless (among fields.index bus_indices) (Refused (by 14)) (Command fields.index fields.argument))

unfoldable pub bus_asked : ℕ → List ℕ → Asked
bus_asked count frame = unless (leb 1 count) (Refused (by 13)) (framing_asked (framing_of frame))

-- the line before anyone sends
unfoldable pub quiet : Heard
quiet = record { line = replicate 17 0xFF; length = 0 }

unfoldable pub heard_of : Heard → List ℕ → Heard
heard_of heard frame = record { line = anded heard.line frame; length = max heard.length (length frame) }

unfoldable pub heard_from : Heard → List (List ℕ) → Heard
heard_from heard [] = heard
heard_from heard (frame ∷ frames) = heard_from (heard_of heard frame) frames

-- what is decided at a card: one in SPI ignores the command
abbrev pub decided_at : Card → Bool → ℕ → ℕ → Decided
decided_at card wins index argument =
    pick card.mode.spi (record { row = Unsupported; next = Ignored }) (decided_of card.link (met_by card wins) index argument)

-- one card's turn
unfoldable pub turn_of : Heard → Card → Bool → ℕ → ℕ → Turned
turn_of heard card wins index argument =
    record {
      card = with_link card (command_on card wins index argument).link;
      heard = heard_of heard (sent_bytes card.registers (command_on card wins index argument).sent);
    }

-- what was sent, of the bytes that the line holds
abbrev pub sent_on : Heard → List ℕ
sent_on heard = take heard.length heard.line

-- a command that the bus takes
unfoldable pub told_of : Bus → ℕ → ℕ → Answered
told_of bus index argument =
    record {
      bus = with_cards bus (map (card_after (cards_of bus) index argument) (cards_of bus));
      shown = shown_of (line_of (cards_of bus) index argument);
      line = padded (line_of (cards_of bus) index argument);
    }
