-- Document 01, "The shared line": a bus of up to 30 cards, and a frame for all of them. "at a bus 13, 1, 2, 3, 14".
-- Assumes nothing.
use Rattle.std.specs.Prelude.{Bool, true, false, not, ◌&&◌, ◌||◌, List, [], ◌∷◌, ◌++◌, map, ℕ, suc, ◌*◌, ◌-◌, min, max, eqb, leb, ltb, length, take, drop, get_or, set, replicate, Result, Option, Ok, Err, Some, None}
use Rattle.base.specs.Choice.{pick, unless}
use Rattle.base.specs.Refusals.{by}
use Rattle.base.specs.declared.Refusal.{Refusal}
use Rattle.card_record.specs.Sending.{sent_bytes}
use Rattle.command.specs.Answers.{silent}
use Rattle.command.specs.Command.{met_by, damaged_link, command_of}
use Rattle.command.specs.declared.Commanded.{Commanded}
use Rattle.crc.specs.Bits.{bits, octets}
use Rattle.shared_line.specs.Line.{Sender, contested, wins, together}
use Rattle.moves.specs.Indices.{among}
use Rattle.card_record.specs.Making.{refused_make}
use Rattle.card_record.specs.Record.{with_link}
use Rattle.card_record.specs.declared.Card.{Card}
use Rattle.states.specs.States.{column_of, column_number}
use Rattle.wire.specs.Frames.{framing_of}
use Rattle.bus.specs.declared.Added.{Added}
use Rattle.bus.specs.declared.Bus.{Bus}
use Rattle.bus.specs.declared.Framed.{Framed as Answered}
use Rattle.wire.specs.declared.Fields.{Fields}

-- "a bus of up to 30 such cards"
abbrev pub most : ℕ
most = 30

-- how many cards there are: a count over 30 reads as 30
abbrev pub count_of : Bus → ℕ
count_of bus = min bus.count most

abbrev pub cards_of : Bus → List Card
cards_of bus = take (count_of bus) bus.cards

-- a bus of these cards in the places that are taken; the places behind them are as they were
unfoldable pub with_cards : Bus → List Card → Bus
with_cards bus cards = record { cards = cards ++ drop (length cards) bus.cards; count = bus.count }

-- no card; a place that is not taken holds the record of a refused make
unfoldable pub empty_bus : Bus
empty_bus = record { cards = replicate most refused_make; count = 0 }

-- 13: "or a 31st added"
unfoldable pub added_to : Bus → Card → Added
added_to bus card =
    unless (ltb (count_of bus) most) (record { bus = bus; adding = Err (by 13) })
    (record { bus = record { cards = set bus.cards (count_of bus) card; count = suc (count_of bus) }; adding = Ok (count_of bus) })

-- a card "in its own call", taken out of its place: there may be none
unfoldable pub taken_from : Bus → ℕ → Option Card
taken_from bus place =
    unless (ltb place (count_of bus)) None (Some (get_or bus.cards place refused_make))

-- and put back into it
unfoldable pub put_into : Bus → ℕ → Card → Bus
put_into bus place card = unless (ltb place (count_of bus)) bus (record { cards = set bus.cards place card; count = bus.count })

-- "In CMD2 every Ready card sends its CID highest bit first"; a card in SPI ignores what comes with its line high
abbrev pub is_ready : Card → Bool
is_ready card = not card.mode.spi && eqb (column_number (column_of card.link.state)) 1

abbrev pub cid_sender : Card → Sender
cid_sender card = record { on = is_ready card; bits = bits card.registers.cid }

-- a CID is 128 bits
abbrev pub cid_bits : ℕ
cid_bits = 128

abbrev pub wins_line : List Card → Card → Bool
wins_line cards card = wins cid_bits (map cid_sender cards) (cid_sender card)

-- what a command does at a card of a bus that wins the line, or does not: in SPI "a frame with the line high is ignored (on a bus it is high)"
unfoldable pub command_on : Card → Bool → ℕ → ℕ → Commanded
command_on card wins index argument = pick card.mode.spi (silent card.link) (command_of card.link (met_by card wins) index argument)

-- .. at one card of these
unfoldable pub command_at : List Card → ℕ → ℕ → Card → Commanded
command_at cards index argument card = command_on card (wins_line cards card) index argument

unfoldable pub card_after : List Card → ℕ → ℕ → Card → Card
card_after cards index argument card = with_link card (command_at cards index argument card).link

-- the bytes that it sends, if any
unfoldable pub frame_from : List Card → ℕ → ℕ → Card → List ℕ
frame_from cards index argument card = sent_bytes card.registers (command_at cards index argument card).sent

-- whether anyone sends, and the longest of the frames
unfoldable pub any_ready : List Card → Bool
any_ready [] = false
any_ready (card ∷ cards) = is_ready card || any_ready cards

unfoldable pub longest_of : List (List ℕ) → ℕ
longest_of [] = 0
longest_of (frame ∷ frames) = max (length frame) (longest_of frames)

abbrev pub frame_sender : List ℕ → Sender
frame_sender frame = record { on = true; bits = bits frame }

-- the line's bytes; "No sender means no answer"
unfoldable pub cid_line : List Card → List ℕ
cid_line cards = pick (any_ready cards) (0x3F ∷ octets 16 (contested cid_bits (map cid_sender cards))) []

unfoldable pub and_line : List (List ℕ) → List ℕ
and_line frames = octets (longest_of frames) (together (8 * longest_of frames) (map frame_sender frames))

unfoldable pub line_of : List Card → ℕ → ℕ → List ℕ
line_of cards index argument = pick (eqb index 2) (cid_line cards) (and_line (map (frame_from cards index argument) cards))

-- the bytes as an answer of at most 17: how many there are, and zeros behind them
abbrev pub shown_of : List ℕ → Result (Option ℕ) Refusal
shown_of [] = Ok None
shown_of (b ∷ bs) = Ok (Some (suc (length bs)))

unfoldable pub padded : List ℕ → List ℕ
padded line = line ++ replicate (17 - length line) 0

-- 14: "index on the bus outside 0-4, 7, 9, 10, 13, 15"
abbrev pub bus_indices : List ℕ
bus_indices = 0 ∷ 1 ∷ 2 ∷ 3 ∷ 4 ∷ 7 ∷ 9 ∷ 10 ∷ 13 ∷ 15 ∷ []

-- a frame that is refused: "3 sets bit 23 .. on a bus of every card, unless Inactive", and of none in SPI
abbrev pub refused_on : Bus → Refusal → Answered
refused_on bus refusal = record { bus = bus; shown = Err refusal; line = replicate 17 0 }

abbrev pub damaged_card : Card → Card
damaged_card card = pick card.mode.spi card (with_link card (damaged_link card.link))

-- a command for all cards
unfoldable pub command_for : Bus → ℕ → ℕ → Answered
command_for bus index argument =
    unless (among index bus_indices) (refused_on bus (by 14))
    (record {
      bus = with_cards bus (map (card_after (cards_of bus) index argument) (cards_of bus));
      shown = shown_of (line_of (cards_of bus) index argument);
      line = padded (line_of (cards_of bus) index argument);
    })

abbrev pub framed_on : Bus → Result Fields Refusal → Answered
framed_on bus (Err refusal) = refused_on bus refusal
framed_on bus (Ok fields) =
    unless fields.crc_right (refused_on (with_cards bus (map damaged_card (cards_of bus))) (by 3)) (command_for bus fields.index fields.argument)

-- a frame for all cards. 13: "bus of 0 cards asked"
unfoldable pub bus_frame : Bus → List ℕ → Answered
bus_frame bus frame = unless (leb 1 (count_of bus)) (refused_on bus (by 13)) (framed_on bus (framing_of frame))
