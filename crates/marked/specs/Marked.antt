-- Document 01, "Proved together, and run": the marked examples, one list. Each says what a program makes of some bytes, so that the
-- statement over the list is one about any reader of frames, any card's answers, any sum of payloads and any program that plays a script.
-- Assumes nothing.
use Rattle.std.specs.Prelude.{◌≡◌, List, [], ◌∷◌, ◌++◌, ℕ, replicate, Result, Ok, Err}
use Rattle.base.specs.Refusals.{by}
use Rattle.text.specs.Words.{ascii}
use Rattle.lock.specs.Passwords.{no_password}
use Rattle.card_record.specs.Power.{fresh_link, mmc_mode}
use Rattle.card_record.specs.Record.{with_state}
use Rattle.card_record.specs.declared.Card.{Card}
use Rattle.states.specs.declared.State.{State}
use Rattle.states.specs.declared.State.TheVariants.{Stby, Tran}
use Rattle.base.specs.declared.Refusal.{Refusal}
use Rattle.wire.specs.declared.Command.{Command}
use Rattle.wire.specs.Frames.{as_command}

pub data Example : Type 0 where
  -- the frame is read so
  frame : List ℕ → Result Command Refusal → Example
  -- a made card in this state answers the frame so
  answer : State → List ℕ → List ℕ → Example
  -- the payload has this CRC16
  payload : List ℕ → ℕ → Example
  -- `busline` prints this for these records
  transcript : List ℕ → List ℕ → Example

-- the card that "busline" adds: CID and CSD "15 zero bytes and 01", OCR 00FF8000, 8,192 bytes, no password; after power-on, but in this state
unfoldable pub card_in : State → Card
card_in state =
    record {
      registers = record { cid = replicate 15 0 ++ (1 ∷ []); csd = replicate 15 0 ++ (1 ∷ []); ocr = 0x00FF8000; groups = 1 };
      lock = no_password;
      link = with_state fresh_link state;
      mode = mmc_mode;
    }

-- the records of a script: a card's 15 CID bytes, and a frame
abbrev pub card_record : List ℕ → List ℕ
card_record cid = 0x01 ∷ cid

abbrev pub frame_record : List ℕ → List ℕ
frame_record bytes = 0x02 ∷ bytes

-- "Input: 01 with 14 zero bytes and 01; 01 with 15 zero bytes; frames 4100FF800099, 42000000004D, 43000100007F, 42000000004D, 43000200009D,
-- 42000000004D"
abbrev pub night : List ℕ
night =
    card_record (replicate 14 0x00 ++ (0x01 ∷ []))
    ++ card_record (replicate 15 0x00)
    ++ frame_record (0x41 ∷ 0x00 ∷ 0xFF ∷ 0x80 ∷ 0x00 ∷ 0x99 ∷ [])
    ++ frame_record (0x42 ∷ 0x00 ∷ 0x00 ∷ 0x00 ∷ 0x00 ∷ 0x4D ∷ [])
    ++ frame_record (0x43 ∷ 0x00 ∷ 0x01 ∷ 0x00 ∷ 0x00 ∷ 0x7F ∷ [])
    ++ frame_record (0x42 ∷ 0x00 ∷ 0x00 ∷ 0x00 ∷ 0x00 ∷ 0x4D ∷ [])
    ++ frame_record (0x43 ∷ 0x00 ∷ 0x02 ∷ 0x00 ∷ 0x00 ∷ 0x9D ∷ [])
    ++ frame_record (0x42 ∷ 0x00 ∷ 0x00 ∷ 0x00 ∷ 0x00 ∷ 0x4D ∷ [])

-- "Whole output": its eight lines
abbrev pub eight_lines : List ℕ
eight_lines =
    ascii "card 1\n"
    ++ ascii "card 2\n"
    ++ ascii "1 line 3F80FF8000FF\n"
    ++ ascii "2 line 3F00000000000000000000000000000001\n"
    ++ ascii "3 line 0300000500FB\n"
    ++ ascii "4 line 3F00000000000000000000000000000113\n"
    ++ ascii "5 line 0300000500FB\n"
    ++ ascii "6 silent\n"

abbrev pub marked : List Example
marked =
    -- "400000000095 is CMD0"
    frame (0x40 ∷ 0x00 ∷ 0x00 ∷ 0x00 ∷ 0x00 ∷ 0x95 ∷ []) (Ok (as_command 0 0)) ∷
    -- "4D0001000053 is CMD13 to 1"
    frame (0x4D ∷ 0x00 ∷ 0x01 ∷ 0x00 ∷ 0x00 ∷ 0x53 ∷ []) (Ok (as_command 13 0x00010000)) ∷
    -- "500000020015 is CMD16 of 512"
    frame (0x50 ∷ 0x00 ∷ 0x00 ∷ 0x02 ∷ 0x00 ∷ 0x15 ∷ []) (Ok (as_command 16 512)) ∷
    -- "10000009000B answers it"
    answer Tran (0x50 ∷ 0x00 ∷ 0x00 ∷ 0x02 ∷ 0x00 ∷ 0x15 ∷ []) (0x10 ∷ 0x00 ∷ 0x00 ∷ 0x09 ∷ 0x00 ∷ 0x0B ∷ []) ∷
    -- "0D00000700FB answers CMD13 in Stand-by"
    answer Stby (0x4D ∷ 0x00 ∷ 0x01 ∷ 0x00 ∷ 0x00 ∷ 0x53 ∷ []) (0x0D ∷ 0x00 ∷ 0x00 ∷ 0x07 ∷ 0x00 ∷ 0xFB ∷ []) ∷
    -- "400000000097 is refused 3"
    frame (0x40 ∷ 0x00 ∷ 0x00 ∷ 0x00 ∷ 0x00 ∷ 0x97 ∷ []) (Err (by 3)) ∷
    -- "payload 80 has CRC16 9188"
    payload (0x80 ∷ []) 0x9188 ∷
    -- "00 has 0000"
    payload (0x00 ∷ []) 0x0000 ∷
    -- "the eight output lines"
    transcript night eight_lines ∷ []

module _ (read : List ℕ → Result Command Refusal) (reply : Card → List ℕ → List ℕ) (sum : List ℕ → ℕ) (play : List ℕ → List ℕ) where
  abbrev pub holds : Example → Type 0
  holds (frame bytes is) = read bytes ≡ is
  holds (answer state bytes line) = reply (card_in state) bytes ≡ line
  holds (payload bytes n) = sum bytes ≡ n
  holds (transcript input output) = play input ≡ output

  abbrev pub all : List Example → Type 0
  all [] = Unit {0}
  all (e ∷ es) = holds e × all es
