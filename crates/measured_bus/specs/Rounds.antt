-- Rounds of CMD2 and CMD3 on a bus of cards in Ready, by what the bus does with a frame (`bus_frame`).
-- Assumes nothing.
use Rattle.std.specs.Prelude.{List, [], ◌∷◌, ◌++◌, map, ℕ, zero, suc, ◌+◌, ◌*◌, ◌%◌, take, drop, replicate, Result, Option, Ok, Err, Some, None}
use Rattle.bus.specs.Bus.{empty_bus, added_to, bus_frame}
use Rattle.bus.specs.declared.Bus.{Bus}
use Rattle.lock.specs.Passwords.{no_password}
use Rattle.card_record.specs.Power.{fresh_link, mmc_mode}
use Rattle.card_record.specs.Record.{with_state}
use Rattle.card_record.specs.declared.Card.{Card}
use Rattle.states.specs.declared.State.TheVariants.{Ready}
use Rattle.wire.specs.Frames.{command_frame}
use Rattle.measured_bus.specs.declared.Played.{Played}
use Rattle.base.specs.declared.Refusal.{Refusal}

-- the CIDs of 30 places lie one behind the other; a 31st card has the first's again
unfoldable pub cid_at : List ℕ → ℕ → List ℕ
cid_at cids place = take 16 (drop (place % 30 * 16) cids)

-- a card in Ready, its link else as after power-on
unfoldable pub ready_card : List ℕ → Card
ready_card cid =
    record {
      registers = record { cid = cid; csd = replicate 15 0 ++ (1 ∷ []); ocr = 0x00FF8000; groups = 1 };
      lock = no_password;
      link = with_state fresh_link Ready;
      mode = mmc_mode;
    }

-- n cards added, one after the other, to a bus of none
unfoldable pub bus_of : List ℕ → ℕ → Bus
bus_of cids zero = empty_bus
bus_of cids (suc n) = (added_to (bus_of cids n) (ready_card (cid_at cids n))).bus

-- CMD2, and CMD3 with the number of the round as the address, which has 16 bits
abbrev pub cmd2 : List ℕ
cmd2 = command_frame 2 0

abbrev pub cmd3 : ℕ → List ℕ
cmd3 round = command_frame 3 (round % 65536 * 65536)

-- the bus after n rounds
unfoldable pub after_rounds : Bus → ℕ → Bus
after_rounds bus zero = bus
after_rounds bus (suc n) = (bus_frame (bus_frame (after_rounds bus n) cmd2).bus (cmd3 (suc n))).bus

-- whether the line shows an answer, as a number
abbrev pub heard : Result (Option ℕ) Refusal → ℕ
heard (Ok (Some n)) = 1
heard (Ok None) = 0
heard (Err refusal) = 0

-- how many CMD2 of n rounds got an answer
unfoldable pub answered_in : Bus → ℕ → ℕ
answered_in bus zero = 0
answered_in bus (suc n) = answered_in bus n + heard (bus_frame (after_rounds bus n) cmd2).shown

abbrev pub played_on : Bus → ℕ → Played
played_on bus rounds = record { bus = after_rounds bus rounds; answered = answered_in bus rounds }

-- the address in each place, 0 where no card was added
abbrev pub addresses_of : Bus → List ℕ
addresses_of bus = map (λ (card : Card). card.link.address) bus.cards
