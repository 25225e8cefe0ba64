-- Document 02, request 4: "A handheld sets the block length to the length of its lock request before CMD42, as 001 says hosts do": what it sends
-- a locked card, what the card answers, and how it stands then, in MMC mode and in SPI. `spi` says that the card is in SPI.
-- Assumes nothing.
use Rattle.std.specs.Prelude.{◌≡◌, Bool, true, false, List, [], ◌∷◌, ◌++◌, ℕ, ◌≤◌, length, Ok, None}
use Rattle.card.specs.Step.{step_of}
use Rattle.card.specs.declared.Call.TheVariants.{WorkDone}
use Rattle.card_blocks.specs.Framing.{response_to, with_start}
use Rattle.card_record.specs.declared.Sent.{Sent}
use Rattle.card_record.specs.declared.Sent.TheVariants.{Nothing, Status, SpiR1}
use Rattle.lock.specs.Passwords.{stored, flagged}
use Rattle.lock.specs.declared.Lock.{Lock}
use Rattle.made.specs.BlockLength.{Brings}
use Rattle.made.specs.Made.{Made}
use Rattle.made.specs.Run.{World, Input, given, next, run_of}
use Rattle.spi_answers.specs.Answers.{r1_of, cleared_r1}
use Rattle.states.specs.declared.Column.TheVariants.{Tran as OnTran}
use Rattle.states.specs.declared.Incoming.TheVariants.{LockRequest}
use Rattle.states.specs.declared.State.{State}
use Rattle.states.specs.declared.State.TheVariants.{Tran, Rcv, Prg}
use Rattle.status.specs.Status.{no_errors, word_of}
use Rattle.status.specs.declared.Errors.{Errors}
use Rattle.store.specs.Lent.{seen, lending_of}
use Rattle.tags.specs.Tagging.{no_tags}
use Rattle.wire.specs.Blocks.{longest_block, block_of}
use Rattle.stored.specs.ReadBack.{block_in}

-- ---- what is sent
-- a made card that is locked, in tran, and lent what is its own
pub record LockedInTran (world : World) : Type 0 where
  pub made : Made world.card
  pub locked : world.card.lock.locked ≡ true
  pub tran : world.card.link.state ≡ Tran
  pub right : lending_of (seen world.lent) world.card.registers.groups ≡ Ok tt

-- an unlock with the stored password: "Byte 0: 0 unlock"; "Byte 1 is the password length .., bytes follow, surplus ignored"
abbrev pub unlock_request : Lock → List ℕ → List ℕ
unlock_request lock surplus = 0 ∷ length (stored lock) ∷ stored lock ++ surplus

-- CMD16 of the request's length, and CMD42; behind them comes the request, as one block of just that length
pub record Handheld (world : World) (request : List ℕ) (set ask : Input) : Type 0 where
  pub few : length request ≤ longest_block
  pub sets : Brings world.card set 16 (length request)
  pub argument : ℕ
  pub asks : Brings (next world set).card ask 42 argument

abbrev pub request_in : Bool → List ℕ → Input
request_in spi request = block_in (with_start spi (block_of request))

-- ---- what comes of it
-- a call that is carried out: what the card sends, and the world that it leaves
pub record Carries (world : World) (input : Input) (sent : Sent) (after : World) : Type 0 where
  pub reply : (step_of world.card input.call input.bytes (seen world.lent) (length input.output)).reply ≡ record { outcome = Ok None; sent = sent }
  pub left : next world input ≡ after

-- R1 of a command that comes to a card in tran, from the error bits that it reports: it has "the state on reception", and in SPI "idle after the
-- command", which none of these leads to
abbrev pub r1_in : Bool → ℕ → Errors → Bool → Sent
r1_in true index errors locked = SpiR1 (r1_of errors false)
r1_in false index errors locked = Status index (word_of errors locked OnTran)

-- the error bits that wait behind it: "R1 reports pending bits .., then clears them"; in SPI "an answer clears the bits it shows"
abbrev pub behind_r1 : Bool → Errors → Errors
behind_r1 true errors = cleared_r1 errors
behind_r1 false errors = no_errors

-- the card in this state, with blocks of this length, these error bits, no tags, locked or not: all else is as it was, and every byte that is lent
abbrev pub standing : World → State → ℕ → Errors → Bool → World
standing world state n errors locked =
    record {
      card = record {
        registers = world.card.registers;
        lock = flagged world.card.lock locked;
        link = record { state = state; address = world.card.link.address; length = n; errors = errors; tags = no_tags };
        mode = world.card.mode;
      };
      lent = world.lent;
    }

module _ (spi : Bool) (world : World) (request : List ℕ) where
  -- the error bits that wait behind the R1 of CMD16, and behind that of CMD42
  abbrev pub behind_set : Errors
  behind_set = behind_r1 spi world.card.link.errors

  abbrev pub behind_ask : Errors
  behind_ask = behind_r1 spi behind_set

  -- how the card stands behind CMD16, which sets the block length at once; behind CMD42; behind the request: "Granted goes to prg", unlocked; and
  -- in tran once its work is done, with the block length that was set
  abbrev pub sized_world : World
  sized_world = standing world Tran (length request) behind_set true

  abbrev pub asked_world : World
  asked_world = standing world (Rcv LockRequest) (length request) behind_ask true

  abbrev pub opened_world : World
  opened_world = standing world Prg (length request) behind_ask false

  abbrev pub ready_world : World
  ready_world = standing world Tran (length request) behind_ask false

  -- "Check 5 reads from now on: class 0, CMD16 and CMD42": call by call, and one after the other. The R1 of CMD16 reports the error bits that waited,
  -- and none of its own
  pub record Opens (set ask : Input) : Type 0 where
    pub sized : Carries world set (r1_in spi 16 world.card.link.errors true) sized_world
    pub asked : Carries sized_world ask (r1_in spi 42 behind_set true) asked_world
    pub opened : Carries asked_world (request_in spi request) (response_to spi (Ok None)) opened_world
    pub ready : Carries opened_world (given WorkDone []) Nothing ready_world
    pub run : run_of world (set ∷ ask ∷ request_in spi request ∷ given WorkDone [] ∷ []) ≡ ready_world
