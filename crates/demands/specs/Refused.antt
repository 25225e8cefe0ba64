-- Document 01, "Refusal numbers": which numbers a call at a card gives, and what alone changes with each. "Nothing changes in the record
-- or in lent memory, map or output except: 3 sets bit 23 of the card .. unless Inactive; 16 to 21 at a card act as told below." Document 02,
-- request 1: what a card in SPI sends beside 3 and 17.
-- Assumes nothing.
use Rattle.std.specs.Prelude.{◌≡◌, Bool, true, not, ◌&&◌, List, [], ◌∷◌, ℕ, eqb, length, Err}
use Rattle.base.specs.Choice.{pick}
use Rattle.base.specs.Refusals.{number_of}
use Rattle.base.specs.declared.Refusal.{Refusal}
use Rattle.card.specs.Step.{step_of, lent_after, output_of}
use Rattle.card.specs.declared.Call.{Call}
use Rattle.card.specs.declared.Call.TheVariants.{Frame, BlockIn, BlockOut, WorkDone, PowerOn}
use Rattle.card_record.specs.declared.Sent.{Sent}
use Rattle.card_record.specs.declared.Sent.TheVariants.{Nothing, SpiR1, DataResponse}
use Rattle.moves.specs.Indices.{among}
use Rattle.moves.specs.Moves.{in_state}
use Rattle.card_record.specs.Record.{with_state, with_errors, with_link}
use Rattle.card_record.specs.declared.Card.{Card}
use Rattle.spi.specs.Answers.{idle_in}
use Rattle.spi_answers.specs.Answers.{r1_of, cleared_r1}
use Rattle.states.specs.States.{column_of}
use Rattle.states.specs.declared.Column.TheVariants as column
use Rattle.states.specs.declared.Incoming.TheVariants.{One, Many, LockRequest}
use Rattle.states.specs.declared.State.{State}
use Rattle.states.specs.declared.State.TheVariants.{Idle, Ready, Ident, Stby, Tran, Data, Rcv, Prg, Dis, Ina}
use Rattle.status.specs.ErrorBits.{error_bit_at}
use Rattle.status.specs.Status.{with_bit}
use Rattle.store.specs.Lent.{Lent, seen}

-- "Block in: 12, 15, 16, 17, 18, 19 or 20. Block out: 12, 15, 6, 18, 21. Frame: 1, 2, 3; at a card 12 comes first"; "Work done .. is never
-- refused", and neither is power-on
abbrev pub numbers : Call → List ℕ
numbers (Frame wins selected) = 12 ∷ 1 ∷ 2 ∷ 3 ∷ []
numbers BlockIn = 12 ∷ 15 ∷ 16 ∷ 17 ∷ 18 ∷ 19 ∷ 20 ∷ []
numbers BlockOut = 12 ∷ 15 ∷ 6 ∷ 18 ∷ 21 ∷ []
numbers WorkDone = []
numbers PowerOn = []

-- the card with an error bit set, and nothing else changed
abbrev pub noted : ℕ → Card → Card
noted place card = with_link card (with_errors card.link (with_bit card.link.errors (error_bit_at place)))

-- the card in a state, and nothing else changed
abbrev pub moved : State → Card → Card
moved state card = with_link card (with_state card.link state)

abbrev pub inactive : Card → Bool
inactive card = in_state (column_of card.link.state) (column.Ina ∷ [])

-- the card without the bits that R1 shows in SPI: "an answer clears the bits it shows"
abbrev pub cleared : Card → Card
cleared card = with_link card (with_errors card.link (cleared_r1 card.link.errors))

-- 3: "sets bit 23 of the card .. unless Inactive". In SPI R1 shows that bit, and clears it with the others that it shows; but "a frame with
-- the line high is ignored"
abbrev pub damaged : Bool → Card → Card
damaged selected card = pick (inactive card) card (pick card.mode.spi (pick selected (cleared (noted 23 card)) card) (noted 23 card))

-- a frame, the select line being low (`selected`) or high: 3; "1 and 2 change nothing"
abbrev pub named_frame : Bool → ℕ → Card → Card
named_frame selected number card = pick (eqb number 3) (damaged selected card) card

-- a block in, what was awaited: "CMD24 then goes to tran, CMD25 stays at its address"; a lock request's "16, 17, 20 go to tran"
abbrev pub given_up : State → State
given_up Idle = Idle
given_up Ready = Ready
given_up Ident = Ident
given_up Stby = Stby
given_up Tran = Tran
given_up (Data outgoing) = Data outgoing
given_up (Rcv (One at)) = Tran
given_up (Rcv (Many at)) = Rcv (Many at)
given_up (Rcv LockRequest) = Tran
given_up Prg = Prg
given_up Dis = Dis
given_up Ina = Ina

-- a block in, the bit: "Refused 16, 18 and 19 set bits 29, 31, 26; 17 sets none"; "16 sets bit 29, 20 sets 24"
abbrev pub noted_in : ℕ → Card → Card
noted_in number card =
    pick (eqb number 16) (noted 29 card)
    (pick (eqb number 18) (noted 31 card) (pick (eqb number 19) (noted 26 card) (pick (eqb number 20) (noted 24 card) card)))

abbrev pub named_in : ℕ → Card → Card
named_in number card = pick (among number (16 ∷ 17 ∷ 18 ∷ 19 ∷ 20 ∷ [])) (noted_in number (moved (given_up card.link.state) card)) card

-- "a later block out that fails sets bit 31 (18) or 30 (21) and stays in data"
abbrev pub named_out : ℕ → Card → Card
named_out number card = pick (eqb number 18) (noted 31 card) (pick (eqb number 21) (noted 30 card) card)

-- the record that document 01 names after a call that is refused with a number
abbrev pub named : Call → ℕ → Card → Card
named (Frame wins selected) number card = named_frame selected number card
named BlockIn number card = named_in number card
named BlockOut number card = named_out number card
named WorkDone number card = card
named PowerOn number card = card

-- "R1 as one byte", of the card's error bits, and whether it is idle
abbrev pub r1_from : Card → Sent
r1_from card = SpiR1 (r1_of card.link.errors (idle_in card.link.state))

-- whether a card answers a frame that is refused 3: "Illegal commands are answered here and, beside number 3, a wrong CRC7"; not with the
-- line high, and not in Inactive
abbrev pub answers_damage : Bool → Card → Bool
answers_damage selected card = card.mode.spi && (selected && not (inactive card))

-- what is sent beside a number: in SPI R1 beside 3, with bit 23 in it, and the data response "0B for a bad CRC" beside 17; else nothing
abbrev pub sent_beside : Call → ℕ → Card → Sent
sent_beside (Frame wins selected) number card = pick (eqb number 3) (pick (answers_damage selected card) (r1_from (noted 23 card)) Nothing) Nothing
sent_beside BlockIn number card = pick (eqb number 17) (pick card.mode.spi (DataResponse 0x0B) Nothing) Nothing
sent_beside BlockOut number card = Nothing
sent_beside WorkDone number card = Nothing
sent_beside PowerOn number card = Nothing

module _ (card : Card) (call : Call) (input : List ℕ) (lent : Lent) (out : List ℕ) where
  -- the call is refused
  abbrev pub Refuses : Refusal → Type 0
  Refuses refusal = (step_of card call input (seen lent) (length out)).reply.outcome ≡ Err refusal

  -- "Refusals give a number and no value": one of the call's numbers, the record and the line bytes that are named for it, and everything
  -- lent as it was
  pub record ByNumber (refusal : Refusal) : Type 0 where
    pub number : among (number_of refusal) (numbers call) ≡ true
    pub next : (step_of card call input (seen lent) (length out)).card ≡ named call (number_of refusal) card
    pub sent : (step_of card call input (seen lent) (length out)).reply.sent ≡ sent_beside call (number_of refusal) card
    pub lent_kept : lent_after card call input lent ≡ lent
    pub output_kept : output_of card call lent out ≡ out

-- what no refusal changes
pub record Keeps (card next : Card) : Type 0 where
  pub registers : next.registers ≡ card.registers
  pub lock : next.lock ≡ card.lock
  pub mode : next.mode ≡ card.mode
  pub address : next.link.address ≡ card.link.address
  pub length : next.link.length ≡ card.link.length
  pub tags : next.link.tags ≡ card.link.tags
