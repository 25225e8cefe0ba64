-- A card's record as C holds it: thirteen numbers, and the 16 bytes each of the CID, the CSD and the password. The record that any numbers
-- and bytes stand for, and the numbers of a record, each by its four parts: the link's eight numbers, the mode's one, the lock's two and the
-- registers' two. That nothing is lost between the two is the theorem of proofs/Crossing.antt.
-- Assumes nothing.
use Rattle.std.specs.Prelude.{Bool, not, List, [], ◌∷◌, ◌++◌, ℕ, ◌+◌, ◌*◌, ◌/◌, ◌%◌, ◌<◌, eqb, get_or}
use Rattle.base.specs.Choice.{pick}
use Rattle.card_record.specs.declared.Card.{Card}
use Rattle.card_record.specs.declared.Link.{Link}
use Rattle.card_record.specs.declared.Mode.{Mode}
use Rattle.card_record.specs.declared.Registers.{Registers}
use Rattle.lock.specs.declared.Lock.{Lock}
use Rattle.states.specs.declared.Incoming.{Incoming}
use Rattle.states.specs.declared.Incoming.TheVariants.{One as OneIn, Many as ManyIn, LockRequest}
use Rattle.states.specs.declared.Outgoing.{Outgoing}
use Rattle.states.specs.declared.Outgoing.TheVariants.{One, Many, Protection, Csd, Cid}
use Rattle.states.specs.declared.State.{State}
use Rattle.states.specs.declared.State.TheVariants.{Idle, Ready, Ident, Stby, Tran, Data, Rcv, Prg, Dis, Ina}
use Rattle.status.specs.Status.{flag}
use Rattle.tags.specs.Tagging.{tags_of, first_of}
use Rattle.tags.specs.declared.Kind.{Kind}
use Rattle.tags.specs.declared.Kind.TheVariants.{Sectors, Groups}
use Rattle.tags.specs.declared.Range.{Range}
use Rattle.tags.specs.declared.Range.TheVariants.{Nothing, Start, Full}
use Rattle.tags.specs.declared.Tags.{Tags}

-- ---- from numbers to a record
-- the state of a number, with the place that it carries; 13 and every number that is not here is Inactive
unfoldable pub state_of : ℕ → ℕ → State
state_of number at =
    pick (eqb number 0) Idle
    (pick (eqb number 1) Ready
    (pick (eqb number 2) Ident
    (pick (eqb number 3) Stby
    (pick (eqb number 4) Tran
    (pick (eqb number 5) (Data (One at))
    (pick (eqb number 6) (Data (Many at))
    (pick (eqb number 7) (Data (Protection at))
    (pick (eqb number 8) (Rcv (OneIn at))
    (pick (eqb number 9) (Rcv (ManyIn at))
    (pick (eqb number 10) (Rcv LockRequest)
    (pick (eqb number 11) Prg
    (pick (eqb number 12) Dis (pick (eqb number 14) (Data Csd) (pick (eqb number 15) (Data Cid) Ina))))))))))))))

-- the tags of a number and two places; 0 and every number above 4 is none
unfoldable pub tags_by : ℕ → ℕ → ℕ → Tags
tags_by number first last =
    tags_of
    (pick (eqb number 1) (Start Sectors first)
    (pick (eqb number 2) (Start Groups first)
    (pick (eqb number 3) (Full Sectors first last) (pick (eqb number 4) (Full Groups first last) Nothing))))

-- the size of the memory, in protection groups
abbrev pub groups_of : List ℕ → ℕ
groups_of numbers = get_or numbers 11 0 % 65536

-- every number but 0 is locked
abbrev pub locked_of : List ℕ → Bool
locked_of numbers = not (eqb (get_or numbers 9 0) 0)

-- the four parts of a record, each of its own numbers: of a number that is wider than its field the low bits count
unfoldable pub link_of : List ℕ → Link
link_of numbers =
    record {
      state = state_of (get_or numbers 0 0) (get_or numbers 1 0);
      address = get_or numbers 2 0 % 65536;
      length = get_or numbers 3 0 % 65536;
      errors = record { bits = get_or numbers 4 0 };
      tags = tags_by (get_or numbers 5 0) (get_or numbers 6 0) (get_or numbers 7 0);
    }

-- bit 0 says that the card is in SPI, bit 8 that it checks CRCs there
unfoldable pub mode_of : List ℕ → Mode
mode_of numbers = record { spi = eqb (get_or numbers 8 0 % 2) 1; checks = eqb (get_or numbers 8 0 / 256 % 2) 1 }

unfoldable pub lock_of : List ℕ → List ℕ → Lock
lock_of numbers password = record { password = password; length = get_or numbers 10 0 % 256; locked = locked_of numbers }

unfoldable pub registers_of : List ℕ → List ℕ → List ℕ → Registers
registers_of numbers cid csd = record { cid = cid; csd = csd; ocr = get_or numbers 12 0; groups = groups_of numbers }

-- the record of thirteen numbers, a CID, a CSD and a password
unfoldable pub card_of : List ℕ → List ℕ → List ℕ → List ℕ → Card
card_of numbers cid csd password =
    record { registers = registers_of numbers cid csd; lock = lock_of numbers password; link = link_of numbers; mode = mode_of numbers }

-- ---- from a record to numbers
abbrev pub outgoing_number : Outgoing → ℕ
outgoing_number (One at) = 5
outgoing_number (Many at) = 6
outgoing_number (Protection group) = 7
outgoing_number Csd = 14
outgoing_number Cid = 15

abbrev pub incoming_number : Incoming → ℕ
incoming_number (OneIn at) = 8
incoming_number (ManyIn at) = 9
incoming_number LockRequest = 10

abbrev pub state_number : State → ℕ
state_number Idle = 0
state_number Ready = 1
state_number Ident = 2
state_number Stby = 3
state_number Tran = 4
state_number (Data outgoing) = outgoing_number outgoing
state_number (Rcv incoming) = incoming_number incoming
state_number Prg = 11
state_number Dis = 12
state_number Ina = 13

-- the place that a state carries: an address, or a protection group; 0 where it carries none
abbrev pub outgoing_at : Outgoing → ℕ
outgoing_at (One at) = at
outgoing_at (Many at) = at
outgoing_at (Protection group) = group
outgoing_at Csd = 0
outgoing_at Cid = 0

abbrev pub incoming_at : Incoming → ℕ
incoming_at (OneIn at) = at
incoming_at (ManyIn at) = at
incoming_at LockRequest = 0

abbrev pub place_carried : State → ℕ
place_carried Idle = 0
place_carried Ready = 0
place_carried Ident = 0
place_carried Stby = 0
place_carried Tran = 0
place_carried (Data outgoing) = outgoing_at outgoing
place_carried (Rcv incoming) = incoming_at incoming
place_carried Prg = 0
place_carried Dis = 0
place_carried Ina = 0

abbrev pub start_number : Kind → ℕ
start_number Sectors = 1
start_number Groups = 2

abbrev pub full_number : Kind → ℕ
full_number Sectors = 3
full_number Groups = 4

abbrev pub tags_number : Range → ℕ
tags_number Nothing = 0
tags_number (Start kind first) = start_number kind
tags_number (Full kind first last) = full_number kind

abbrev pub last_of : Range → ℕ
last_of Nothing = 0
last_of (Start kind first) = 0
last_of (Full kind first last) = last

-- the mode's number, by its two bits
abbrev pub mode_number : Mode → ℕ
mode_number mode = flag mode.spi + 256 * flag mode.checks

-- the numbers of each part, eight, one, two and two
unfoldable pub link_numbers : Link → List ℕ
link_numbers link =
    state_number link.state ∷ place_carried link.state ∷ link.address ∷ link.length ∷ link.errors.bits ∷ tags_number link.tags.range ∷
    first_of link.tags.range ∷ last_of link.tags.range ∷ []

unfoldable pub mode_numbers : Mode → List ℕ
mode_numbers mode = mode_number mode ∷ []

unfoldable pub lock_numbers : Lock → List ℕ
lock_numbers lock = flag lock.locked ∷ lock.length ∷ []

unfoldable pub register_numbers : Registers → List ℕ
register_numbers registers = registers.groups ∷ registers.ocr ∷ []

-- the thirteen numbers of a record, in the order in which mmc.h names them
unfoldable pub numbers_of : Card → List ℕ
numbers_of card = link_numbers card.link ++ mode_numbers card.mode ++ lock_numbers card.lock ++ register_numbers card.registers

-- a record whose numbers are within the widths of their fields, 16 and 8 bits: every value of the type is. The other numbers have the 32 bits
-- of the numbers that C holds
pub record LinkWithin (link : Link) : Type 0 where
  pub address : link.address < 65536
  pub length : link.length < 65536

pub record Within (card : Card) : Type 0 where
  pub link : LinkWithin card.link
  pub password_length : card.lock.length < 256
  pub groups : card.registers.groups < 65536
