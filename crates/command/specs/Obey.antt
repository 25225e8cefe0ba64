-- Document 01, "How a card takes a frame" and "Reading, writing, erasing, locking": what a command does to a card, whatever mode it came in.
-- Assumes nothing.
use Rattle.std.specs.Prelude.{Bool, true, false, not, ◌||◌, [], ◌∷◌, ℕ, ◌/◌, ◌%◌, eqb, Option, Some, None}
use Rattle.base.specs.Choice.{pick, unless}
use Rattle.base.specs.Sizes.{protection_group_size}
use Rattle.moves.specs.Classes.{class_of, class_number}
use Rattle.moves.specs.Indices.{among}
use Rattle.card_record.specs.Power.{fresh_link}
use Rattle.card_record.specs.Record.{size_of, length_read, with_tags}
use Rattle.card_record.specs.declared.Link.{Link}
use Rattle.states.specs.declared.Column.{Column}
use Rattle.states.specs.declared.Column.TheVariants.{Idle as ToIdle, Ready as ToReady, Ident as ToIdent, Stby as ToStby, Tran as ToTran, Data as ToData, Rcv as ToRcv, Prg as ToPrg, Dis as ToDis, Ina as ToIna}
use Rattle.states.specs.declared.Incoming.TheVariants.{One as OneIn, Many as ManyIn, LockRequest}
use Rattle.states.specs.declared.Outgoing.TheVariants.{One as OneOut, Many as ManyOut, Protection, Csd, Cid}
use Rattle.states.specs.declared.State.{State}
use Rattle.states.specs.declared.State.TheVariants.{Idle, Ready, Ident, Stby, Tran, Data, Rcv, Prg, Dis, Ina}
use Rattle.status.specs.ErrorBits.{error_bit}
use Rattle.status.specs.Status.{no_errors, with_bit}
use Rattle.status.specs.declared.Errors.{Errors}
use Rattle.tags.specs.Tagging.{no_tags, any_of, is_complete, tag_failed, start_tagged, end_tagged}
use Rattle.tags.specs.declared.Kind.TheVariants.{Sectors, Groups}
use Rattle.tags.specs.declared.Tagging.{Tagging}
use Rattle.tags.specs.declared.Tags.{Tags}
use Rattle.command.specs.Arguments.{argument_fault}
use Rattle.command.specs.declared.Acted.{Acted}
use Rattle.command.specs.declared.Change.{Change}
use Rattle.command.specs.declared.Change.TheVariants.{Nothing, Protect, Erase}
use Rattle.command.specs.declared.Met.{Met}
use Rattle.status.specs.declared.ErrorBit.{ErrorBit}

-- "Any other taken command but CMD0 and CMD13 drops existing tags and sets bit 13": other than 32, 33, 35, 36 and 38
abbrev pub drops_tags : ℕ → Bool
drops_tags index = not (among index (0 ∷ 13 ∷ 32 ∷ 33 ∷ 35 ∷ 36 ∷ 38 ∷ []))

-- 5: "Locked: only class 0 and CMD42 go on". Document 02, request 4: "Check 5 reads from now on: class 0, CMD16 and CMD42"
abbrev pub passes_lock : Bool → ℕ → Bool
passes_lock locked index = not locked || (eqb (class_number (class_of index)) 0 || among index (16 ∷ 42 ∷ []))

-- a command that leaves these tags and finds no error in its argument
abbrev pub leaving : Tags → Tagging
leaving tags = record { tags = tags; error = None }

-- "CMD38 needs both (28) .. drops tags"
abbrev pub erase_tagging : Tags → Tagging
erase_tagging tags = unless (is_complete tags) (tag_failed (error_bit 28)) (leaving no_tags)

-- the tags that a command leaves, with the error in its argument: "CMD32, 35 tag a start; 33, 36 an end", CMD38 erases, CMD13 keeps tags,
-- and any other command drops them, with an error or without
unfoldable pub tagging_of : Link → ℕ → ℕ → ℕ → Tagging
tagging_of link size index argument =
    pick (among index (13 ∷ [])) (leaving link.tags)
    (pick (among index (32 ∷ [])) (start_tagged Sectors argument size)
    (pick (among index (33 ∷ [])) (end_tagged link.tags Sectors argument size)
    (pick (among index (35 ∷ [])) (start_tagged Groups argument size)
    (pick (among index (36 ∷ [])) (end_tagged link.tags Groups argument size)
    (pick (among index (38 ∷ [])) (erase_tagging link.tags)
    (record { tags = no_tags; error = argument_fault index argument (length_read link.length) size }))))))

-- checks 5 and 6, in this order: "others answer R1 with bit 24, no move". Tags go there too, in 32 to 38 as in the others
unfoldable pub judged_of : Link → ℕ → Bool → ℕ → ℕ → Tagging
judged_of link groups locked index argument =
    unless (passes_lock locked index) (tag_failed (error_bit 24)) (tagging_of link (size_of groups) index argument)

-- the pending error bits, with 13 where the command "drops existing tags and sets bit 13"
unfoldable pub reset_told : Link → ℕ → Errors
reset_told link index =
    unless (drops_tags index) link.errors (unless (any_of link.tags) link.errors (with_bit link.errors (error_bit 13)))

-- the state that a column of the table stands for: "Data states carry what they wait for", so there it is the one that carries the work
abbrev pub state_at : Column → State → State
state_at ToIdle work = Idle
state_at ToReady work = Ready
state_at ToIdent work = Ident
state_at ToStby work = Stby
state_at ToTran work = Tran
state_at ToData work = work
state_at ToRcv work = work
state_at ToPrg work = Prg
state_at ToDis work = Dis
state_at ToIna work = Ina

-- what a command begins: CMD17 reads one block, 18 many, 30 the protection bits of the addressed group and those behind it; 24 writes one,
-- 25 many; 42 takes a lock request. "CMD9 and 10 send the register as a block" where their table leads to data (document 02, request 1).
-- Any other command leaves the work as it is
unfoldable pub awaited_by : ℕ → ℕ → State → State
awaited_by index argument state =
    pick (among index (17 ∷ [])) (Data (OneOut argument))
    (pick (among index (18 ∷ [])) (Data (ManyOut argument))
    (pick (among index (24 ∷ [])) (Rcv (OneIn argument))
    (pick (among index (25 ∷ [])) (Rcv (ManyIn argument))
    (pick (among index (30 ∷ [])) (Data (Protection (argument / protection_group_size)))
    (pick (among index (42 ∷ [])) (Rcv LockRequest)
    (pick (among index (9 ∷ [])) (Data Csd) (pick (among index (10 ∷ [])) (Data Cid) state)))))))

-- 3: "address taken"
abbrev pub address_after : ℕ → ℕ → ℕ → ℕ
address_after index argument address = pick (eqb index 3) (argument / 65536) address

-- "CMD16: length 1 to 2,048"
abbrev pub length_after : ℕ → ℕ → ℕ → ℕ
length_after index argument length = pick (eqb index 16) (argument % 65536) length

-- the link after a command without an error, which the table leads to a column: its error bits are the answer's business
unfoldable pub obeyed : Link → ℕ → ℕ → Column → Tags → Link
obeyed link index argument column tags =
    record {
      state = state_at column (awaited_by index argument link.state);
      address = address_after index argument link.address;
      length = length_after index argument link.length;
      errors = link.errors;
      tags = tags;
    }

-- "CMD28, 29: set, clear the addressed group"; "CMD38 .. fills every tagged sector outside protection"
unfoldable pub change_of : ℕ → ℕ → Change
change_of index argument =
    pick (among index (28 ∷ [])) (Protect (argument / protection_group_size) true)
    (pick (among index (29 ∷ [])) (Protect (argument / protection_group_size) false)
    (pick (among index (38 ∷ [])) Erase Nothing))

-- "CMD0 .. does the same" as power-on "but keeps the lock flag": no error bit is left
abbrev pub gone_idle : Acted
gone_idle = record { link = fresh_link; errors = no_errors; change = Nothing }

-- after checks 5 and 6. With an error: "the bit, no move"; without: the command is obeyed
unfoldable pub after_checks : Link → ℕ → ℕ → Column → Tags → Option ErrorBit → Acted
after_checks link index argument column tags None =
    record { link = obeyed link index argument column tags; errors = reset_told link index; change = change_of index argument }
after_checks link index argument column tags (Some bit) =
    record { link = with_tags link tags; errors = with_bit (reset_told link index) bit; change = Nothing }

-- what a taken command does at a card, which the table leads to a column. `errors` are "pending bits and those its command sets at once", of
-- which an answer reports and clears as its mode has it: the link keeps the error bits that it had
unfoldable pub acted_of : Link → Met → ℕ → ℕ → Column → Acted
acted_of link met index argument column =
    pick (eqb index 0) gone_idle
    (after_checks link index argument column (judged_of link met.groups met.locked index argument).tags
    (judged_of link met.groups met.locked index argument).error)
