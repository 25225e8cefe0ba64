-- Links that are made, where no command's meaning matters.
--   fresh_made       after power-on and CMD0
--   damaged_made     after a frame whose CRC7 is wrong, in MMC mode
--   errors_made      with other error bits that can wait
--   length_as        a block length that CMD16 could have set is read as it stands
--   at_waits         the state that a column stands for waits for nothing, or for the work
--   told_pending     the pending error bits with 13, where the command drops tags, in MMC mode
--   left_pending     the error bits that MMC mode's answer leaves
-- Assumes nothing.
use mathlib.Core.Path.{◌≡◌, refl}
use mathlib.Core.Bool.{Bool, false}
use Prim.Native.Nat.{ℕ, ◌≤◌}
use native.Mathlib.Omega.{arith}
use borrow.Author.Tests.{le-leb}
use lib.Dec.{eqb}
use Rattle.base.proofs.Cases.{picked, guarded, never}
use Rattle.command.specs.Answers.{left_of}
use Rattle.command.specs.Command.{damaged_link}
use Rattle.command.specs.Obey.{drops_tags, reset_told, state_at}
use Rattle.command.specs.declared.Response.{Response}
use Rattle.command.specs.declared.Response.TheVariants.{Nothing, R1, R2, R3}
use Rattle.card_record.specs.Power.{fresh_link}
use Rattle.card_record.specs.Record.{length_read, with_errors}
use Rattle.card_record.specs.declared.Link.{Link}
use Rattle.states.specs.States.{column_of, column_number}
use Rattle.states.specs.declared.Column.{Column}
use Rattle.states.specs.declared.Column.TheVariants.{Idle, Ready, Ident, Stby, Tran, Data, Rcv, Prg, Dis, Ina}
use Rattle.states.specs.declared.State.{State}
use Rattle.status.specs.ErrorBits.{error_bit}
use Rattle.status.specs.Status.{with_bit}
use Rattle.status.specs.declared.Errors.{Errors}
use Rattle.tags.specs.Tagging.{any_of}
use Rattle.wire.specs.Blocks.{longest_block}
use Rattle.made.proofs.Pending.{none_pending, set_pending, taken_pending}
use Rattle.made.specs.Made.{Waits, Pending, MadeLink}

pub fresh_made : (spi : Bool) (groups : ℕ) (locked : Bool) → MadeLink spi groups locked fresh_link
unfolding fresh_link
fresh_made spi groups locked =
    record { address = omega arith; block = (omega arith, omega arith); tags = tt; tagged = λ e. never e; work = tt; errors = none_pending spi }

pub errors_made : (spi : Bool) (groups : ℕ) (locked : Bool) (link : Link) (errors : Errors) → MadeLink spi groups locked link → Pending spi errors
    → MadeLink spi groups locked (with_errors link errors)
errors_made spi groups locked link errors made pending =
    record { address = made.address; block = made.block; tags = made.tags; tagged = made.tagged; work = made.work; errors = pending }

pub damaged_made : (groups : ℕ) (locked : Bool) (link : Link) → MadeLink false groups locked link → MadeLink false groups locked (damaged_link link)
unfolding damaged_link
damaged_made groups locked link made =
    picked (MadeLink false groups locked) (eqb (column_number (column_of link.state)) 9) (λ t. made)
    (λ t. errors_made false groups locked link (with_bit link.errors (error_bit 23)) made (set_pending false link.errors (error_bit 23) refl made.errors))

pub length_as : (length : ℕ) → (1 ≤ length) × (length ≤ longest_block) → length_read length ≡ length
length_as length set = simp (le-leb 1 length set.0, le-leb length longest_block set.1)

pub at_waits : (groups length : ℕ) (locked : Bool) (column : Column) (work : State) → Waits groups length locked work → Waits groups length locked (state_at column work)
at_waits groups length locked Idle work w = tt
at_waits groups length locked Ready work w = tt
at_waits groups length locked Ident work w = tt
at_waits groups length locked Stby work w = tt
at_waits groups length locked Tran work w = tt
at_waits groups length locked Data work w = w
at_waits groups length locked Rcv work w = w
at_waits groups length locked Prg work w = tt
at_waits groups length locked Dis work w = tt
at_waits groups length locked Ina work w = tt

pub told_pending : (link : Link) (index : ℕ) → Pending false link.errors → Pending false (reset_told link index)
unfolding reset_told
told_pending link index pending =
    guarded (Pending false) (drops_tags index) (λ t. pending)
    (λ t. guarded (Pending false) (any_of link.tags) (λ u. pending) (λ u. set_pending false link.errors (error_bit 13) refl pending))

pub left_pending : (response : Response) (errors : Errors) → Pending false errors → Pending false (left_of response errors)
left_pending Nothing errors h = taken_pending false errors h
left_pending R1 errors h = none_pending false
left_pending R2 errors h = taken_pending false errors h
left_pending R3 errors h = taken_pending false errors h
