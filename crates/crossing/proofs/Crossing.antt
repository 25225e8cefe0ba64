-- Nothing is lost where a record crosses to C and comes back.
--   crossing                         a record told in numbers and bytes, and taken in again, is that record, in every field
--   link_crosses, mode_crosses, lock_crosses       so is a link, a mode behind it, and a lock behind both, whatever numbers follow
--   link_before_mode, link_before_lock             and a link before a mode, and before a mode and a lock
--   mode_before_lock                               and a mode before a lock
--   mode_behind, lock_behind, registers_behind     the numbers of parts that are told one after the other
--   nine, eleven                                   how many numbers the link and the mode have, and these with the lock
--   link_told, link_and_lock_told                  numbers of which only these parts are told stand for the record with these parts changed
--   link_errors, errors_told                       numbers of which the error bits' alone is told stand for the record with these
--   own_password                                   the password of the record that numbers and bytes stand for is those bytes
-- Assumes nothing.
use mathlib.Core.Path.{◌≡◌, refl, ◌∙◌}
use mathlib.Core.Bool.{Bool, true, false, not}
use mathlib.Core.List.{List, ◌++◌}
use Prim.Native.Nat.{ℕ, ◌+◌, ◌*◌, ◌/◌, ◌%◌, ◌<◌}
use native.Mathlib.Nat.{mod-eq_of_lt}
use native.Mathlib.Omega.{arith}
use lib.Dec.{eqb}
use lib.ListN.{length, take, drop, set, drop_of_length-le}
use lib.Seq.{get_or-drop, get_or-set_same, get_or-set_other, drop-drop}
use Rattle.card_record.specs.Record.{with_errors, with_link, with_lock, with_mode}
use Rattle.card_record.specs.declared.Card.{Card}
use Rattle.card_record.specs.declared.Link.{Link}
use Rattle.card_record.specs.declared.Mode.{Mode}
use Rattle.lock.specs.declared.Lock.{Lock}
use Rattle.states.specs.declared.Incoming.TheVariants.{One as OneIn, Many as ManyIn, LockRequest}
use Rattle.states.specs.declared.Outgoing.TheVariants.{One, Many, Protection, Csd, Cid}
use Rattle.states.specs.declared.State.{State}
use Rattle.states.specs.declared.State.TheVariants.{Idle, Ready, Ident, Stby, Tran, Data, Rcv, Prg, Dis, Ina}
use Rattle.status.specs.Status.{flag}
use Rattle.status.specs.declared.Errors.{Errors}
use Rattle.tags.specs.Tagging.{tags_of, first_of}
use Rattle.tags.specs.declared.Kind.TheVariants.{Sectors, Groups}
use Rattle.tags.specs.declared.Range.{Range}
use Rattle.tags.specs.declared.Range.TheVariants.{Nothing, Start, Full}
use Rattle.crossing.specs.Record.{state_of, tags_by, link_of, mode_of, lock_of, registers_of, card_of, state_number, place_carried, tags_number, last_of, link_numbers, mode_numbers, lock_numbers, register_numbers, numbers_of, LinkWithin, Within}

state_crosses : (state : State) → state_of (state_number state) (place_carried state) ≡ state
unfolding state_of
state_crosses Idle = refl
state_crosses Ready = refl
state_crosses Ident = refl
state_crosses Stby = refl
state_crosses Tran = refl
state_crosses (Data (One at)) = refl
state_crosses (Data (Many at)) = refl
state_crosses (Data (Protection group)) = refl
state_crosses (Data Csd) = refl
state_crosses (Data Cid) = refl
state_crosses (Rcv (OneIn at)) = refl
state_crosses (Rcv (ManyIn at)) = refl
state_crosses (Rcv LockRequest) = refl
state_crosses Prg = refl
state_crosses Dis = refl
state_crosses Ina = refl

tags_cross : (range : Range) → tags_by (tags_number range) (first_of range) (last_of range) ≡ tags_of range
unfolding tags_by
tags_cross Nothing = refl
tags_cross (Start Sectors first) = refl
tags_cross (Start Groups first) = refl
tags_cross (Full Sectors first last) = refl
tags_cross (Full Groups first last) = refl

flag_crosses : (is : Bool) → not (eqb (flag is) 0) ≡ is
flag_crosses true = refl
flag_crosses false = refl

-- any mode crosses, also the one that checks CRCs and is not in SPI
spi_crosses : (spi checks : Bool) → eqb ((flag spi + 256 * flag checks) % 2) 1 ≡ spi
spi_crosses true true = refl
spi_crosses true false = refl
spi_crosses false true = refl
spi_crosses false false = refl

checks_cross : (spi checks : Bool) → eqb ((flag spi + 256 * flag checks) / 256 % 2) 1 ≡ checks
checks_cross true true = refl
checks_cross true false = refl
checks_cross false true = refl
checks_cross false false = refl

-- a link told in numbers stands for itself, whatever stands behind its eight numbers
pub link_crosses : (link : Link) (rest : List ℕ) → LinkWithin link → link_of (link_numbers link ++ rest) ≡ link
unfolding link_of link_numbers
link_crosses link rest within =
    simp (state_crosses link.state, tags_cross link.tags.range, mod-eq_of_lt within.address, mod-eq_of_lt within.length)

pub link_before_mode : (link : Link) (mode : Mode) (rest : List ℕ) → LinkWithin link → link_of (link_numbers link ++ mode_numbers mode ++ rest) ≡ link
unfolding link_of link_numbers mode_numbers
link_before_mode link mode rest within = link_crosses link (mode_numbers mode ++ rest) within

pub link_before_lock : (link : Link) (mode : Mode) (lock : Lock) (rest : List ℕ) → LinkWithin link
    → link_of (link_numbers link ++ mode_numbers mode ++ lock_numbers lock ++ rest) ≡ link
unfolding link_of link_numbers mode_numbers lock_numbers
link_before_lock link mode lock rest within = link_crosses link (mode_numbers mode ++ lock_numbers lock ++ rest) within

-- and so does a mode, behind a link
pub mode_crosses : (link : Link) (mode : Mode) (rest : List ℕ) → mode_of (link_numbers link ++ mode_numbers mode ++ rest) ≡ mode
unfolding mode_of link_numbers mode_numbers
mode_crosses link mode rest = simp (spi_crosses mode.spi mode.checks, checks_cross mode.spi mode.checks)

pub mode_before_lock : (link : Link) (mode : Mode) (lock : Lock) (rest : List ℕ)
    → mode_of (link_numbers link ++ mode_numbers mode ++ lock_numbers lock ++ rest) ≡ mode
unfolding mode_of link_numbers mode_numbers lock_numbers
mode_before_lock link mode lock rest = simp (spi_crosses mode.spi mode.checks, checks_cross mode.spi mode.checks)

-- and a lock, behind a link and a mode
pub lock_crosses : (link : Link) (mode : Mode) (lock : Lock) (rest : List ℕ) → lock.length < 256
    → lock_of (link_numbers link ++ mode_numbers mode ++ lock_numbers lock ++ rest) lock.password ≡ lock
unfolding lock_of link_numbers mode_numbers lock_numbers
lock_crosses link mode lock rest within = simp (flag_crosses lock.locked, mod-eq_of_lt within)

pub crossing : (card : Card) → Within card
    → card_of (numbers_of card) card.registers.cid card.registers.csd card.lock.password ≡ card
unfolding card_of numbers_of link_of mode_of lock_of registers_of link_numbers mode_numbers lock_numbers register_numbers
crossing card within =
    simp (
      state_crosses card.link.state,
      tags_cross card.link.tags.range,
      spi_crosses card.mode.spi card.mode.checks,
      checks_cross card.mode.spi card.mode.checks,
      flag_crosses card.lock.locked,
      mod-eq_of_lt within.link.address,
      mod-eq_of_lt within.link.length,
      mod-eq_of_lt within.password_length,
      mod-eq_of_lt within.groups,
    )

-- ---- parts told one after the other
pub mode_behind : (link : Link) (mode : Mode) (numbers first both : List ℕ) → first ≡ link_numbers link ++ drop 8 numbers
    → both ≡ take 8 first ++ mode_numbers mode ++ drop 9 first → both ≡ link_numbers link ++ mode_numbers mode ++ drop 9 numbers
unfolding link_numbers mode_numbers
mode_behind link mode numbers first both e1 e2 = e2 ∙ simp (e1, drop-drop 1 8 numbers)

pub lock_behind : (link : Link) (mode : Mode) (lock : Lock) (numbers both three : List ℕ)
    → both ≡ link_numbers link ++ mode_numbers mode ++ drop 9 numbers → three ≡ take 9 both ++ lock_numbers lock ++ drop 11 both
    → three ≡ link_numbers link ++ mode_numbers mode ++ lock_numbers lock ++ drop 11 numbers
unfolding link_numbers mode_numbers lock_numbers
lock_behind link mode lock numbers both three e1 e2 = e2 ∙ simp (e1, drop-drop 2 9 numbers)

pub registers_behind : (card : Card) (numbers three all : List ℕ) → length numbers ≡ 13
    → three ≡ link_numbers card.link ++ mode_numbers card.mode ++ lock_numbers card.lock ++ drop 11 numbers
    → all ≡ take 11 three ++ register_numbers card.registers ++ drop 13 three → all ≡ numbers_of card
unfolding numbers_of link_numbers mode_numbers lock_numbers register_numbers
registers_behind card numbers three all long e1 e2 =
    e2 ∙ simp (e1, drop-drop 2 11 numbers, drop_of_length-le numbers {i = 13} (omega (arith, long)))

pub nine : (link : Link) (mode : Mode) → length (link_numbers link ++ mode_numbers mode) ≡ 9
unfolding link_numbers mode_numbers
nine link mode = refl

pub eleven : (link : Link) (mode : Mode) (lock : Lock) → length (link_numbers link ++ mode_numbers mode ++ lock_numbers lock) ≡ 11
unfolding link_numbers mode_numbers lock_numbers
eleven link mode lock = refl

pub link_told : (link : Link) (mode : Mode) (numbers cid csd password : List ℕ)
    → link_of (link_numbers link ++ mode_numbers mode ++ drop 9 numbers) ≡ link → mode_of (link_numbers link ++ mode_numbers mode ++ drop 9 numbers) ≡ mode
    → card_of (link_numbers link ++ mode_numbers mode ++ drop 9 numbers) cid csd password
    ≡ with_mode (with_link (card_of numbers cid csd password) link) mode
unfolding card_of lock_of registers_of link_numbers mode_numbers
link_told link mode numbers cid csd password link_stands mode_stands =
    simp (get_or-drop 9 numbers 0 0, get_or-drop 9 numbers 1 0, get_or-drop 9 numbers 2 0, get_or-drop 9 numbers 3 0, link_stands, mode_stands)

pub link_and_lock_told : (link : Link) (mode : Mode) (lock : Lock) (numbers cid csd password : List ℕ)
    → link_of (link_numbers link ++ mode_numbers mode ++ lock_numbers lock ++ drop 11 numbers) ≡ link
    → mode_of (link_numbers link ++ mode_numbers mode ++ lock_numbers lock ++ drop 11 numbers) ≡ mode
    → lock_of (link_numbers link ++ mode_numbers mode ++ lock_numbers lock ++ drop 11 numbers) lock.password ≡ lock
    → card_of (link_numbers link ++ mode_numbers mode ++ lock_numbers lock ++ drop 11 numbers) cid csd lock.password
    ≡ with_mode (with_link (with_lock (card_of numbers cid csd password) lock) link) mode
unfolding card_of registers_of link_numbers mode_numbers lock_numbers
link_and_lock_told link mode lock numbers cid csd password link_stands mode_stands lock_stands =
    simp (get_or-drop 11 numbers 0 0, get_or-drop 11 numbers 1 0, link_stands, mode_stands, lock_stands)

pub own_password : (numbers cid csd password : List ℕ) → (card_of numbers cid csd password).lock.password ≡ password
unfolding card_of lock_of
own_password numbers cid csd password = refl

-- the number of the error bits told in its place: the link has these, and the rest of the card is as it was
module _ (numbers : List ℕ) (errors : Errors) where
  pub link_errors : 4 < length numbers → link_of (set numbers 4 errors.bits) ≡ with_errors (link_of numbers) errors
  unfolding link_of
  link_errors long =
      simp (
        get_or-set_same numbers 4 errors.bits 0 long,
        get_or-set_other numbers 4 0 errors.bits 0 (λ e. omega arith),
        get_or-set_other numbers 4 1 errors.bits 0 (λ e. omega arith),
        get_or-set_other numbers 4 2 errors.bits 0 (λ e. omega arith),
        get_or-set_other numbers 4 3 errors.bits 0 (λ e. omega arith),
        get_or-set_other numbers 4 5 errors.bits 0 (λ e. omega arith),
        get_or-set_other numbers 4 6 errors.bits 0 (λ e. omega arith),
        get_or-set_other numbers 4 7 errors.bits 0 (λ e. omega arith),
      )

  pub errors_told : (cid csd password : List ℕ) → link_of (set numbers 4 errors.bits) ≡ with_errors (link_of numbers) errors
      → card_of (set numbers 4 errors.bits) cid csd password ≡ with_link (card_of numbers cid csd password) (with_errors (link_of numbers) errors)
  unfolding card_of mode_of lock_of registers_of
  errors_told cid csd password stands =
      simp (
        stands,
        get_or-set_other numbers 4 8 errors.bits 0 (λ e. omega arith),
        get_or-set_other numbers 4 9 errors.bits 0 (λ e. omega arith),
        get_or-set_other numbers 4 10 errors.bits 0 (λ e. omega arith),
        get_or-set_other numbers 4 11 errors.bits 0 (λ e. omega arith),
        get_or-set_other numbers 4 12 errors.bits 0 (λ e. omega arith),
      )
