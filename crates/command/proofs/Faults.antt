-- Which commands checks 5 and 6 can find an error in.
--   faultless      the commands that never have one
--   no_fault       they have none, locked or not
--   judged_drops   a command with an error drops the tags
--   row_judging    every other command falls in one of a few rows of the table
--   answers_r1     those are answered by R1 wherever the table has a move for them: one test of the whole table
--   faulty, fault_by_r1    so a command with an error is none of the faultless, and is answered by R1 where it is taken
-- Assumes nothing.
use mathlib.Core.Path.{◌≡◌, refl, subst}
use mathlib.Core.Bool.{Bool, true, false, not, ◌||◌}
use mathlib.Core.List.{List, [], ◌∷◌}
use Prim.Native.Nat.{ℕ}
use lib.Dec.{T}
use Rattle.base.proofs.Cases.{cases, picked, guarded, clash, opposite}
use Rattle.base.specs.Choice.{pick}
use Rattle.command.specs.Answers.{response_of}
use Rattle.command.specs.Arguments.{argument_fault}
use Rattle.command.specs.Command.{received_of}
use Rattle.command.specs.Obey.{passes_lock, erase_tagging, tagging_of, judged_of}
use Rattle.command.specs.declared.Met.{Met}
use Rattle.command.specs.declared.Response.{Response}
use Rattle.command.specs.declared.Response.TheVariants as response
use Rattle.moves.proofs.Among.{All, each}
use Rattle.moves.proofs.Orders.{everywhere}
use Rattle.moves.specs.Classes.{class_of}
use Rattle.moves.specs.Indices.{among}
use Rattle.moves.specs.Moves.{in_row, move_of}
use Rattle.moves.specs.Rows.{own, transfer_row, row_of}
use Rattle.moves.specs.declared.Received.{Received}
use Rattle.moves.specs.declared.Move.{Move}
use Rattle.moves.specs.declared.Move.TheVariants.{Ignored, Silent, Illegal, To}
use Rattle.moves.specs.declared.Row.{Row}
use Rattle.moves.specs.declared.Row.TheVariants.{SetRelativeAddr, StopTransmission, SendStatus, SetOrTag, Read, Write, Program, OtherAddress, Unsupported}
use Rattle.card_record.specs.Record.{size_of}
use Rattle.card_record.specs.declared.Link.{Link}
use Rattle.states.specs.States.{column_of}
use Rattle.states.specs.declared.Column.{Column}
use Rattle.status.specs.declared.ErrorBit.{ErrorBit}
use Rattle.tags.proofs.TagTheorems.{Drops, start_error_drops, end_error_drops}
use Rattle.tags.specs.Tagging.{is_complete}
use Rattle.tags.specs.declared.Kind.TheVariants.{Sectors, Groups}
use Rattle.tags.specs.declared.Tags.{Tags}
use Rattle.std.specs.Prelude.{Some, None}

-- the commands that have no error to show: class 0 but for CMD3, 12 and 13
abbrev pub faultless : List ℕ
faultless = 0 ∷ 1 ∷ 2 ∷ 4 ∷ 7 ∷ 9 ∷ 10 ∷ 15 ∷ []

class_0 : (locked : Bool) → not locked || true ≡ true
class_0 true = refl
class_0 false = refl

module _ (link : Link) (groups : ℕ) (locked : Bool) (argument : ℕ) where
  Without : ℕ → Type 0
  Without index = (judged_of link groups locked index argument).error ≡ None

  without : (index : ℕ) → passes_lock locked index ≡ true → (tagging_of link (size_of groups) index argument).error ≡ None → Without index
  unfolding judged_of Without
  without index passes none = rw passes none

  pub no_fault : (index : ℕ) → among index faultless ≡ true → (judged_of link groups locked index argument).error ≡ None
  unfolding Without tagging_of argument_fault class_of
  no_fault =
      each Without faultless (
        without 0 (class_0 locked) refl,
        (
          without 1 (class_0 locked) refl,
          (
            without 2 (class_0 locked) refl,
            (
              without 4 (class_0 locked) refl,
              (
                without 7 (class_0 locked) refl,
                (
                  without 9 (class_0 locked) refl,
                  (
                    without 10 (class_0 locked) refl,
                    (without 15 (class_0 locked) refl, tt),
                  ),
                ),
              ),
            ),
          ),
        ),
      )

-- CMD38's error drops tags, and so does its erase
erase_drops : (tags : Tags) → Drops (erase_tagging tags)
erase_drops tags = guarded Drops (is_complete tags) (λ t bit h. refl) (λ t bit h. refl)

-- what checks 5 and 6 stop drops the tags
pub judged_drops : (link : Link) (groups : ℕ) (locked : Bool) (index argument : ℕ) → Drops (judged_of link groups locked index argument)
unfolding judged_of tagging_of
judged_drops link groups locked index argument =
    guarded Drops (passes_lock locked index) (λ t bit e. refl)
    (λ t. picked Drops (among index (13 ∷ [])) (λ u bit e. clash cc)
    (λ u. picked Drops (among index (32 ∷ [])) (λ v. start_error_drops Sectors argument (size_of groups))
    (λ v. picked Drops (among index (33 ∷ [])) (λ w. end_error_drops link.tags Sectors argument (size_of groups))
    (λ w. picked Drops (among index (35 ∷ [])) (λ x. start_error_drops Groups argument (size_of groups))
    (λ x. picked Drops (among index (36 ∷ [])) (λ y. end_error_drops link.tags Groups argument (size_of groups))
    (λ y. picked Drops (among index (38 ∷ [])) (λ z. erase_drops link.tags) (λ z bit e. refl)))))))

-- the rows of the other commands
abbrev pub judging : List Row
judging = SetRelativeAddr ∷ StopTransmission ∷ SendStatus ∷ OtherAddress ∷ SetOrTag ∷ Read ∷ Write ∷ Program ∷ Unsupported ∷ []

abbrev pub Judging : Row → Type 0
Judging row = in_row row judging ≡ true

module _ (asked : Received) (others : among asked.index faultless ≡ false) where
  Listed : ℕ → Type 0
  Listed k = among k faultless ≡ true

  -- it is none of a list of such commands
  other_than : {P : Type 0} (ks : List ℕ) → All Listed ks → among asked.index ks ≡ true → P
  unfolding Listed
  other_than ks listed h = opposite (among asked.index faultless) (each Listed ks listed asked.index h) others

  transfer_judging : Judging (transfer_row asked.index)
  unfolding transfer_row
  transfer_judging =
      picked Judging (among asked.index (16 ∷ 32 ∷ 33 ∷ 35 ∷ 36 ∷ [])) (λ t. refl)
      (λ t. picked Judging (among asked.index (17 ∷ 18 ∷ 30 ∷ [])) (λ u. refl)
      (λ u. picked Judging (among asked.index (24 ∷ 25 ∷ 42 ∷ [])) (λ v. refl)
      (λ v. picked Judging (among asked.index (28 ∷ 29 ∷ 38 ∷ [])) (λ w. refl) (λ w. refl))))

  pub row_judging : Judging (row_of asked)
  unfolding row_of Listed
  row_judging =
      picked Judging (among asked.index (0 ∷ [])) (other_than (0 ∷ []) (refl, tt))
      (λ t0. picked Judging (among asked.index (1 ∷ [])) (other_than (1 ∷ []) (refl, tt))
      (λ t1. picked Judging (among asked.index (2 ∷ [])) (other_than (2 ∷ []) (refl, tt))
      (λ t2. picked Judging (among asked.index (3 ∷ [])) (λ t. refl)
      (λ t3. picked Judging (among asked.index (4 ∷ [])) (other_than (4 ∷ []) (refl, tt))
      (λ t4. picked Judging (among asked.index (7 ∷ [])) (other_than (7 ∷ []) (refl, tt))
      (λ t7. picked Judging (among asked.index (9 ∷ 10 ∷ [])) (other_than (9 ∷ 10 ∷ []) (refl, (refl, tt)))
      (λ t9. picked Judging (among asked.index (12 ∷ [])) (λ t. refl)
      (λ t12. picked Judging (among asked.index (13 ∷ [])) (λ t. picked Judging (own asked) (λ o. refl) (λ o. refl))
      (λ t13. picked Judging (among asked.index (15 ∷ [])) (other_than (15 ∷ []) (refl, tt)) (λ t15. transfer_judging))))))))))

-- such a row is answered by R1 wherever the table has a move for it: one test of the whole table
abbrev is_r1 : Response → Bool
is_r1 response.Nothing = false
is_r1 response.R1 = true
is_r1 response.R2 = false
is_r1 response.R3 = false

is_r1_lem : (r : Response) → T (is_r1 r) → r ≡ response.R1
is_r1_lem response.Nothing t = absurd t
is_r1_lem response.R1 t = refl
is_r1_lem response.R2 t = absurd t
is_r1_lem response.R3 t = absurd t

abbrev if_moved : Move → Bool → Bool
if_moved Ignored t = true
if_moved Silent t = true
if_moved Illegal t = true
if_moved (To column) t = t

abbrev answers : Row → Column → Bool
answers row column = pick (in_row row judging) (if_moved (move_of row column) (is_r1 (response_of row))) true

answers_everywhere : (row : Row) (column : Column) → T (answers row column)
unfolding move_of response_of
answers_everywhere = everywhere answers tt

pub answers_r1 : (row : Row) (column there : Column) → Judging row → move_of row column ≡ To there → response_of row ≡ response.R1
answers_r1 row column there listed e =
    let t : T (if_moved (move_of row column) (is_r1 (response_of row))) = rw listed at (answers_everywhere row column) in
    is_r1_lem (response_of row) (subst (λ (m : Move). T (if_moved m (is_r1 (response_of row)))) e t)

module _ (link : Link) (met : Met) (index argument : ℕ) (bit : ErrorBit)
    (faults : (judged_of link met.groups met.locked index argument).error ≡ Some bit) where
  pub faulty : among index faultless ≡ false
  faulty =
      cases (among index faultless)
      (λ (t : among index faultless ≡ true).
      let none : (judged_of link met.groups met.locked index argument).error ≡ None = no_fault link met.groups met.locked argument index t in
      clash cc)
      (λ t. t)

  abbrev asked : Received
  asked = received_of link met index argument

  pub fault_by_r1 : (column : Column) → move_of (row_of asked) (column_of link.state) ≡ To column → response_of (row_of asked) ≡ response.R1
  fault_by_r1 column taken = answers_r1 (row_of asked) (column_of link.state) column (row_judging asked faulty) taken
