-- `cardline_records::carry::stop_line` meets its contract: each return is told why the script stops.
-- Assumes nothing.
use Prim.Native.Nat.{◌≤◌}
use native.Mathlib.Omega.{arith}
use lib.ListN.{length}
use Rattle.cardline_records.proofs.Lengths.{plain_line_lem}
use Rattle.cardline_records.specs.Words.{no_card_word, too_big_word}
use Rattle.text.specs.Words.{bad_kind_word}
use Rattle.cardline_records.proofs.carry.stop_line.Goals as goal

pub returns-in-NoCard : goal.returns-in-NoCard
returns-in-NoCard c =
    let short : length no_card_word ≤ 20 = omega arith in
    rw c.in-NoCard.is (plain_line_lem no_card_word short c.plain.ensures)

pub returns-in-BadKind : goal.returns-in-BadKind
returns-in-BadKind c =
    let short : length bad_kind_word ≤ 20 = omega arith in
    rw c.in-BadKind.is (plain_line_lem bad_kind_word short c.plain-in-BadKind.ensures)

pub returns-in-TooBig : goal.returns-in-TooBig
returns-in-TooBig c =
    let short : length too_big_word ≤ 20 = omega arith in
    rw c.in-TooBig.is (plain_line_lem too_big_word short c.plain-in-TooBig.ensures)
