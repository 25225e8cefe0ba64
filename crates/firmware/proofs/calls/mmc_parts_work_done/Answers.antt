-- `firmware::calls::mmc_parts_work_done` meets its contract: each arm is told its number, and the last that it is none of the others'.
-- Assumes nothing.
use borrow.Author.Tests.{ne_eqb}
use native.Mathlib.Omega.{arith}
use lib.ListN.{get_or}
use Rattle.firmware.proofs.Told.{works, rests_told}
use Rattle.firmware.proofs.calls.mmc_parts_work_done.Goals as goal

pub returns-in-11 : goal.returns-in-11
returns-in-11 c = record { left = works c.args.numbers.now c.args.cid.now c.args.csd.now c.args.password.now 11 c.in-11.is }

pub returns-in-12 : goal.returns-in-12
returns-in-12 c = record { left = works c.args.numbers.now c.args.cid.now c.args.csd.now c.args.password.now 12 c.in-12.is }

pub returns-in_default : goal.returns-in_default
returns-in_default c =
    let numbers = c.args.numbers.now in
    let state = get_or numbers 0 0 in
    record {
      left = rests_told numbers c.args.cid.now c.args.csd.now c.args.password.now (ne_eqb state 11 (λ e. omega (arith, e))) (ne_eqb state 12 (λ e. omega (arith, e)));
    }
