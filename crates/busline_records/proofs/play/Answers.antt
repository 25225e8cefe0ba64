-- `busline_records::play` meets its contract: each record is a step of the piece, and each end the end of it.
-- Assumes nothing.
use mathlib.Core.Path.{refl}
use Prim.Native.Nat.{◌+◌, ◌≤◌}
use native.Mathlib.Omega.{arith}
use lib.ListN.{length}
use Rattle.busline_records.proofs.Playing.{taken, on, over_stops, over_waits, over_full, all}
use Rattle.busline_records.proofs.play.Goals as goal

-- the record just carried out went on
pub overflow_add-used : goal.overflow_add-used
overflow_add-used c =
    let l = c.loop-i in
    let a = c.args in
    let t = c.turn-said in
    let u = taken a.progress a.script.now a.out.now _ l.kept l.used l.wrote l.out l.i l.invariant c.loop-i-test.true (omega arith) t.result _ t.ensures.answer
    t.ensures.text t.ensures.short c.in-Goes.is in
    let h : l.used + t.result.used ≤ length a.script.now = u.1 in
    omega arith

pub returns-in-Stops : goal.returns-in-Stops
returns-in-Stops c =
    let l = c.loop-i in
    let a = c.args in
    let t = c.turn-said in
    let over = over_stops a.progress a.script.now a.out.now _ l.kept l.used l.wrote l.out l.i l.invariant c.loop-i-test.true (omega arith) t.result _ t.ensures.answer
    t.ensures.text t.ensures.short refl c.left.result c.in-Stops.is c.left.ensures
    in
    record { answer = over.0; text = over.1 }

pub returns-in-Waits : goal.returns-in-Waits
returns-in-Waits c =
    let l = c.loop-i in
    let a = c.args in
    let t = c.turn-said in
    let over = over_waits a.progress a.script.now a.out.now _ l.kept l.used l.wrote l.out l.i l.invariant c.loop-i-test.true (omega arith) t.result _ t.ensures.answer
    t.ensures.text t.ensures.short refl c.left-in-Waits.result c.in-Waits.is c.left-in-Waits.ensures
    in
    record { answer = over.0; text = over.1 }

pub returns-in-NoRoom : goal.returns-in-NoRoom
returns-in-NoRoom c =
    let l = c.loop-i in
    let a = c.args in
    let t = c.turn-said in
    let over = over_full a.progress a.script.now a.out.now _ l.kept l.used l.wrote l.out l.i l.invariant c.loop-i-test.true (omega arith) t.result _ t.ensures.answer
    t.ensures.text t.ensures.short refl c.left-in-NoRoom.result c.in-NoRoom.is
    in
    record { answer = over.0; text = over.1 }

pub loop-i-preserved : goal.loop-i-preserved
loop-i-preserved c =
    let l = c.loop-i in
    let a = c.args in
    let t = c.turn-said in
    on a.progress a.script.now a.out.now _ l.kept l.used l.wrote l.out l.i l.invariant c.loop-i-test.true (omega arith) t.result _ t.ensures.answer
    t.ensures.text t.ensures.short c.in-Goes.is

pub returns : goal.returns
returns c =
    let l = c.loop-i in
    let a = c.args in
    let over = all a.progress a.script.now a.out.now _ l.kept l.used l.wrote l.out l.i c.left-2.result l.invariant c.loop-i-test.false refl c.left-2.ensures in
    record { answer = over.0; text = over.1 }
