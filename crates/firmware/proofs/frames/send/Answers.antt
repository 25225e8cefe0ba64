-- `firmware::frames::send` meets its contract: what is sent is always written, since the longest is 17 bytes.
-- Assumes nothing.
use mathlib.Core.Path.{◌≡◌, ap, ◌∙◌}
use Prim.Native.Nat.{ℕ, ◌≤◌}
use native.Mathlib.Omega.{arith}
use borrow.Author.Rules.{rules}
use lib.ListN.{length}
use Rattle.base.specs.Output.{laid}
use Rattle.card_record.proofs.Writes.{written_bytes, never_refused}
use Rattle.card_record.specs.Sending.{sent_bytes}
use Rattle.firmware.proofs.frames.send.Goals as goal
use Rattle.std.specs.Prelude.{Result}
use Rattle.base.specs.declared.Refusal.{Refusal}

pub returns-in-Ok : goal.returns-in-Ok
returns-in-Ok c =
    let a = c.args.registers in
    let out = c.args.out.now in
    let cid : length a.cid ≡ 16 = search rules in
    let csd : length a.csd ≡ 16 = search rules in
    let w = c.write_sent-written.ensures in
    let long : 17 ≤ length out = omega arith in
    record {
      answer = (written_bytes a c.args.sent out c.requires cid csd long _ w.answer c.in-Ok.n c.in-Ok.is).0;
      output = w.output ∙ ap (λ (r : Result ℕ Refusal). laid r (sent_bytes a c.args.sent) out) c.in-Ok.is;
    }

pub returns-in-Err : goal.returns-in-Err
returns-in-Err c =
    let a = c.args.registers in
    let out = c.args.out.now in
    let cid : length a.cid ≡ 16 = search rules in
    let csd : length a.csd ≡ 16 = search rules in
    let w = c.write_sent-written.ensures in
    let long : 17 ≤ length out = omega arith in
    absurd (never_refused a c.args.sent out c.requires cid csd long _ w.answer c.in-Err.field-0 c.in-Err.is)
