-- `bus::hearing::hear` meets its contract: what is sent is always written, in at most 17 bytes.
-- Assumes nothing.
use mathlib.Core.List.{List}
use mathlib.Core.Path.{◌≡◌, sym, ap, ap₂, ◌∙◌}
use Prim.Native.Nat.{ℕ, ◌-◌, max}
use native.Mathlib.Omega.{arith}
use borrow.Author.Rules.{rules}
use lib.ListN.{length, take, drop}
use lib.Seq.{take_at}
use Rattle.base.specs.Output.{laid}
use Rattle.card_record.specs.Sending.{sent_bytes}
use Rattle.shared_line.specs.Bytes.{anded}
use Rattle.card_record.proofs.Writes.{written_bytes, never_refused}
use Rattle.bus.proofs.Telling.{zeros}
use Rattle.bus.specs.Hearing.{heard_of}
use Rattle.bus.specs.OnLine.{OnLine}
use Rattle.bus.proofs.hearing.hear.Goals as goal
use Rattle.std.specs.Prelude.{Result}
use Rattle.base.specs.declared.Refusal.{Refusal}

abbrev held : List ℕ → ℕ → OnLine
held line length = record { line = line; length = length }

pub slice_bounds-and-end : goal.slice_bounds-and-end
slice_bounds-and-end c =
    let w = c.write_sent-written.ensures in
    let a = c.args.registers in
    let cid : length a.cid ≡ 16 = search rules in
    let csd : length a.csd ≡ 16 = search rules in
    let long : length c.write_sent-written.new.out ≡ 17 = search rules in
    let right = written_bytes a c.args.sent zeros c.requires cid csd (omega arith) _ w.answer c.in-Ok.n c.in-Ok.is in
    omega (arith, right.1)

pub returns-in-Ok : goal.returns-in-Ok
unfolding heard_of
returns-in-Ok c =
    let w = c.write_sent-written.ensures in
    let n = c.in-Ok.n in
    let a = c.args.registers in
    let line = c.heard.inside.line in
    let bytes = sent_bytes a c.args.sent in
    let cid : length a.cid ≡ 16 = search rules in
    let csd : length a.csd ≡ 16 = search rules in
    let right = written_bytes a c.args.sent zeros c.requires cid csd (omega arith) _ w.answer n c.in-Ok.is in
    let sends = w.output ∙ ap (λ (r : Result ℕ Refusal). laid r bytes zeros) c.in-Ok.is in
    let whole : n - 0 ≡ n = omega arith in
    let ands : c.and.result ≡ anded c.heard.inside.line (take (n - 0) c.write_sent-written.new.out) = c.and.ensures.answer in
    ap₂ held
    (ands ∙ ap₂ (λ (k : ℕ) (l : List ℕ). anded line (take k l)) whole sends
    ∙ ap (anded line) (take_at bytes (drop (length bytes) zeros) n (sym right.0)))
    (c.max.ensures ∙ ap (λ (k : ℕ). max c.heard.inside.longest k) right.0)
    ∙ ap (λ (h : OnLine). heard_of h bytes) c.heard.view_is

pub returns-in-Err : goal.returns-in-Err
returns-in-Err c =
    let a = c.args.registers in
    let cid : length a.cid ≡ 16 = search rules in
    let csd : length a.csd ≡ 16 = search rules in
    absurd (never_refused a c.args.sent zeros c.requires cid csd (omega arith) _ c.write_sent-written.ensures.answer c.in-Err.field-0 c.in-Err.is)
