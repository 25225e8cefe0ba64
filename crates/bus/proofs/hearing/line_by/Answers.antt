-- `bus::hearing::line_by` meets its contract: the line's first bytes stand at the front, zeros behind them.
-- Assumes nothing.
use mathlib.Core.Path.{◌≡◌, ap, ◌∙◌}
use Prim.Native.Nat.{ℕ}
use borrow.Author.Rules.{rules}
use lib.ListN.{length, get_or}
use mir.Syntax.{w8}
use mir.Val.{Fits}
use Rattle.crc.proofs.Bits.{below_all}
use Rattle.bus.proofs.Telling.{filled}
use Rattle.bus.specs.Bus.{padded}
use Rattle.bus.specs.Hearing.{sent_on}
use Rattle.bus.specs.OnLine.{OnLine}
use Rattle.bus.proofs.hearing.line_by.Goals as goal

pub returns-clause-answer : goal.returns-clause-answer
returns-clause-answer c =
    let seen = c.heard.inside in
    let long : length seen.line ≡ 17 = search rules in
    filled (record { line = seen.line; length = seen.longest }) c.heard.invariant long _ c.copy.ensures.over
    ∙ ap (λ (h : OnLine). padded (sent_on h)) c.heard.view_is

pub returns-clause-bytes : goal.returns-clause-bytes
returns-clause-bytes c = let held = c.args.heard.line in
    let f : (i : ℕ) → Fits w8 (get_or held i 0) = λ i. search rules in below_all 256 held (λ i. (f i).fits)
