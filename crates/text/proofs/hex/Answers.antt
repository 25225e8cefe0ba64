-- `text::hex` meets its contract: there is no room for two digits a byte, or they are written whole.
-- Assumes nothing.
use mathlib.Core.Path.{sym}
use Prim.Native.Nat.{◌*◌}
use native.Mathlib.Omega.{arith}
use borrow.Author.Rules.{rules}
use lib.ListN.{length}
use Rattle.base.proofs.Output.{short, written}
use Rattle.text.proofs.Pairs.{long}
use Rattle.text.proofs.Writing.{put_whole, wrote_at, wrote_line}
use Rattle.text.specs.Text.{hex_of}
use Rattle.text.proofs.hex.Goals as goal

pub returns-then-out-bytes-clause-answer : goal.returns-then-out-bytes-clause-answer
returns-then-out-bytes-clause-answer c =
    let s = c.args.bytes.now in short (hex_of s) c.args.out.now (length s * 2) (long s) (omega arith)

pub returns : goal.returns
returns c =
    let s = c.args.bytes.now in
    let w = put_whole (omega (arith, long s)) c.hex.ensures.put in
    let all = written (hex_of s) c.args.out.now _ (sym (wrote_line w)) _ (omega (arith, long s, wrote_line w)) (wrote_at w) in
    let answer = all.0 in
    let output = all.1 in
    record { answer = answer; output = search (rules, output) }
