-- `wire::write_indexed` meets its contract: the first byte has the first eight bits, and the six bytes laid are the frame.
-- Assumes nothing.
use mathlib.Core.Path.{ap, ◌∙◌}
use mathlib.Core.List.{List, ◌++◌}
use Prim.Native.Nat.{ℕ}
use native.Mathlib.Omega.{arith}
use Rattle.base.specs.Output.{laid}
use Rattle.crc.specs.Bits.{bits_of, octets}
use Rattle.wire.specs.Frames.{sealed}
use Rattle.wire.proofs.InBytes.{first_bits}
use Rattle.wire.proofs.write_indexed.Goals as goal

pub returns-clause-output : goal.returns-clause-output
returns-clause-output c =
    let a = c.args in
    c.lay.ensures.output
    ∙ ap (λ (l : List ℕ). laid c.lay.result l a.out.now)
    (c.frame48.ensures ∙ ap (λ (l : List ℕ). octets 6 (sealed (l ++ bits_of 32 a.word))) (first_bits a.transmission a.index c.requires (omega arith)))
