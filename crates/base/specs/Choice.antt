-- Choice by a test, and an order of refusals, as the rules of document 01 are written.
-- Assumes nothing.
use Rattle.std.specs.Prelude.{Bool, true, false}

-- the first if the test holds, else the second
abbrev pub pick : {A : Type 0} → Bool → A → A → A
pick true a b = a
pick false a b = b

-- an order of refusals, from the top: the refusal unless the test holds, and else what comes after it
abbrev pub unless : {A : Type 0} → Bool → A → A → A
unless true refusal rest = rest
unless false refusal rest = refusal
