-- `text::page::Page::hex` meets its contract. The loop's invariant: the digits of the bytes passed are written.
-- Assumes nothing.
use lib.ListN.{take}
use Rattle.text.specs.Pages.{Writes}
use Rattle.text.specs.Text.{hex_of}
use Rattle.text.proofs.page.Page.hex.Given as goal

abbrev pub invariant-loop-b : goal.invariant-loop-b
invariant-loop-b l = Writes l.initial.self l.self (hex_of (take l.b-index l.bytes))
