-- `spi::hear` meets its contract: what was decided is done.
-- Assumes nothing.
use mathlib.Core.Path.{◌≡◌, sym, ap, ◌∙◌}
use mathlib.Core.Bool.{Bool}
use mathlib.Core.Logic.{inl, inr}
use Prim.Native.Nat.{ℕ}
use Rattle.card_record.specs.declared.Link.{Link}
use Rattle.card_record.specs.declared.Mode.{Mode}
use Rattle.command.specs.declared.Met.{Met}
use Rattle.moves.specs.declared.Move.{Move}
use Rattle.spi.specs.Answering.{decision_of}
use Rattle.spi.specs.Hearing.{as_spi, heard_of}
use Rattle.spi.specs.declared.Decision.{Decision}
use Rattle.spi.proofs.Decided.{moved_as, heard_decided}
use Rattle.spi.proofs.hear.Goals as goal

-- a command whose move is known, by what was decided
decided : (mode : Mode) (selected : Bool) (link : Link) (met : Met) (index argument : ℕ) {found : Decision} {move : Move}
    → found ≡ decision_of mode selected link met index argument → found.next ≡ move
    → moved_as mode link met index argument (as_spi mode selected index) found.answering move ≡ heard_of mode selected link met index argument
decided mode selected link met index argument {found = found} e em =
    ap (moved_as mode link met index argument (as_spi mode selected index) found.answering) (sym em)
    ∙ ap (λ (d : Decision). moved_as mode link met index argument (as_spi mode selected index) d.answering d.next) e
    ∙ heard_decided mode link met index argument selected

pub returns-in-Ignored : goal.returns-in-Ignored
returns-in-Ignored c = record {
  answer = let a = c.args in
      c.unheard.ensures ∙ elim c.in-Ignored.is [
        | inl e ↦ decided a.mode a.selected a.link a.met a.command.index a.command.argument c.decide-decided.ensures e
        | inr e ↦ decided a.mode a.selected a.link a.met a.command.index a.command.argument c.decide-decided.ensures e
      ];
}

pub returns-in-Illegal : goal.returns-in-Illegal
returns-in-Illegal c = record {
  answer = let a = c.args in
      simp (c.untaken.ensures, c.set-errors.ensures.answer, c.as_spi-spi.ensures)
      (decided a.mode a.selected a.link a.met a.command.index a.command.argument c.decide-decided.ensures c.in-Illegal.is);
}

pub returns-in-To : goal.returns-in-To
returns-in-To c = record {
  answer = let a = c.args in
      c.take.ensures ∙ decided a.mode a.selected a.link a.met a.command.index a.command.argument c.decide-decided.ensures c.in-To.is;
}
