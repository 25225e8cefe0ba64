-- `spi::untaken` meets its contract: the error bits are shown and cleared, or left.
-- Assumes nothing.
use mathlib.Core.Path.{◌≡◌, refl}
use mathlib.Core.Bool.{Bool, true, false}
use Rattle.base.specs.Choice.{pick}
use Rattle.card_record.specs.Record.{with_errors}
use Rattle.card_record.specs.declared.Link.{Link}
use Rattle.card_record.specs.declared.Mode.{Mode}
use Rattle.card_record.specs.declared.Sent.TheVariants.{Nothing}
use Rattle.command.specs.declared.Change.TheVariants.{Nothing as Unchanged}
use Rattle.status.specs.declared.Errors.{Errors}
use Rattle.spi.specs.Answering.{untaken}
use Rattle.spi.specs.Answers.{idle_in, sent_in, left_in, answered_in}
use Rattle.spi.specs.declared.Heard.{Heard}
use Rattle.spi.specs.declared.Response.TheVariants.{R1}
use Rattle.spi.proofs.untaken.Goals as goal

-- what is left and what is sent, each chosen apart
abbrev apart : Mode → Link → Errors → Bool → Heard
apart mode link errors answered =
    record {
      mode = mode;
      link = with_errors link (pick answered (left_in R1 errors) errors);
      sent = pick answered (sent_in R1 errors (idle_in link.state) false) Nothing;
      change = Unchanged;
    }

together : (mode : Mode) (link : Link) (errors : Errors) (answered : Bool) → apart mode link errors answered ≡ untaken mode link errors answered
unfolding untaken answered_in
together mode link errors true = refl
together mode link errors false = refl

pub returns : goal.returns
returns c = let a = c.args in
    simp (c.shown.ensures, c.pending.ensures, c.is_idle-idle.ensures) (together a.mode a.link a.errors a.answered)
