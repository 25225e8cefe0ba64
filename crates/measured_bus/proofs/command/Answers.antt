-- `measured_bus::command` meets its contract: six bytes are enough for a frame.
-- Assumes nothing.
use Rattle.measured_bus.proofs.Turns.{written}
use Rattle.measured_bus.proofs.command.Goals as goal

pub returns : goal.returns
returns c = let w = c.write_command.ensures in written c.args.index c.args.argument _ _ c.requires w.answer w.output
