-- `crossing::to_numbers::tell_link` meets its contract: that the numbers stand for the link and the mode is `link_before_mode` and
-- `mode_crosses`.
-- Assumes nothing.
use mathlib.Core.Path.{ap, ◌∙◌}
use native.Mathlib.Omega.{arith}
use lib.ListN.{drop}
use Rattle.crossing.specs.Record.{link_of, mode_of, LinkWithin}
use Rattle.crossing.proofs.Crossing.{mode_behind, link_before_mode, mode_crosses}
use Rattle.crossing.proofs.to_numbers.tell_link.Goals as goal

pub returns : goal.returns
returns c =
    let link = c.args.link in
    let mode = c.args.mode in
    let numbers = c.args.numbers.now in
    let told = mode_behind link mode numbers _ _ c.put_link.ensures c.put_mode.ensures in
    -- the type of a link says it
    let within : LinkWithin link = record { address = omega arith; length = omega arith } in
    record {
      numbers = told;
      crossing = (
        ap link_of told ∙ link_before_mode link mode (drop 9 numbers) within,
        ap mode_of told ∙ mode_crosses link mode (drop 9 numbers),
      );
    }
