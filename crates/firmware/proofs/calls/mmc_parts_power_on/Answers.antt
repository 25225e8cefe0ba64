-- `firmware::calls::mmc_parts_power_on` meets its contract: power_on, between a record taken in and told.
-- Assumes nothing.
use mathlib.Core.Path.{ap, ◌∙◌}
use Rattle.card_record.specs.Power.{powered_on}
use Rattle.firmware.proofs.Told.{powered}
use Rattle.firmware.proofs.calls.mmc_parts_power_on.Goals as goal

pub returns : goal.returns
returns c =
    let a = c.args in
    let told = c.tell_link_and_lock.ensures in
    record {
      left = powered a.numbers.now a.cid.now a.csd.now a.password.now _ _ (c.power_on-next.ensures.answer ∙ ap powered_on c.card_of-card.ensures.answer)
          told.numbers told.crossing;
    }
