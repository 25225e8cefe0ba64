-- What is kept from record to record.
-- Assumes nothing.
use Rattle.std.specs.Prelude.{false, ◌++◌, ℕ, ◌+◌, ltb, drop}
use Rattle.base.specs.Choice.{pick}
use Rattle.card_record.specs.Making.{refused_make}
use Rattle.card_record.specs.declared.Card.{Card}
use Rattle.playing.specs.declared.Said.{Said}
use Rattle.cardline_script.specs.declared.Sizes.{Sizes}
use Rattle.cardline_records.specs.declared.Progress.{Progress}
use Rattle.playing.specs.declared.Then.{Then}
use Rattle.playing.specs.declared.Then.TheVariants.{Goes, Stops}
use Rattle.store.specs.Lent.{Lent, lent_of}

-- before a script there is no card, and nothing is lent
unfoldable pub fresh_progress : Progress
fresh_progress =
    record { card = refused_make; made = false; own = record { memory = 0; map = 0 }; lent = record { memory = 0; map = 0 }; count = 0 }

-- "N counts the records after the make, from 1": the number of the next record. Where a 64-bit number has no next it stays
abbrev pub following : ℕ → ℕ
following count = pick (ltb count 18446744073709551615) (count + 1) count

unfoldable pub record_counted : Progress → Progress
record_counted w = record { card = w.card; made = w.made; own = w.own; lent = w.lent; count = following w.count }

abbrev pub with_card : Progress → Card → Progress
with_card w c = record { card = c; made = w.made; own = w.own; lent = w.lent; count = w.count }

-- "from now on the calls are lent M' bytes of memory and m' of map"
abbrev pub with_lent : Progress → Sizes → Progress
with_lent w sizes = record { card = w.card; made = w.made; own = w.own; lent = sizes; count = w.count }

-- a record that is carried out, and one at which the script stops
abbrev pub gone_on : Progress → ℕ → ℕ → Said Progress
gone_on w used wrote = record { progress = w; used = used; wrote = wrote; then = Goes }

abbrev pub ended : Progress → ℕ → Said Progress
ended w wrote = record { progress = w; used = 0; wrote = wrote; then = Stops }

-- nothing was done: the script goes on with more bytes, or with a longer output
abbrev pub untouched : Progress → Then → Said Progress
untouched w then = record { progress = w; used = 0; wrote = 0; then = then }

-- what became of the first bytes of two buffers, put back before what stands behind them
abbrev pub put_back : Sizes → Lent → Lent → Lent
put_back sizes buffers front =
    lent_of (front.memory ++ drop sizes.memory buffers.memory) (front.map ++ drop sizes.map buffers.map)
