-- What a taken command does to a made link, in any mode: what is the same for every command.
--   Meeting          a made link, what a command meets beside it, the command's argument, and whether the card is in SPI
--   Acts             a command of an index leaves a made link, wherever a table of moves that is `Leading` takes it
--   acting           so it does, if it does where the lock lets it through and its argument has no error
--   begun, still, in_tran    the link of a command: with new work, with the old, with other tags in tran
-- Assumes nothing.
use mathlib.Core.Path.{◌≡◌, refl}
use mathlib.Core.Bool.{Bool, true, false}
use Prim.Native.Nat.{ℕ}
use lib.Dec.{eqb}
use Rattle.base.proofs.Cases.{guarded, clash, never}
use Rattle.command.proofs.Faults.{judged_drops}
use Rattle.command.specs.Obey.{passes_lock, tagging_of, judged_of, state_at, obeyed, after_checks, acted_of}
use Rattle.command.specs.declared.Met.{Met}
use Rattle.card_record.specs.Record.{size_of, length_read, with_state, with_tags}
use Rattle.card_record.specs.declared.Link.{Link}
use Rattle.states.specs.States.{column_of}
use Rattle.states.specs.declared.Column.{Column}
use Rattle.states.specs.declared.State.{State}
use Rattle.states.specs.declared.State.TheVariants as state
use Rattle.status.specs.ErrorBits.{error_bit}
use Rattle.tags.proofs.TagTheorems.{Drops}
use Rattle.tags.specs.Made.{MadeTags}
use Rattle.tags.specs.Tagging.{no_tags}
use Rattle.tags.specs.declared.Tagging.{Tagging}
use Rattle.tags.specs.declared.Tags.{Tags}
use Rattle.made.proofs.Links.{length_as, at_waits}
use Rattle.made.specs.Leading.{Leading}
use Rattle.made.specs.Made.{Waits, MadeLink}
use Rattle.std.specs.Prelude.{Option, Some, None}
use Rattle.status.specs.declared.ErrorBit.{ErrorBit}

pub record Meeting : Type 0 where
  pub link : Link
  pub met : Met
  pub argument : ℕ
  pub spi : Bool
  pub made : MadeLink spi met.groups met.locked link

-- a link that is made at the card of a meeting
abbrev pub Right : Meeting → Link → Type 0
Right c link = MadeLink c.spi c.met.groups c.met.locked link

-- a command's tags and its error at the meeting, and the link after it where it has none
abbrev pub tagging : Meeting → ℕ → Tagging
tagging c index = tagging_of c.link (size_of c.met.groups) index c.argument

abbrev pub after : Meeting → ℕ → Column → Tags → Link
after c index column tags = obeyed c.link index c.argument column tags

-- where a table leads the command from the state of the link
abbrev pub Leads : Meeting → ℕ → Column → Type 0
Leads c index column = Leading index (column_of c.link.state) column

abbrev pub Acts : Meeting → ℕ → Type 0
Acts c index = (column : Column) → Leads c index column → Right c (acted_of c.link c.met index c.argument column).link

module _ (c : Meeting) where
  -- ---- checks 5 and 6
  -- an error leaves no tags, and all else as it was
  faulted : Right c (with_tags c.link no_tags)
  faulted =
      record {
        address = c.made.address;
        block = c.made.block;
        tags = tt;
        tagged = λ e. never e;
        work = c.made.work;
        errors = c.made.errors;
      }

  abbrev Checked : ℕ → Column → Tagging → Type 0
  Checked index column t = Right c (after_checks c.link index c.argument column t.tags t.error).link

  checked : (index : ℕ) (column : Column) (tags : Tags) (error : Option ErrorBit) → Drops (record { tags = tags; error = error })
      → (error ≡ None → Right c (after c index column tags)) → Checked index column (record { tags = tags; error = error })
  unfolding after_checks
  checked index column tags None drops right = right refl
  checked index column tags (Some bit) drops right = rw (drops bit refl) faulted

  tagging_drops : (index : ℕ) → Drops (tagging c index)
  unfolding judged_of
  tagging_drops index = judged_drops c.link c.met.groups false index c.argument

  pub acting : (index : ℕ) → eqb index 0 ≡ false
      → ((column : Column) → Leads c index column → passes_lock c.met.locked index ≡ true → (tagging c index).error ≡ None
      → Right c (after c index column (tagging c index).tags))
      → Acts c index
  unfolding acted_of judged_of
  acting index other right column leads =
      rw other
      (guarded (Checked index column) (passes_lock c.met.locked index)
      (λ t. checked index column no_tags (Some (error_bit 24)) (λ bit e. refl) (λ e. clash cc))
      (λ t. checked index column (tagging c index).tags (tagging c index).error (tagging_drops index) (right column leads t)))

  -- ---- links after a command
  pub begun : (column : Column) (work : State) → Waits c.met.groups c.link.length c.met.locked work
      → Right c (with_tags (with_state c.link (state_at column work)) no_tags)
  begun column work waits =
      record {
        address = c.made.address;
        block = c.made.block;
        tags = tt;
        tagged = λ e. never e;
        work = at_waits c.met.groups c.link.length c.met.locked column work waits;
        errors = c.made.errors;
      }

  pub still : (column : Column) → Right c (with_tags (with_state c.link (state_at column c.link.state)) no_tags)
  still column = begun column c.link.state c.made.work

  pub in_tran : (tags : Tags) → c.met.locked ≡ false → MadeTags (size_of c.met.groups) tags
      → Right c (with_tags (with_state c.link state.Tran) tags)
  in_tran tags l right =
      record { address = c.made.address; block = c.made.block; tags = right; tagged = λ e. (refl, l); work = tt; errors = c.made.errors }

  -- a block length is read as it stands
  pub read_as : length_read c.link.length ≡ c.link.length
  read_as = length_as c.link.length c.made.block
