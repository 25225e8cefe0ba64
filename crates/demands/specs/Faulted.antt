-- Document 01, "How a card takes a frame", checks 5 and 6: the taken commands that are answered with an error.
-- Assumes nothing.
use Rattle.std.specs.Prelude.{◌≡◌, ℕ, Option}
use Rattle.command.specs.Obey.{judged_of, reset_told}
use Rattle.command.specs.declared.Change.TheVariants.{Nothing}
use Rattle.command.specs.declared.Commanded.{Commanded}
use Rattle.command.specs.declared.Met.{Met}
use Rattle.card_record.specs.declared.Sent.TheVariants.{Status}
use Rattle.card_record.specs.declared.Link.{Link}
use Rattle.states.specs.States.{column_of}
use Rattle.status.specs.Bits.{bit_at}
use Rattle.status.specs.ErrorBits.{place_of}
use Rattle.status.specs.Status.{no_errors, with_bit, word_of}
use Rattle.status.specs.declared.ErrorBit.{ErrorBit}
use Rattle.tags.specs.Tagging.{no_tags}

module _ (link : Link) (met : Met) (index argument : ℕ) where
  -- what checks 5 and 6 find: nothing, or an error bit
  abbrev pub fault : Option ErrorBit
  fault = (judged_of link met.groups met.locked index argument).error

  -- "R1 reports pending bits and those its command sets at once", with "the state on reception"
  abbrev pub status_with : ErrorBit → ℕ
  status_with bit = word_of (with_bit (reset_told link index) bit) met.locked (column_of link.state)

  -- "R1 with the bit, no move", and "then clears them"; "An error in 32-38 drops tags. Any other taken command .. drops existing tags"
  pub record Faulted (bit : ErrorBit) (given : Commanded) : Type 0 where
    pub answer : given.sent ≡ Status index (status_with bit)
    pub shows : bit_at (place_of bit) (status_with bit) ≡ 1
    pub state : given.link.state ≡ link.state
    pub address : given.link.address ≡ link.address
    pub length : given.link.length ≡ link.length
    pub errors : given.link.errors ≡ no_errors
    pub tags : given.link.tags ≡ no_tags
    pub change : given.change ≡ Nothing
