-- Wrong answers that the promises rule out, each refuted at a sample that antt computes: a call's answer is the definition, so a call
-- that gave the wrong answer would make the two equal. (That nothing is lost is the law `crossing`.)
--   state_16_idle      a state of no name read as Idle
--   state_14_inactive  the state that awaits the CSD read as Inactive, as every number above 13 once was
--   unlocked_by_2      a card opened by a flag that is neither 0 nor 1
--   tags_by_5          tags read from a number over 4
--   address_dropped    an address wider than 16 bits read as none, where its low bits count
--   inactive_as_idle   Inactive told with the number of Idle
--   unlocked_as_1      an unlocked record told as locked
--   mode_lost          a card in SPI told as one in MMC mode
--   spi_by_6           SPI read from any number but 0, where bit 0 says it
--   checks_by_1        checking read from any number but 0, where bit 8 says it
-- Assumes nothing.
use mathlib.Core.Path.{◌≡◌, sym}
use mathlib.Core.Bool.{true, false}
use mathlib.Core.List.{[], ◌∷◌}
use native.Mathlib.Omega.{arith}
use lib.ListN.{get_or, replicate}
use Rattle.base.proofs.Cases.{clash, never}
use Rattle.lock.specs.Passwords.{holding}
use Rattle.card_record.specs.Making.{refused_make}
use Rattle.card_record.specs.Record.{with_mode}
use Rattle.card_record.specs.declared.Card.{Card}
use Rattle.states.specs.declared.State.TheVariants.{Idle, Ina}
use Rattle.tags.specs.declared.Kind.TheVariants.{Groups}
use Rattle.tags.specs.declared.Range.TheVariants.{Full}
use Rattle.crossing.specs.Record.{state_of, tags_by, link_of, mode_of, lock_of, card_of, link_numbers, mode_numbers, lock_numbers, numbers_of}

-- numbers that no record has: a state of 16, an address of 17 bits, tags of 5, a mode of 6, a flag of 2
abbrev odd : Card
odd =
    card_of (16 ∷ 0 ∷ 0x10007 ∷ 512 ∷ 0 ∷ 5 ∷ 3 ∷ 4 ∷ 6 ∷ 2 ∷ 0 ∷ 1 ∷ 0x00FF8000 ∷ []) (replicate 16 0) (replicate 16 0) (replicate 16 0)

state_16_idle : odd.link.state ≡ Idle → ⊥
unfolding card_of link_of state_of
state_16_idle e = clash cc

unlocked_by_2 : odd.lock.locked ≡ false → ⊥
unfolding card_of lock_of
unlocked_by_2 e = never (sym e)

state_14_inactive : state_of 14 0 ≡ Ina → ⊥
unfolding state_of
state_14_inactive e = clash cc

tags_by_5 : odd.link.tags.range ≡ Full Groups 3 4 → ⊥
unfolding card_of link_of tags_by
tags_by_5 e = clash cc

address_dropped : odd.link.address ≡ 0 → ⊥
unfolding card_of link_of
address_dropped e = omega arith

inactive_as_idle : get_or (numbers_of refused_make) 0 0 ≡ 0 → ⊥
unfolding numbers_of link_numbers refused_make
inactive_as_idle e = omega arith

unlocked_as_1 : get_or (numbers_of refused_make) 9 0 ≡ 1 → ⊥
unfolding numbers_of link_numbers mode_numbers lock_numbers refused_make holding
unlocked_as_1 e = omega arith

mode_lost : get_or (numbers_of (with_mode refused_make (record { spi = true; checks = false }))) 8 0 ≡ 0 → ⊥
unfolding numbers_of link_numbers mode_numbers
mode_lost e = omega arith

spi_by_6 : odd.mode.spi ≡ true → ⊥
unfolding card_of mode_of
spi_by_6 e = never e

checks_by_1 : (mode_of (replicate 13 1)).checks ≡ true → ⊥
unfolding mode_of
checks_by_1 e = never e
