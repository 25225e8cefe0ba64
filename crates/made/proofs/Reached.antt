-- What a made card reaches, computed: neither making nor the states that `Made` speaks of are out of reach, and there are records that are not made.
--   made_some          a card of 8,192 bytes is made, and not refused
--   reaches_one        six frames take it to where it awaits one block, at 512
--   loser_waits        one that lost CMD2 is passed over by CMD3: it stays in Ready, at its old address
--   loser_reached      and takes the address of the round that it wins
--   refused_unmade     the record that a refused make returns is not made
-- Assumes nothing.
use mathlib.Core.Path.{◌≡◌, refl}
use mathlib.Core.Bool.{true, false}
use mathlib.Core.List.{List, [], ◌∷◌, ◌++◌, map}
use Prim.Native.Nat.{ℕ}
use native.Mathlib.Omega.{arith}
use lib.ListN.{replicate}
use Rattle.card.specs.Frame.{frame_judged, frame_stepped}
use Rattle.card.specs.declared.Call.TheVariants.{Frame}
use Rattle.command.specs.Answers.{response_of, answered}
use Rattle.command.specs.Arguments.{argument_fault}
use Rattle.command.specs.Command.{taken_of, command_of}
use Rattle.command.specs.Obey.{tagging_of, judged_of, reset_told, awaited_by, obeyed, change_of, after_checks, acted_of}
use Rattle.crc.specs.Bits.{bits}
use Rattle.crc.specs.Crc.{divide, remainder}
use Rattle.lock.specs.Passwords.{stored, holding, powered_of, lock_made as lock_made_of}
use Rattle.moves.specs.Classes.{class_of}
use Rattle.moves.specs.Moves.{move_of}
use Rattle.moves.specs.Rows.{transfer_row, row_of}
use Rattle.card_record.specs.Making.{refused_make, password_made, made_of}
use Rattle.card_record.specs.Power.{fresh_link}
use Rattle.states.specs.declared.Incoming.TheVariants.{One}
use Rattle.states.specs.declared.State.TheVariants.{Stby, Rcv}
use Rattle.status.specs.Status.{word_of}
use Rattle.store.specs.Lent.{Lent, lent_of}
use Rattle.store.specs.Map.{entries_right}
use Rattle.spi.specs.Hearing.{heard_of}
use Rattle.wire.specs.Frames.{crc7_of, sealed, command_frame, fields_of, framing_of}
use Rattle.wire.specs.Responses.{last_byte, register_right}
use Rattle.made.specs.Made.{Made}
use Rattle.made.specs.Run.{World, Input, given, next, run_of, made_lent, begun}
use Rattle.std.specs.Prelude.{Ok}

-- "CSD is 15 zero bytes and 01, OCR 00FF8000, one erased 8,192-byte memory, map entry 0, no password"
abbrev pub register : List ℕ
register = replicate 15 0 ++ (1 ∷ [])

abbrev pub erased : Lent
erased = lent_of (replicate 8192 0xFF) (0 ∷ [])

pub made_some : (made_lent register register 0x00FF8000 [] erased).making ≡ Ok tt
unfolding made_of password_made lock_made_of register_right last_byte crc7_of remainder divide bits entries_right
made_some = refl

-- CMD1 of the window, CMD2, CMD3 to address 1, CMD7 to it, CMD16 of 512, CMD24 at 512
abbrev written : List Input
written =
    map (given (Frame true false))
    (command_frame 1 0x00FF8000 ∷ command_frame 2 0 ∷ command_frame 3 0x00010000 ∷ command_frame 7 0x00010000 ∷ command_frame 16 512 ∷ command_frame 24 512 ∷ [])

pub reaches_one : (run_of (begun register register 0x00FF8000 [] erased) written).card.link.state ≡ Rcv (One 512)
unfolding run_of next made_of password_made lock_made_of holding powered_of stored register_right last_byte crc7_of remainder divide bits entries_right command_frame sealed framing_of fields_of fresh_link frame_stepped frame_judged heard_of command_of row_of transfer_row move_of class_of taken_of acted_of after_checks answered response_of reset_told word_of judged_of tagging_of argument_fault obeyed awaited_by change_of
reaches_one = refl

-- CMD1 of the window, and a round of CMD2 and CMD3 for each verdict of the line, with addresses from 2 on
abbrev opened : World
opened = next (begun register register 0x00FF8000 [] erased) (given (Frame true false) (command_frame 1 0x00FF8000))

abbrev lost : World
lost = run_of opened (given (Frame false false) (command_frame 2 0) ∷ given (Frame true false) (command_frame 3 0x00020000) ∷ [])

abbrev won : World
won = run_of lost (given (Frame true false) (command_frame 2 0) ∷ given (Frame true false) (command_frame 3 0x00030000) ∷ [])

pub loser_waits : lost ≡ opened
unfolding run_of next made_of password_made lock_made_of holding powered_of stored register_right last_byte crc7_of remainder divide bits entries_right command_frame sealed framing_of fields_of fresh_link frame_stepped frame_judged heard_of command_of row_of transfer_row move_of class_of taken_of acted_of after_checks answered response_of reset_told word_of judged_of tagging_of argument_fault obeyed awaited_by change_of
loser_waits = refl

pub loser_reached : (won.card.link.state ≡ Stby) × (won.card.link.address ≡ 3)
unfolding run_of next made_of password_made lock_made_of holding powered_of stored register_right last_byte crc7_of remainder divide bits entries_right command_frame sealed framing_of fields_of fresh_link frame_stepped frame_judged heard_of command_of row_of transfer_row move_of class_of taken_of acted_of after_checks answered response_of reset_told word_of judged_of tagging_of argument_fault obeyed awaited_by change_of
loser_reached = (refl, refl)

pub refused_unmade : Made refused_make → ⊥
unfolding refused_make
refused_unmade made = let none = made.link.address in omega arith
