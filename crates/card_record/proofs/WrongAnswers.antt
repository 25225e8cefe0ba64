-- Wrong answers that the promises rule out, each refuted at a sample that antt computes: a call's answer is the definition, so a call
-- that gave the wrong answer would make the two equal. (One more is tried as a must-fail edit.)
--   size_in_sectors, size_wraps    a size counted in sectors, one that wraps at 16 bits
--   csd_by_14              a CSD that protects by its bit 14
--   csd_permanent_alone    one whose bit 12 is not looked at
--   csd_lowest_first       one read lowest byte first
--   length_zero            a block length of 0 read as 0
--   length_over            one of 2,049 read as it is
--   crosses_at_end         a block that ends with its read block taken to cross it
--   crosses_unseen         one that goes on by a byte taken not to
--   fresh_unaddressed, fresh_sector    a reset to the address 0, one to blocks of a sector, as document 01 had it
--   powered_keeps_address, powered_keeps_tags, powered_keeps_length    power-on that keeps the address, the tags or the block length
--   powered_by_csd         power-on that takes the block length from the CSD
--   powered_unlocked       power-on that leaves a card with a password unlocked
--   powered_inactive       power-on that leaves a card Inactive
--   worked_rcv             work done that takes rcv to tran
--   worked_dis             work done that takes dis to tran
--   worked_clears          work done that clears the error bits
--   made_8191              a card of 8,191 bytes made
--   made_17                a card made with a password of 17 bytes
--   made_by_high_bits      a card made with an OCR of bit 31 alone
--   made_map_first         8 given where 7 is to be
--   made_csd_unread        a card made with a CSD whose last byte is wrong
--   made_unlocked          a card made with a password, and unlocked
--   made_by_csd            a card made with the block length that its CSD tells
--   made_never             a make that refuses all
--   refused_keeps_cid, refused_idle, refused_length    a refused make that returns the CID it was given, a card in Idle, or one with the block
--                          length of a reset
-- Assumes nothing.
use mathlib.Core.Path.{◌≡◌, sym, ap}
use mathlib.Core.Bool.{true, false}
use mathlib.Core.List.{List, [], ◌∷◌, ◌++◌}
use Prim.Native.Nat.{ℕ}
use native.Mathlib.Omega.{arith}
use lib.ListN.{get_or, replicate, set}
use Rattle.base.proofs.Cases.{clash, never}
use Rattle.base.specs.Refusals.{by}
use Rattle.crc.specs.Bits.{bits}
use Rattle.crc.specs.Crc.{divide, remainder}
use Rattle.lock.specs.Passwords.{stored, holding, powered_of, lock_made as lock_made_of}
use Rattle.states.specs.declared.Incoming.TheVariants.{One}
use Rattle.states.specs.declared.State.{State}
use Rattle.states.specs.declared.State.TheVariants.{Idle, Tran, Rcv, Prg, Dis, Ina}
use Rattle.store.specs.Map.{entries_right}
use Rattle.tags.specs.declared.Kind.TheVariants.{Sectors}
use Rattle.tags.specs.declared.Range.TheVariants.{Start}
use Rattle.wire.specs.Frames.{crc7_of}
use Rattle.wire.specs.Responses.{last_byte, register_right}
use Rattle.card_record.specs.Making.{refused_make, password_made, made_of}
use Rattle.card_record.specs.Power.{fresh_link, powered_on, worked}
use Rattle.card_record.specs.Record.{size_of, csd_protects, length_read, crosses}
use Rattle.card_record.specs.declared.Card.{Card}
use Rattle.card_record.specs.declared.Made.{Made}
use Rattle.std.specs.Prelude.{Ok, Err}

-- a register of 15 zeros and the byte that closes them
abbrev zeros : List ℕ
zeros = replicate 15 0 ++ (1 ∷ [])

-- a CSD that tells blocks of 1,024 bytes, 2 to the power of bits 83 to 80
abbrev kilobyte : List ℕ
kilobyte = set (replicate 15 0) 5 10

abbrev of_kilobytes : List ℕ
of_kilobytes = kilobyte ++ (last_byte kilobyte ∷ [])

-- a card at work, with a password of two bytes and unlocked, tags and an error bit
abbrev busy : State → Card
busy s =
    record {
      registers = record { cid = zeros; csd = of_kilobytes; ocr = 0x00FF8000; groups = 1 };
      lock = holding (7 ∷ 9 ∷ []) false;
      link = record { state = s; address = 7; length = 16; errors = record { bits = 0x00800000 }; tags = record { range = Start Sectors 3 } };
      mode = record { spi = true; checks = true };
    }

-- a make that is right but for what it is told, with one protection group
abbrev made : ℕ → List ℕ → ℕ → Made
made ocr password memory = made_of zeros zeros ocr password memory (0 ∷ [])

-- ---- what is read off a record
size_in_sectors : size_of 1 ≡ 512 → ⊥
size_in_sectors e = omega arith

size_wraps : size_of 8 ≡ 0 → ⊥
size_wraps e = omega arith

csd_by_14 : csd_protects (set zeros 14 0x40) ≡ true → ⊥
csd_by_14 e = clash cc

csd_permanent_alone : csd_protects (set zeros 14 0x10) ≡ false → ⊥
csd_permanent_alone e = never (sym e)

csd_lowest_first : csd_protects (set zeros 1 0x20) ≡ true → ⊥
csd_lowest_first e = clash cc

crosses_at_end : crosses 1536 512 ≡ true → ⊥
crosses_at_end e = clash cc

crosses_unseen : crosses 1537 512 ≡ false → ⊥
crosses_unseen e = never (sym e)

length_zero : length_read 0 ≡ 0 → ⊥
length_zero e = omega arith

length_over : length_read 2049 ≡ 2049 → ⊥
length_over e = omega arith

-- ---- power-on and work done
fresh_unaddressed : fresh_link.address ≡ 0 → ⊥
unfolding fresh_link
fresh_unaddressed e = omega arith

fresh_sector : fresh_link.length ≡ 512 → ⊥
unfolding fresh_link
fresh_sector e = omega arith

powered_keeps_address : (powered_on (busy Tran)).link.address ≡ 7 → ⊥
unfolding powered_on fresh_link
powered_keeps_address e = omega arith

powered_keeps_tags : (powered_on (busy Tran)).link.tags.range ≡ Start Sectors 3 → ⊥
unfolding powered_on fresh_link
powered_keeps_tags e = clash cc

powered_keeps_length : (powered_on (busy Tran)).link.length ≡ 16 → ⊥
unfolding powered_on fresh_link
powered_keeps_length e = omega arith

powered_by_csd : (powered_on (busy Tran)).link.length ≡ 1024 → ⊥
unfolding powered_on fresh_link
powered_by_csd e = omega arith

powered_unlocked : (powered_on (busy Tran)).lock.locked ≡ false → ⊥
unfolding powered_on powered_of stored holding
powered_unlocked e = never (sym e)

powered_inactive : (powered_on (busy Ina)).link.state ≡ Ina → ⊥
unfolding powered_on fresh_link
powered_inactive e = clash cc

worked_rcv : (worked (busy (Rcv (One 512)))).link.state ≡ Tran → ⊥
unfolding worked
worked_rcv e = clash cc

worked_dis : (worked (busy Dis)).link.state ≡ Tran → ⊥
unfolding worked
worked_dis e = clash cc

worked_clears : (worked (busy Prg)).link.errors.bits ≡ 0 → ⊥
unfolding worked
worked_clears e = omega arith

-- ---- making
made_8191 : (made 0x00FF8000 [] 8191).making ≡ Ok tt → ⊥
unfolding made_of
made_8191 e = clash cc

made_17 : (made 0x00FF8000 (replicate 17 5) 8192).making ≡ Ok tt → ⊥
unfolding made_of password_made lock_made_of entries_right register_right last_byte crc7_of remainder divide bits
made_17 e = clash cc

made_by_high_bits : (made 0x80000000 [] 8192).making ≡ Ok tt → ⊥
unfolding made_of entries_right register_right last_byte crc7_of remainder divide bits
made_by_high_bits e = clash cc

made_map_first : (made_of zeros zeros 0x00FF8000 [] 8191 (2 ∷ [])).making ≡ Err (by 8) → ⊥
unfolding made_of
made_map_first e = clash cc

made_csd_unread : (made_of zeros (replicate 16 0) 0x00FF8000 [] 8192 (0 ∷ [])).making ≡ Ok tt → ⊥
unfolding made_of entries_right register_right last_byte crc7_of remainder divide bits
made_csd_unread e = clash cc

made_unlocked : (made 0x00FF8000 (7 ∷ 9 ∷ []) 8192).card.lock.locked ≡ false → ⊥
unfolding made_of password_made lock_made_of powered_of stored holding entries_right register_right last_byte crc7_of remainder divide bits
made_unlocked e = never (sym e)

made_by_csd : (made_of zeros of_kilobytes 0x00FF8000 [] 8192 (0 ∷ [])).card.link.length ≡ 1024 → ⊥
unfolding made_of password_made lock_made_of fresh_link entries_right register_right last_byte crc7_of remainder divide bits
made_by_csd e = omega arith

made_never : (made 0x00FF8000 [] 8192).making ≡ Err (by 7) → ⊥
unfolding made_of password_made lock_made_of entries_right register_right last_byte crc7_of remainder divide bits
made_never e = clash cc

refused_keeps_cid : (made 0x00FF8000 [] 8191).card.registers.cid ≡ zeros → ⊥
unfolding made_of refused_make
refused_keeps_cid e = clash (ap (λ (l : List ℕ). get_or l 15 0) e)

refused_idle : (made 0x00FF8000 [] 8191).card.link.state ≡ Idle → ⊥
unfolding made_of refused_make
refused_idle e = clash cc

refused_length : (made 0x00FF8000 [] 8191).card.link.length ≡ 2048 → ⊥
unfolding made_of refused_make
refused_length e = omega arith
