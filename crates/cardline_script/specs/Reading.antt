-- A script: "A record is one byte of kind, then a body", and "All numbers in a script are high byte first". What the record at the front of
-- a script asks for.
-- Assumes nothing.
use Rattle.std.specs.Prelude.{Bool, true, false, List, ℕ, ◌+◌, ◌*◌, eqb, leb, length, get_or, Result, Ok, Err}
use Rattle.base.specs.Choice.{pick, unless}
use Rattle.cardline_script.specs.declared.Asked.{Asked}
use Rattle.cardline_script.specs.declared.Asked.TheVariants.{Make, Go}
use Rattle.cardline_script.specs.declared.Calling.TheVariants.{Frame, BlockIn, BlockOut, WorkDone, PowerOn}
use Rattle.cardline_script.specs.declared.Going.TheVariants.{Call, Look, Wire}
use Rattle.cardline_script.specs.declared.Halt.{Halt}
use Rattle.cardline_script.specs.declared.Halt.TheVariants.{More, Stop}
use Rattle.cardline_script.specs.declared.Looking.TheVariants.{Card, Mode, Memory, Lend, Poke}
use Rattle.cardline_script.specs.declared.Stop.TheVariants.{NoCard, BadKind, TooBig}
use Rattle.cardline_script.specs.declared.Wiring.TheVariants.{Frame as WireFrame, Block, Check}

-- the byte at a place, and the numbers of two, three and four bytes from it on
abbrev pub byte_at : List ℕ → ℕ → ℕ
byte_at s at = get_or s at 0

unfoldable pub two : List ℕ → ℕ → ℕ
two s at = byte_at s at * 256 + byte_at s (at + 1)

unfoldable pub three : List ℕ → ℕ → ℕ
three s at = two s at * 256 + byte_at s (at + 2)

unfoldable pub four : List ℕ → ℕ → ℕ
four s at = two s at * 65536 + byte_at s (at + 2) * 256 + byte_at s (at + 3)

-- what a record asks for, or why it is not carried out
abbrev pub Read : Type 0
Read = Result Asked Halt

-- what is asked for where n bytes are there. Where the body is short, more bytes are: "A short body prints `cut` and stops", if none come
abbrev pub complete : ℕ → List ℕ → Read → Read
complete n s then = unless (leb n (length s)) (Err More) then

-- "an L or O of two bytes over 4,096 .. prints `too big` and stops"
abbrev pub not_too_big : ℕ → Read → Read
not_too_big n then = unless (leb n 4096) (Err (Stop TooBig)) then

-- "An M of record 01 over 524,288"
abbrev pub sized : ℕ → Read → Read
sized memory then = unless (leb memory 524288) (Err (Stop TooBig)) then

-- | 01 | M (3 bytes), F (1), m (1), m map bytes, 16 CID bytes, 16 CSD bytes, 4 OCR bytes, p (1), p password bytes |
-- p stands behind 42 bytes and the map's
unfoldable pub making_asked : ℕ → List ℕ → Read
making_asked memory s =
    complete (byte_at s 5 + 43) s
    (complete (byte_at s 5 + 43 + byte_at s (byte_at s 5 + 42)) s
    (Ok (Make (record { memory = memory; fill = byte_at s 4; map = byte_at s 5; password = byte_at s (byte_at s 5 + 42) }))))

-- "A length that is too big is seen as soon as its bytes are read"
unfoldable pub make_asked : List ℕ → Read
make_asked s = complete 4 s (sized (three s 1) (making_asked (three s 1) s))

-- | 02 | L (1), L bytes |, "with the select line high"; | 0E | the same, "with the select line low"
unfoldable pub frame_asked : List ℕ → Bool → Read
frame_asked s selected = complete 2 s (complete (byte_at s 1 + 2) s (Ok (Go (Call (Frame (byte_at s 1) selected)))))

-- L (2), L bytes, and so many bytes more
unfoldable pub counted_asked : List ℕ → ℕ → Read → Read
counted_asked s more then = complete 3 s (not_too_big (two s 1) (complete (two s 1 + 3 + more) s then))

-- | 03 | L (2), L bytes |
abbrev pub block_in_asked : List ℕ → Read
block_in_asked s = counted_asked s 0 (Ok (Go (Call (BlockIn (two s 1)))))

-- | 04 | L (2) |
unfoldable pub block_out_asked : List ℕ → Read
block_out_asked s = complete 3 s (not_too_big (two s 1) (Ok (Go (Call (BlockOut (two s 1))))))

-- | 08 | A (3), L (2) |
unfoldable pub memory_asked : List ℕ → Read
memory_asked s = complete 6 s (not_too_big (two s 4) (Ok (Go (Look (Memory (three s 1) (two s 4))))))

-- | 09 | M' (3), m' (1) |
unfoldable pub lend_asked : List ℕ → Read
lend_asked s = complete 5 s (Ok (Go (Look (Lend (record { memory = three s 1; map = byte_at s 4 })))))

-- | 0A | i (1), v (1) |
unfoldable pub poke_asked : List ℕ → Read
poke_asked s = complete 3 s (Ok (Go (Look (Poke (byte_at s 1) (byte_at s 2)))))

-- | 0B | index (1), argument (4), L (1) |
unfoldable pub write_frame_asked : List ℕ → Read
write_frame_asked s = complete 7 s (Ok (Go (Wire (WireFrame (byte_at s 1) (four s 2) (byte_at s 6)))))

-- | 0C | L (2), L bytes, O (2) |
unfoldable pub write_block_asked : List ℕ → Read
write_block_asked s = counted_asked s 2 (not_too_big (two s (two s 1 + 3)) (Ok (Go (Wire (Block (two s 1) (two s (two s 1 + 3)))))))

-- | 0D | L (2), L bytes |
abbrev pub check_asked : List ℕ → Read
check_asked s = counted_asked s 0 (Ok (Go (Wire (Check (two s 1)))))

-- the kinds from 0E on; "A second 01, or any other kind, prints `bad kind` and stops"
unfoldable pub spi_asked : ℕ → List ℕ → Read
spi_asked kind s = pick (eqb kind 0x0E) (frame_asked s true) (pick (eqb kind 0x0F) (Ok (Go (Look Mode))) (Err (Stop BadKind)))

-- the kinds from 08 to 0D
unfoldable pub shown_asked : ℕ → List ℕ → Read
shown_asked kind s =
    pick (eqb kind 0x08) (memory_asked s)
    (pick (eqb kind 0x09) (lend_asked s)
    (pick (eqb kind 0x0A) (poke_asked s)
    (pick (eqb kind 0x0B) (write_frame_asked s)
    (pick (eqb kind 0x0C) (write_block_asked s)
    (pick (eqb kind 0x0D) (check_asked s) (spi_asked kind s))))))

-- a record after the make
unfoldable pub more_asked : ℕ → List ℕ → Read
more_asked kind s =
    pick (eqb kind 0x02) (frame_asked s false)
    (pick (eqb kind 0x03) (block_in_asked s)
    (pick (eqb kind 0x04) (block_out_asked s)
    (pick (eqb kind 0x05) (Ok (Go (Call WorkDone)))
    (pick (eqb kind 0x06) (Ok (Go (Call PowerOn)))
    (pick (eqb kind 0x07) (Ok (Go (Look Card))) (shown_asked kind s))))))

-- "An empty script prints nothing. A first record of another kind than 01 prints `no card` and stops"
unfoldable pub asked_of : Bool → List ℕ → Read
asked_of made s =
    pick (eqb (length s) 0) (Err More)
    (pick made (more_asked (byte_at s 0) s) (unless (eqb (byte_at s 0) 0x01) (Err (Stop NoCard)) (make_asked s)))
