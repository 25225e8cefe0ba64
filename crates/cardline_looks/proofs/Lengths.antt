-- How long the lines are that these records alone print, at most.
--   number_line_short   `N WORD K HEX`
--   card_short          the line of 07
--   mode_short          the line of 0F
-- Assumes nothing.
use mathlib.Core.List.{List, ◌++◌}
use Prim.Native.Nat.{ℕ, ◌≤◌}
use native.Mathlib.Omega.{arith}
use lib.ListN.{length, length-append}
use Rattle.cardline_looks.specs.Lines.{line_room, roomy, number_line}
use Rattle.cardline_looks.specs.Words.{spi_word}
use Rattle.cardline_looks.specs.Looks.{two_bytes, four_bytes, link_text, flags_text, card_text, mode_text}
use Rattle.card_record.specs.declared.Link.{Link}
use Rattle.card_record.specs.declared.Mode.{Mode}
use Rattle.states.specs.States.{column_of, column_number}
use Rattle.status.specs.Status.{shown as pending, flag}
use Rattle.status.specs.declared.Errors.{Errors}
use Rattle.text.proofs.Lengths.{number_short, hexed_long, end_short, head_short}
use Rattle.text.specs.Lines.{line_feed, number_text, hex_text, end_text, head_text}
use Rattle.text.specs.Words.{card_word}
use mathlib.Core.Bool.{Bool}

pub number_line_short : (count : ℕ) (word : List ℕ) (n : ℕ) (bytes : List ℕ)
    → length (number_line count word n bytes) ≤ line_room (length word) (length bytes)
unfolding number_line
number_line_short count word n bytes =
    rw (length-append (head_text count word ++ number_text n) (end_text bytes), length-append (head_text count word) (number_text n))
    (omega (arith, head_short count word, number_short n, end_short bytes))

link_short : (link : Link) → length (link_text link) ≤ 31
unfolding link_text
link_short link =
    let state = number_text (column_number (column_of link.state)) in
    let address = hex_text (two_bytes link.address) in
    rw (length-append (state ++ address) (hex_text (two_bytes link.length)), length-append state address)
    (omega (
      arith,
      number_short (column_number (column_of link.state)),
      hexed_long (two_bytes link.address),
      hexed_long (two_bytes link.length),
    ))

flags_short : (locked : Bool) (errors : Errors) → length (flags_text locked errors) ≤ 30
unfolding flags_text
flags_short locked errors =
    rw (length-append (number_text (flag locked)) (hex_text (four_bytes (pending errors))))
    (omega (arith, number_short (flag locked), hexed_long (four_bytes (pending errors))))

pub card_short : (count : ℕ) (link : Link) (locked : Bool) (map : List ℕ) → length (card_text count link locked map) ≤ line_room 44 (length map)
unfolding card_text
card_short count link locked map =
    let head = head_text count card_word in
    let shown = link_text link in
    let flags = flags_text locked link.errors in
    rw (length-append (head ++ shown ++ flags) (end_text map), length-append (head ++ shown) flags, length-append head shown)
    (omega (
      arith,
      head_short count card_word,
      link_short link,
      flags_short locked link.errors,
      end_short map,
    ))

pub mode_short : (count : ℕ) (mode : Mode) → length (mode_text count mode) ≤ roomy
unfolding mode_text
mode_short count mode =
    let head = head_text count spi_word in
    let spi = number_text (flag mode.spi) in
    let checks = number_text (flag mode.checks) in
    rw (length-append (head ++ spi ++ checks) line_feed, length-append (head ++ spi) checks, length-append head spi)
    (omega (arith, head_short count spi_word, number_short (flag mode.spi), number_short (flag mode.checks)))
