-- What a record does reads no byte behind it: with t behind the bytes at hand, s, that hold all of it, everything stays the same.
--   same_text, same_buffers, same_said   its line, the buffers afterwards and what is kept
-- Assumes nothing.
use mathlib.Core.Path.{◌≡◌, refl, ap, ◌∙◌}
use mathlib.Core.List.{List, ◌++◌}
use Prim.Native.Nat.{ℕ, ◌+◌, ◌≤◌}
use native.Mathlib.Omega.{arith}
use lib.ListN.{length, take, drop, length-drop}
use lib.Seq.{take-append-le, drop-append-le}
use Rattle.cardline_records.specs.Calls.{input_of}
use Rattle.cardline_looks.specs.Looks.{front_of}
use Rattle.cardline_looks.specs.Wires.{wire_text}
use Rattle.cardline_records.specs.Makes.{map_made, buffers_made, sizes_made, made_from, card_made}
use Rattle.cardline_records.specs.Record.{going_text, going_buffers, going_progress, asked_text, asked_buffers, asked_said}
use Rattle.cardline_records.specs.Progress.{record_counted}
use Rattle.cardline_records.specs.declared.Progress.{Progress}
use Rattle.cardline_script.proofs.Whole.{four_stays}
use Rattle.cardline_script.specs.Reading.{Read}
use Rattle.std.specs.Prelude.{Ok, Err}
use Rattle.cardline_script.specs.Whole.{used_by, used_wiring, used_going, used_asked}
use Rattle.cardline_script.specs.declared.Asked.TheVariants.{Make, Go}
use Rattle.cardline_script.specs.declared.Halt.TheVariants as halt
use Rattle.cardline_script.specs.declared.Calling.{Calling}
use Rattle.cardline_script.specs.declared.Calling.TheVariants as calling
use Rattle.cardline_script.specs.declared.Going.{Going}
use Rattle.cardline_script.specs.declared.Going.TheVariants.{Call, Look, Wire}
use Rattle.cardline_script.specs.declared.Making.{Making}
use Rattle.cardline_script.specs.declared.Wiring.{Wiring}
use Rattle.cardline_script.specs.declared.Wiring.TheVariants as wiring
use Rattle.store.specs.Lent.{Lent, Seen, with_map, seen}

module _ (s t : List ℕ) where
  part_stays : (n at : ℕ) → at + n ≤ length s → take n (drop at (s ++ t)) ≡ take n (drop at s)
  part_stays n at h =
      let d = length-drop at s in
      ap (take n) (drop-append-le at s t (omega arith)) ∙ take-append-le n (drop at s) t (omega arith)

  input_stays : (c : Calling) → used_by c ≤ length s → input_of c (s ++ t) ≡ input_of c s
  input_stays (calling.Frame n selected) h = part_stays n 2 (omega arith)
  input_stays (calling.BlockIn n) h = part_stays n 3 (omega arith)
  input_stays (calling.BlockOut n) h = refl
  input_stays calling.WorkDone h = refl
  input_stays calling.PowerOn h = refl

  wire_stays : (count : ℕ) (l : Wiring) → used_wiring l ≤ length s → wire_text count l (s ++ t) ≡ wire_text count l s
  wire_stays count (wiring.Frame index argument room) h = refl
  wire_stays count (wiring.Block n room) h = rw (part_stays n 3 (omega arith))
  wire_stays count (wiring.Check n) h = rw (part_stays n 3 (omega arith))

  module _ (m : Making) (h : m.map + 43 + m.password ≤ length s) where
    map_stays : (map : List ℕ) → map_made m (s ++ t) map ≡ map_made m s map
    map_stays map = rw (part_stays m.map 6 (omega arith))

    buffers_stay : (buffers : Lent) → buffers_made m (s ++ t) buffers ≡ buffers_made m s buffers
    buffers_stay buffers = ap (with_map (buffers_made m s buffers)) (map_stays buffers.map)

    made_stays : (lent : Seen) → made_from m (s ++ t) lent ≡ made_from m s lent
    unfolding made_from
    made_stays lent =
        rw (
          part_stays 16 (m.map + 6) (omega arith),
          part_stays 16 (m.map + 22) (omega arith),
          four_stays s t (m.map + 38) (omega arith),
          part_stays m.password (m.map + 43) (omega arith),
        )

    card_stays : (buffers : Lent) → card_made m (s ++ t) buffers ≡ card_made m s buffers
    unfolding card_made
    card_stays buffers =
        made_stays (seen (front_of (sizes_made m) (buffers_made m (s ++ t) buffers)))
        ∙ ap (λ (l : Lent). made_from m s (seen (front_of (sizes_made m) l))) (buffers_stay buffers)

  module _ (buffers : Lent) where
    going_text_lem : (w : Progress) (g : Going) → used_going g ≤ length s → going_text w g (s ++ t) buffers ≡ going_text w g s buffers
    unfolding going_text
    going_text_lem w (Call calling) h = rw (input_stays calling h)
    going_text_lem w (Look looking) h = refl
    going_text_lem w (Wire wiring) h = wire_stays w.count wiring h

    going_buffers_lem : (w : Progress) (g : Going) → used_going g ≤ length s → going_buffers w g (s ++ t) buffers ≡ going_buffers w g s buffers
    unfolding going_buffers
    going_buffers_lem w (Call calling) h = rw (input_stays calling h)
    going_buffers_lem w (Look looking) h = refl
    going_buffers_lem w (Wire wiring) h = refl

    going_progress_lem : (w : Progress) (g : Going) → used_going g ≤ length s → going_progress w g (s ++ t) buffers ≡ going_progress w g s buffers
    unfolding going_progress
    going_progress_lem w (Call calling) h = rw (input_stays calling h)
    going_progress_lem w (Look looking) h = refl
    going_progress_lem w (Wire wiring) h = refl

    pub same_text : (w : Progress) (a : Read) → used_asked a ≤ length s → asked_text w a (s ++ t) buffers ≡ asked_text w a s buffers
    unfolding asked_text
    same_text w (Err halt.More) h = refl
    same_text w (Err (halt.Stop stop)) h = refl
    same_text w (Ok (Make making)) h = rw (card_stays making h buffers)
    same_text w (Ok (Go going)) h = going_text_lem (record_counted w) going h

    pub same_buffers : (w : Progress) (a : Read) → used_asked a ≤ length s → asked_buffers w a (s ++ t) buffers ≡ asked_buffers w a s buffers
    unfolding asked_buffers
    same_buffers w (Err halt.More) h = refl
    same_buffers w (Err (halt.Stop stop)) h = refl
    same_buffers w (Ok (Make making)) h = buffers_stay making h buffers
    same_buffers w (Ok (Go going)) h = going_buffers_lem (record_counted w) going h

    pub same_said : (w : Progress) (a : Read) (wrote : ℕ) → used_asked a ≤ length s → asked_said w a (s ++ t) buffers wrote ≡ asked_said w a s buffers wrote
    unfolding asked_said
    same_said w (Err halt.More) wrote h = refl
    same_said w (Err (halt.Stop stop)) wrote h = refl
    same_said w (Ok (Make making)) wrote h = rw (card_stays making h buffers)
    same_said w (Ok (Go going)) wrote h = rw (going_progress_lem (record_counted w) going h)
