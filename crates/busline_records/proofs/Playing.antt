-- Laws of a piece of a script, played record by record.
--   wrote      the length that a record tells is that of its line
--   read_on    the record at a place of a script, from the part that was read
--   line_at    its line, from the part of the output that was written
--   Here       what holds after i records
--   begin      before the first
--   on         behind one with which the script goes on
--   taken      which has a byte or more
--   over_stops, over_waits, over_full   at one that ends the piece, and
--   all        where there is no room for another: the piece is played
-- Assumes nothing.
use mathlib.Core.Path.{◌≡◌, refl, sym, ap, ap₂, ◌∙◌}
use mathlib.Core.Bool.{true, false}
use mathlib.Core.List.{List, [], ◌++◌, append-nil}
use Prim.Native.Nat.{ℕ, suc, ◌+◌, ◌-◌, ◌*◌, ◌/◌, ◌≤◌, ◌<◌}
use native.Mathlib.Omega.{arith}
use borrow.Author.Tests.{le-leb}
use lib.Dec.{leb}
use lib.ListN.{length, take, drop, length-append, length-drop}
use lib.Seq.{take_all, drop-drop}
use Rattle.base.proofs.Cases.{cases, clash}
use Rattle.playing.proofs.Turns.{behind_both, none, goes, stops, waits}
use Rattle.playing.specs.Playing.{Step, Played, behind, unplayed, played_in}
use Rattle.playing.specs.declared.Then.{Then}
use Rattle.playing.specs.declared.Then.TheVariants.{Goes, Stops, Waits, NoRoom}
use Rattle.text.proofs.Writing.{wrote_part, wrote_both, wrote_none, wrote_as, wrote_at, wrote_line}
use Rattle.text.specs.Writing.{Wrote}
use Rattle.busline_records.proofs.Steps.{uses}
use Rattle.busline_records.specs.Reading.{asked_of}
use Rattle.busline_records.specs.Printing.{roomy}
use Rattle.busline_records.specs.Record.{card_said, frame_said, left_at, put_off, asked_text, asked_said, text_of, said_of}
use Rattle.busline_records.specs.Transcript.{step_by, record_step, piece_of, said_by}
use Rattle.busline_records.specs.declared.Asked.{Asked}
use Rattle.busline_records.specs.declared.Asked.TheVariants.{Card, Frame, BadKind, More}
use Rattle.busline_records.specs.declared.Progress.{Progress}
use Rattle.playing.specs.declared.Said.{Said}

asked_wrote : (w : Progress) (asked : Asked) (s : List ℕ) → (asked_said w asked s).wrote ≡ length (asked_text w asked s)
unfolding asked_said card_said frame_said asked_text
asked_wrote w Card s = refl
asked_wrote w Frame s = refl
asked_wrote w BadKind s = refl
asked_wrote w More s = refl

pub wrote : (w : Progress) (s : List ℕ) (room : ℕ) → (said_of w s room).wrote ≡ length (text_of w s room)
unfolding said_of text_of
wrote w s room =
    cases (leb roomy room)
    (λ (t : leb roomy room ≡ true). rw t (asked_wrote w (asked_of s) s))
    (λ (t : leb roomy room ≡ false). rw t)

-- rest is the part of the script that was read, part that of the output that was lent
module _ (w : Progress) (s rest o part : List ℕ) (at from : ℕ) (said : Said Progress) (er : rest ≡ take (length s) (drop at s))
    (ep : part ≡ take (length o - from) (drop from o)) (es : said ≡ said_of w rest (length part)) where
  rest_whole : rest ≡ drop at s
  rest_whole = er ∙ take_all (length s) (drop at s) (omega (arith, length-drop at s))

  part_whole : part ≡ drop from o
  part_whole = ep ∙ take_all (length o - from) (drop from o) (omega (arith, length-drop from o))

  part_long : length part ≡ length o - from
  part_long = ap length part_whole ∙ length-drop from o

  pub read_on : said ≡ said_of w (drop at s) (length o - from)
  read_on = es ∙ ap₂ (λ (l : List ℕ) (n : ℕ). said_of w l n) rest_whole part_long

  -- p is the part afterwards, q the output
  pub line_at : (p q : List ℕ) → from ≤ length o → p ≡ text_of w rest (length part) ++ drop said.wrote part → length p ≡ length part
      → q ≡ take from o ++ (p ++ drop (length o - from) (drop from o)) → Wrote o q from (from + said.wrote) (text_of w (drop at s) (length o - from))
  line_at p q inside e el eq =
      let text = text_of w rest (length part) in
      let n : said.wrote ≡ length text = ap (λ (x : Said Progress). x.wrote) es ∙ wrote w rest (length part) in
      let a = ap length e ∙ length-append text (drop said.wrote part) in
      let d = length-drop said.wrote part in
      let l = part_long in
      wrote_as (ap₂ (λ (x : List ℕ) (k : ℕ). text_of w x k) rest_whole part_long)
      (wrote_part o q text from (length o - from) (from + said.wrote) (omega arith) (omega arith) (omega arith)
      (eq
      ∙ ap (λ (x : List ℕ). take from o ++ (x ++ drop (length o - from) (drop from o)))
      (e ∙ ap₂ (λ (k : ℕ) (x : List ℕ). text ++ drop k x) n part_whole)))

-- a record that is waited for prints nothing and changes nothing, and where there is room there is room
asked_idle : (w : Progress) (asked : Asked) (s : List ℕ) → (asked_said w asked s).then ≡ Waits
    → (asked_text w asked s ≡ []) × (asked_said w asked s ≡ put_off w Waits)
unfolding asked_text asked_said card_said frame_said
asked_idle w Card s e = clash cc
asked_idle w Frame s e = clash cc
asked_idle w BadKind s e = clash cc
asked_idle w More s e = (refl, refl)

asked_roomed : {P : Type 0} (w : Progress) (asked : Asked) (s : List ℕ) → (asked_said w asked s).then ≡ NoRoom → P
unfolding asked_said card_said frame_said
asked_roomed w Card s e = clash cc
asked_roomed w Frame s e = clash cc
asked_roomed w BadKind s e = clash cc
asked_roomed w More s e = clash cc

-- what `play` answers and leaves in the output o, of a script s
abbrev pub Finished : Progress → List ℕ → List ℕ → Said Progress → List ℕ → Type 0
Finished w s o r after = (r ≡ said_by (piece_of w s (length o)) (length s)) × (after ≡ (piece_of w s (length o)).text ++ drop r.wrote o)

finish : (w : Progress) (s o after : List ℕ) (played : Played Progress) (u n : ℕ) (r : Said Progress) → played_in record_step (length o / roomy) w s ≡ played
    → Wrote o after 0 n played.text → u ≡ length s - length played.left → r ≡ left_at played.kept u n played.then → Finished w s o r after
unfolding piece_of
finish w s o after played u n r ep et eu er = (
  er ∙ ap₂ (λ (x y : ℕ). left_at played.kept x y played.then) eu (wrote_line et)
      ∙ ap (λ (p : Played Progress). said_by p (length s)) (sym ep),
  wrote_at et
      ∙ ap₂ (λ (x : List ℕ) (k : ℕ). x ++ drop k o) (ap (λ (p : Played Progress). p.text) (sym ep)) (ap (λ (x : Said Progress). x.wrote) (sym er)),
)

-- after i records of a script s: what is kept, how many bytes of it were used and of the output written; w is what was kept before, o the output
pub record Here (w : Progress) (s o : List ℕ) (lines : ℕ) (kept : Progress) (used written : ℕ) (out : List ℕ) (i : ℕ) : Type 0 where
  pub turns : i ≤ lines
  pub inside : used ≤ length s
  pub short : written ≤ i * roomy
  pub same : length out ≡ length o
  pub text : Wrote o out 0 written (take written out)
  pub rest : played_in record_step lines w s ≡ behind (take written out) (played_in record_step (lines - i) kept (drop used s))

pub begin : (w : Progress) (s o : List ℕ) (lines : ℕ) → Here w s o lines w 0 0 o 0
begin w s o lines =
    let n : lines ≡ lines - 0 = omega arith in
    record {
      turns = omega arith;
      inside = omega arith;
      short = omega arith;
      same = refl;
      text = wrote_none o;
      rest = ap (λ (k : ℕ). played_in record_step k w s) n;
    }

-- a turn
module _ (w : Progress) (s o : List ℕ) (lines : ℕ) (kept : Progress) (used written : ℕ) (out : List ℕ) (i : ℕ)
    (here : Here w s o lines kept used written out i) (more : i < lines) (room : lines * roomy ≤ length o) (said : Said Progress) (after : List ℕ)
    (es : said ≡ said_of kept (drop used s) (length out - written))
    (et : Wrote out after written (written + said.wrote) (text_of kept (drop used s) (length out - written))) (long : said.wrote ≤ roomy) where
  roomed : leb roomy (length out - written) ≡ true
  roomed =
      let h = here.short in
      let l = here.same in
      le-leb roomy (length out - written) (omega arith)

  stepped : record_step kept (drop used s) ≡ step_by (text_of kept (drop used s) (length out - written)) said
  unfolding record_step text_of said_of
  stepped = rw (es, roomed) refl

  text_on : Wrote o after 0 (written + said.wrote) (take written out ++ text_of kept (drop used s) (length out - written))
  text_on = wrote_both here.text et

  count : lines - i ≡ suc (lines - (i + 1))
  count = omega arith

  -- the step's field by the answer's
  then_of : (t : Then) → said.then ≡ t → (record_step kept (drop used s)).then ≡ t
  then_of t e = ap (λ (x : Step Progress). x.then) stepped ∙ e

  pub taken : said.then ≡ Goes → (1 ≤ said.used) × (used + said.used ≤ length s)
  taken e =
      let u = uses kept (drop used s) (then_of Goes e) in
      let f = ap (λ (x : Step Progress). x.used) stepped in
      let d = length-drop used s in
      let l = here.inside in
      (omega arith, omega arith)

  pub on : said.then ≡ Goes → Here w s o lines said.progress (used + said.used) (written + said.wrote) after (i + 1)
  on e =
      let h = here.short in
      let rest = drop used s in
      let n = lines - (i + 1) in
      record {
        turns = omega arith;
        inside = (taken e).1;
        short = omega arith;
        same = text_on.same;
        text = wrote_as (sym text_on.front) text_on;
        rest =
            here.rest
            ∙ ap (λ (p : Played Progress). behind (take written out) p)
            (ap (λ (k : ℕ). played_in record_step k kept rest) count
            ∙ goes record_step n kept rest (then_of Goes e)
            ∙ ap (λ (x : Step Progress). behind x.line (played_in record_step n x.kept (drop x.used rest))) stepped)
            ∙ behind_both (take written out) (text_of kept rest (length out - written)) (played_in record_step n said.progress (drop said.used rest))
            ∙ ap₂ (λ (t x : List ℕ). behind t (played_in record_step n said.progress x)) (sym text_on.front) (drop-drop said.used used s);
      }

  -- the turn at which the piece ends
  module _ (ends : lines ≡ length o / roomy) where
    played_as : (played : Played Progress) → played_in record_step (suc (lines - (i + 1))) kept (drop used s) ≡ played
        → played_in record_step (length o / roomy) w s ≡ behind (take written out) played
    played_as played e =
        ap (λ (k : ℕ). played_in record_step k w s) (sym ends)
        ∙ here.rest
        ∙ ap (λ (p : Played Progress). behind (take written out) p) (ap (λ (k : ℕ). played_in record_step k kept (drop used s)) count ∙ e)

    pub over_stops : (r : Said Progress) → said.then ≡ Stops → r ≡ left_at said.progress (length s) (written + said.wrote) Stops → Finished w s o r after
    over_stops r e er =
        let n = lines - (i + 1) in
        let rest = drop used s in
        finish w s o after
        (behind (take written out) (record { text = text_of kept rest (length out - written); kept = said.progress; left = []; then = Stops }))
        (length s) (written + said.wrote) r
        (played_as (record { text = text_of kept rest (length out - written); kept = said.progress; left = []; then = Stops })
        (stops record_step n kept rest (then_of Stops e)
        ∙ ap (λ (x : Step Progress). record { text = x.line; kept = x.kept; left = []; then = Stops }) stepped))
        text_on (omega arith) er

    asked_here : said ≡ asked_said kept (asked_of (drop used s)) (drop used s)
    unfolding said_of
    asked_here = es ∙ rw roomed refl

    line_here : text_of kept (drop used s) (length out - written) ≡ asked_text kept (asked_of (drop used s)) (drop used s)
    unfolding text_of
    line_here = rw roomed refl

    pub over_waits : (r : Said Progress) → said.then ≡ Waits → r ≡ left_at said.progress used (written + said.wrote) Waits → Finished w s o r after
    over_waits r e er =
        let n = lines - (i + 1) in
        let rest = drop used s in
        let idle = asked_idle kept (asked_of rest) rest (ap (λ (x : Said Progress). x.then) (sym asked_here) ∙ e) in
        let none_said : said ≡ put_off kept Waits = asked_here ∙ idle.1 in
        let d = length-drop used s in
        let l = here.inside in
        finish w s o after (behind (take written out) (unplayed kept rest Waits)) used (written + said.wrote) r
        (played_as (unplayed kept rest Waits) (waits record_step n kept rest (then_of Waits e)))
        (wrote_as (ap (λ (x : List ℕ). take written out ++ x) (line_here ∙ idle.0)) text_on)
        (omega arith)
        (er ∙ ap (λ (x : Said Progress). left_at x.progress used (written + said.wrote) Waits) none_said)

    pub over_full : (r : Said Progress) → said.then ≡ NoRoom → Finished w s o r after
    over_full r e = asked_roomed kept (asked_of (drop used s)) (drop used s) (ap (λ (x : Said Progress). x.then) (sym asked_here) ∙ e)

pub all : (w : Progress) (s o : List ℕ) (lines : ℕ) (kept : Progress) (used written : ℕ) (out : List ℕ) (i : ℕ) (r : Said Progress)
    → Here w s o lines kept used written out i → lines ≤ i → lines ≡ length o / roomy → r ≡ left_at kept used written NoRoom → Finished w s o r out
all w s o lines kept used written out i r here h ends er =
    let t = here.turns in
    let z : lines - i ≡ 0 = omega arith in
    let d = length-drop used s in
    let l = here.inside in
    finish w s o out (behind (take written out) (unplayed kept (drop used s) NoRoom)) used written r
    (ap (λ (k : ℕ). played_in record_step k w s) (sym ends)
    ∙ here.rest
    ∙ ap (λ (p : Played Progress). behind (take written out) p) (ap (λ (k : ℕ). played_in record_step k kept (drop used s)) z ∙ none record_step kept (drop used s)))
    (wrote_as (sym (append-nil (take written out))) here.text)
    (omega arith) er
