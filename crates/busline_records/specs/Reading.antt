-- Document 01, "The shared line": "records are one byte of kind, then a body whose length the kind fixes". What the record at the front of a
-- script asks for.
-- Assumes nothing.
use Rattle.std.specs.Prelude.{List, [], ◌∷◌, ◌++◌, ℕ, eqb, leb, ltb, length, take, drop, get_or, replicate}
use Rattle.base.specs.Choice.{pick, unless}
use Rattle.base.specs.Output.{copied}
use Rattle.wire.specs.Responses.{last_byte}
use Rattle.busline_records.specs.declared.Asked.{Asked}
use Rattle.busline_records.specs.declared.Asked.TheVariants.{Card, Frame, BadKind, More}

-- what is asked for where the script has so many bytes behind the kind: more bytes, where it has fewer
abbrev pub complete : ℕ → List ℕ → Asked → Asked
complete body s then = unless (ltb body (length s)) More then

-- "01, 15 CID bytes ..; 02, a 6-byte frame. .. Another kind prints `bad kind`"
abbrev pub kind_asked : ℕ → List ℕ → Asked
kind_asked kind s = pick (eqb kind 1) (complete 15 s Card) (pick (eqb kind 2) (complete 6 s Frame) BadKind)

-- where there are no bytes there is no record yet
unfoldable pub asked_of : List ℕ → Asked
asked_of s = unless (leb 1 (length s)) More (kind_asked (get_or s 0 0) s)

-- the bodies: 15 bytes, or 6
abbrev pub cid_body : List ℕ → List ℕ
cid_body s = take 15 (drop 1 s)

abbrev pub frame_body : List ℕ → List ℕ
frame_body s = take 6 (drop 1 s)

-- "15 CID bytes (it adds the last ..)"
unfoldable pub register_of : List ℕ → List ℕ
register_of fifteen = fifteen ++ (last_byte fifteen ∷ [])

-- the identifier of a record: a body that is cut, of which no card is made, is filled with zeros
abbrev pub identifier_of : List ℕ → List ℕ
identifier_of s = register_of (copied (cid_body s) (replicate 15 0) 0)
