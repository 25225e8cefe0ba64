-- A script played in pieces. What a record does is the programs': here it is any `step`, from what is kept (a card, a bus, ..) and the bytes
-- at hand to one record's line and what is kept behind it.
-- Assumes nothing.
use Rattle.std.specs.Prelude.{List, [], ◌∷◌, ◌++◌, ℕ, zero, suc, length, take, drop}
use Rattle.playing.specs.declared.Then.{Then}
use Rattle.playing.specs.declared.Then.TheVariants.{Goes, Stops, Waits, NoRoom}

-- one record: its line, what is kept behind it, how many bytes it took, and how the script goes on
pub record Step (Kept : Type 0) : Type 0 where
  pub line : List ℕ
  pub kept : Kept
  pub used : ℕ
  pub then : Then

-- a piece of a script: the lines of its whole records, what is kept behind them, the bytes that are left over, and how the script goes on
pub record Played (Kept : Type 0) : Type 0 where
  pub text : List ℕ
  pub kept : Kept
  pub left : List ℕ
  pub then : Then

-- text before that of what comes behind it
abbrev pub behind : {Kept : Type 0} → List ℕ → Played Kept → Played Kept
behind text played = record { text = text ++ played.text; kept = played.kept; left = played.left; then = played.then }

-- nothing played yet
abbrev pub unplayed : {Kept : Type 0} → Kept → List ℕ → Then → Played Kept
unplayed kept s then = record { text = []; kept = kept; left = s; then = then }

module _ {Kept : Type 0} (step : Kept → List ℕ → Step Kept) where
  -- at most n records of a piece: then there is no room for another line
  unfoldable pub played_in : ℕ → Kept → List ℕ → Played Kept
  played_in zero kept s = unplayed kept s NoRoom
  played_in (suc n) kept s =
      elim (step kept s).then [
        | Goes ↦ behind (step kept s).line (played_in n (step kept s).kept (drop (step kept s).used s))
        | Stops ↦ record { text = (step kept s).line; kept = (step kept s).kept; left = []; then = Stops }
        | Waits ↦ unplayed kept s Waits
        | NoRoom ↦ unplayed kept s NoRoom
      ]

  -- all of them: each takes a byte or more, so that there are no more records than bytes, and one turn more finds that nothing is left
  unfoldable pub played_of : Kept → List ℕ → Played Kept
  played_of kept s = played_in (suc (length s)) kept s

  -- more bytes behind a piece that was played, played to the end: none where the script stopped
  unfoldable pub next_piece : Played Kept → List ℕ → Played Kept
  next_piece played more =
      elim played.then [
        | Goes ↦ played
        | Stops ↦ played
        | Waits ↦ behind played.text (played_of played.kept (played.left ++ more))
        | NoRoom ↦ behind played.text (played_of played.kept (played.left ++ more))
      ]

  -- a turn of a program: more bytes are read behind those that are left over, and at most n records of them played
  unfoldable pub fed_to : ℕ → Played Kept → List ℕ → Played Kept
  fed_to n played more =
      elim played.then [
        | Goes ↦ played
        | Stops ↦ played
        | Waits ↦ behind played.text (played_in n played.kept (played.left ++ more))
        | NoRoom ↦ behind played.text (played_in n played.kept (played.left ++ more))
      ]

  -- turn by turn; where there was no room for all lines a turn reads nothing, an empty piece
  unfoldable pub fed_all : ℕ → Played Kept → List (List ℕ) → Played Kept
  fed_all n played [] = played
  fed_all n played (piece ∷ pieces) = fed_all n (fed_to n played piece) pieces

-- all pieces, one behind the other
unfoldable pub all_of : List (List ℕ) → List ℕ
all_of [] = []
all_of (piece ∷ pieces) = piece ++ all_of pieces

-- n bytes from a place on, moved to the front
abbrev pub kept_of : ℕ → ℕ → List ℕ → List ℕ
kept_of from n bytes = take n (drop from bytes) ++ drop n bytes
