-- Making the cells of notes: what each function is asked, and what it leaves. Assumes nothing.
use Rattle.std.specs.Prelude.{◌≡◌, true, ◌&&◌, List, [], ◌∷◌, ◌++◌, ℕ, suc, ◌+◌, ◌-◌, ◌*◌, ◌≤◌, ◌<◌, leb, length, drop}
use Rattle.words.specs.Splice.{splice}
use Rattle.model.specs.Lists.{cons_if, gather, count_from}
use Rattle.model.specs.Limits.{max_beats, max_delta}
use Rattle.model.specs.Pieces.{first_beat, last_beat, cell_at, cells_in_beat, cells_of_note}
use Rattle.model.specs.Takes.{cell_words, read_notes}
use Rattle.model.specs.Soundness.{notes_ok}
use Rattle.model.specs.declared.Note.{Note}
use Rattle.model.specs.declared.Cell.{Cell}

-- Cells written from place at on, and the place r behind them.
pub record Made (s : List ℕ) (at : ℕ) (cells : List Cell) (t : List ℕ) (r : ℕ) : Type 0 where
  pub words : t ≡ splice s at (gather cell_words cells)
  pub behind : r ≡ at + 6 * length cells

-- The cell of a note on a line of a beat, if the note touches the line.
unfoldable pub touched_cells : Note → ℕ → ℕ → ℕ → List Cell
unfolding cell_at
touched_cells n beat side line = cons_if (leb n.start line && leb line n.end) (cell_at n beat side line) []

-- The cells on a line that a note crosses, at the end of a beat.
unfoldable pub crossed_cells : Note → ℕ → ℕ → List Cell
unfolding cell_at
crossed_cells n beat line = cell_at n beat 1 line ∷ cell_at n (suc beat) 0 line ∷ []

-- The cells of a note from the closing line of a beat on.
unfoldable pub cells_behind : ℕ → Note → ℕ → List Cell
unfolding touched_cells cells_in_beat
cells_behind δ n beat = touched_cells n beat 1 (suc beat * δ) ++ gather (cells_in_beat δ n) (count_from (last_beat δ n - beat) (suc beat))

-- A note in range, a beat that it has a piece in with its closing line, and room for the cells from there on.
pub record LinesAsks (s : List ℕ) (at δ : ℕ) (n : Note) (first next : ℕ) : Type 0 where
  pub note : (0 < δ) × (δ ≤ max_delta) × (n.start < n.end) × (n.end ≤ max_beats * δ)
  pub closes : next ≡ suc first * δ
  pub low : first_beat δ n ≤ first
  pub high : first ≤ last_beat δ n
  pub room : at + 6 * length (cells_behind δ n first) ≤ length s

-- A note in range, and room for all its cells.
pub record NoteAsks (s : List ℕ) (at δ : ℕ) (n : Note) : Type 0 where
  pub note : (0 < δ) × (δ ≤ max_delta) × (n.start < n.end) × (n.end ≤ max_beats * δ)
  pub room : at + 6 * length (cells_of_note δ n) ≤ length s

-- The cells of the notes that stand at place at.
unfoldable pub cells_at : ℕ → List ℕ → ℕ → ℕ → List Cell
unfolding cells_of_note read_notes
cells_at δ s at count = gather (cells_of_note δ) (read_notes count (drop at s))

-- Notes of a recording that stand at place at, and room for their cells behind them.
pub record CellsAsks (s : List ℕ) (at count δ : ℕ) : Type 0 where
  pub beats : ℕ
  pub range : (0 < δ) × (δ ≤ max_delta) × (beats ≤ max_beats)
  pub ok : notes_ok δ beats (read_notes count (drop at s)) ≡ true
  pub room : at + 4 * count + 6 * length (cells_at δ s at count) ≤ length s
