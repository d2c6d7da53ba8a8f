-- The note and the cell at a place of a list of words, and the notes and cells up to a place. Assumes nothing.
use Rattle.std.specs.Prelude.{ℕ, ◌+◌, ◌*◌, ◌-◌, List, drop}
use Rattle.model.specs.Takes.{word, read_notes, read_cells}
use Rattle.model.specs.declared.Note.{Note}
use Rattle.model.specs.declared.Cell.{Cell}

unfoldable pub note_at : List ℕ → ℕ → Note
note_at s at = record { lane = word s at; start = word s (at + 1); end = word s (at + 2); velocity = word s (at + 3) }

unfoldable pub cell_at : List ℕ → ℕ → Cell
cell_at s at = record {
  lane = word s at;
  beat = word s (at + 1);
  side = word s (at + 2);
  before = word s (at + 3);
  after = word s (at + 4);
  velocity = word s (at + 5);
}

-- The last k notes, and the last k cells, of those that stand up to place `end`.
unfoldable pub last_notes : List ℕ → ℕ → ℕ → List Note
unfolding read_notes
last_notes ws end k = read_notes k (drop (end - 4 * k) ws)

unfoldable pub last_cells : List ℕ → ℕ → ℕ → List Cell
unfolding read_cells
last_cells ws end k = read_cells k (drop (end - 6 * k) ws)
