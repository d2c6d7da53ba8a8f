-- The halves of a split: what a half has of a take, note by note, and the shelf that is read.
-- Assumes nothing.
use Rattle.std.specs.Prelude.{◌≡◌, Bool, true, false, cond, List, [], ◌∷◌, ℕ, ◌+◌, ◌-◌, ◌*◌, ◌≤◌, ◌<◌, leb, length}
use Rattle.std.proofs.Math.Nat.{le-add_left}
use Rattle.std.proofs.Math.Option.{Option, none, some}
use Rattle.words.specs.Apart.{Apart}
use Rattle.words.specs.Splice.{splice}
use Rattle.model.specs.Lists.{cons_if, gather}
use Rattle.model.specs.Binding.{stands_alone}
use Rattle.model.specs.Takes.{Take, note_words, word, split_left, split_right}
use Rattle.model.specs.Soundness.{sound_shelf}
use Rattle.model.specs.Limits.{max_shelves, max_words}
use Rattle.model.specs.Session.{header_words, shelf}
use Rattle.model.specs.Questions.{header_ok, take_at}
use Rattle.model.specs.declared.Header.{Header}
use Rattle.model.specs.declared.Note.{Note}
use Rattle.model.specs.declared.Cell.{Cell}
use Rattle.laws.specs.Sweep.{skip}
use Rattle.laws.specs.Cutting.{note_back, first_cell, closing_cell, cut_left_from, cut_right_from}
use Rattle.session.specs.Reading.{last_notes, last_cells}
use Rattle.cuts.specs.declared.halves.Half.{Half}
use Rattle.cuts.specs.declared.halves.Side.{Side}
use Rattle.cuts.specs.declared.halves.Side.TheVariants.{Left, Right}
use Rattle.cuts.specs.declared.halves.Contents.{Contents}

-- ---- a half

abbrev pub is_right : Side → Bool
is_right Left = false
is_right Right = true

-- The two halves of a split at beat k; the right one of a take of n beats.
abbrev pub left_half : ℕ → ℕ → Half
left_half δ k = record { side = Left; beat = k; line = k * δ; edge = k - 1; beats = k }

abbrev pub right_half : ℕ → ℕ → ℕ → Half
right_half δ k n = record { side = Right; beat = k; line = k * δ; edge = k; beats = n - k }

-- The line and the beats that a half's beat and side give it.
pub record HalfOk (δ : ℕ) (v : Half) : Type 0 where
  pub line_is : v.line ≡ v.beat * δ
  pub edge_is : v.edge ≡ cond (is_right v.side) v.beat (v.beat - 1)

-- The half of a take.
unfoldable pub half_of : ℕ → Half → Take → Take
unfolding split_left split_right
half_of δ v t = cond (is_right v.side) (split_right δ v.beat t) (split_left δ v.beat t)

-- ---- its part of a note

-- The cells that a note leaves to those behind it.
unfoldable pub passed : Half → Note → List Cell → List Cell
unfolding skip
passed v n cs = cond (leb n.end v.line) cs (cond (leb v.line n.start) cs (skip n.lane v.edge cs))

-- The half's own cell on the line, where the cells from its beat on are these.
unfoldable pub line_cell : Half → List Cell → Option Cell
unfolding first_cell closing_cell
line_cell v cs = cond (is_right v.side) (first_cell cs) (closing_cell cs)

-- The part of a note that crosses the line. The right half's has the velocity of its cell.
unfoldable pub crossed_note : Half → Note → ℕ → Note
crossed_note v n velocity =
    cond (is_right v.side) (record { lane = n.lane; start = 0; end = n.end - v.line; velocity = velocity })
    (record { lane = n.lane; start = n.start; end = v.line; velocity = n.velocity })

-- It is there if the half's cell stands alone.
unfoldable pub crossed_by : Header → Half → Note → Option Cell → List Note
unfolding crossed_note stands_alone
crossed_by h v n none = []
crossed_by h v n (some c) = cons_if (stands_alone h c) (crossed_note v n c.velocity) []

unfoldable pub across_parts : Header → Half → Note → List Cell → List Note
unfolding crossed_by line_cell
across_parts h v n cs = crossed_by h v n (line_cell v cs)

-- The half's part of any note.
unfoldable pub note_part : Header → Half → Note → List Cell → List Note
unfolding across_parts
note_part h v n cs =
    cond (leb n.end v.line) (cond (is_right v.side) [] (n ∷ []))
    (cond (leb v.line n.start) (cond (is_right v.side) (note_back v.line n ∷ []) []) (across_parts h v n cs))

-- Its parts of notes, in one pass over notes and cells.
unfoldable pub note_parts : Header → Half → List Note → List Cell → List Note
unfolding cut_left_from cut_right_from
note_parts h v ns cs = cond (is_right v.side) (cut_right_from h v.beat ns cs) (cut_left_from h v.beat ns cs)

-- ---- the shelf that is read

-- The most words that a session has.
abbrev pub max_session : ℕ
max_session = header_words + max_shelves * max_words

-- The notes and cells of a shelf at a place, by its counts N and C.
abbrev pub contents_by : ℕ → ℕ → ℕ → Contents
contents_by at N C = record {
  notes = record { end = at + 3 + 4 * N; left = N; fits = le-add_left (4 * N) (at + 3) };
  cells = record { end = at + 3 + 4 * N + 6 * C; left = C; fits = le-add_left (6 * C) (at + 3 + 4 * N) };
}

unfoldable pub contents_at : List ℕ → ℕ → Contents
contents_at s at = contents_by at (word s (at + 1)) (word s (at + 2))

-- The parts of the last notes, where so many cells are left.
unfoldable pub notes_left : Header → Half → List ℕ → Contents → ℕ → ℕ → List Note
unfolding note_parts last_notes last_cells
notes_left h v s from k left = note_parts h v (last_notes s from.notes.end k) (last_cells s from.cells.end left)

-- ---- what is asked, and what is left

-- Notes written from place at on, and the place r behind them.
pub record Noted (s : List ℕ) (at : ℕ) (notes : List Note) (t : List ℕ) (r : ℕ) : Type 0 where
  pub words : t ≡ splice s at (gather note_words notes)
  pub behind : r ≡ at + 4 * length notes

-- The notes and cells of a shelf stand in their places from `low` on, and apart from the words that are written.
pub record Placed (s : List ℕ) (from : Contents) (to size : ℕ) : Type 0 where
  pub low : ℕ
  pub notes_in_lem : low + 4 * from.notes.left ≤ from.notes.end
  pub cells_in : low + 6 * from.cells.left ≤ from.cells.end
  pub order : from.notes.end ≤ from.cells.end
  pub inside : from.cells.end ≤ length s
  pub apart : Apart low (from.cells.end - low) to size
  pub room : to + size ≤ length s

-- A sound shelf, another shelf, and a half that the take in the first has.
pub record HalfAsks (s : List ℕ) (h : Header) (v : Half) (take to : ℕ) : Type 0 where
  pub header : header_ok h (length s) ≡ true
  pub take_below : take < h.shelves
  pub to_below : to < h.shelves
  pub differ : take ≡ to → ⊥
  pub sound : sound_shelf h (shelf h s take) ≡ true
  pub half : HalfOk h.delta v
  pub beats_are : v.beats ≡ (half_of h.delta v (take_at h s take)).beats
