-- Both halves of a split in one pass: what each function is asked, and what it leaves. Assumes nothing.
use Rattle.std.specs.Prelude.{◌≡◌, true, false, cond, List, [], ℕ, ◌+◌, ◌-◌, ◌*◌, ◌≤◌, leb, ltb, length}
use Rattle.words.specs.Apart.{Apart}
use Rattle.words.specs.Splice.{splice}
use Rattle.model.specs.Lists.{cons_if, gather}
use Rattle.model.specs.Limits.{max_words}
use Rattle.model.specs.Takes.{note_words, cell_to}
use Rattle.model.specs.declared.Header.{Header}
use Rattle.model.specs.declared.Note.{Note}
use Rattle.model.specs.declared.Cell.{Cell}
use Rattle.session.specs.Reading.{last_cells}
use Rattle.cuts.specs.declared.halves.Half.{Half}
use Rattle.cuts.specs.declared.halves.Contents.{Contents}
use Rattle.cuts.specs.declared.halves.Ends.{Ends}
use Rattle.cuts.specs.declared.halves.CellPlace.{CellPlace}
use Rattle.cuts.specs.declared.halves.Cursors.{Cursors}
use Rattle.cuts.specs.Halving.{is_right, HalfAsks, passed, note_part, notes_left}

-- ---- words written from two places on

-- The words ls from the left place on, then rs from the right place on, and the places behind them.
pub record BothPut (s : List ℕ) (at : Ends) (ls rs : List ℕ) (t : List ℕ) (r : Ends) : Type 0 where
  pub words : t ≡ splice (splice s at.left ls) at.right rs
  pub left_behind : r.left ≡ at.left + length ls
  pub right-behind : r.right ≡ at.right + length rs

-- The notes and cells of a shelf stand in their places from `low` on, apart from the words that are written, which are apart too.
pub record BothPlaced (s : List ℕ) (from : Contents) (to : Ends) (m n : ℕ) : Type 0 where
  pub low : ℕ
  pub notes_in_lem : low + 4 * from.notes.left ≤ from.notes.end
  pub cells_in : low + 6 * from.cells.left ≤ from.cells.end
  pub order : from.notes.end ≤ from.cells.end
  pub inside : from.cells.end ≤ length s
  pub left-from : Apart low (from.cells.end - low) to.left m
  pub right-from : Apart low (from.cells.end - low) to.right n
  pub apart : Apart to.left m to.right n
  pub left-room : to.left + m ≤ length s
  pub right-room : to.right + n ≤ length s

-- ---- notes

-- The left half and the right half of one split.
pub record Sides (a b : Half) : Type 0 where
  pub left_is : is_right a.side ≡ false
  pub right_is : is_right b.side ≡ true
  pub beat_is : b.beat ≡ a.beat
  pub line_is : b.line ≡ a.line
  pub edges : a.edge ≤ b.edge

-- A half's part of a note, by the cells that the notes before it left.
unfoldable pub part_from : Header → Half → Note → List Cell → List Note
unfolding note_part passed
part_from h v n cs = note_part h v n (passed v n cs)

-- Room for a note's parts, and cells up to one place to look at, apart from the left part.
pub record PartsAsks (s : List ℕ) (h : Header) (a b : Half) (n : Note) (at : Cursors) : Type 0 where
  pub openings_end : at.openings.end ≡ at.closings.end
  pub order : at.openings.left ≤ at.closings.left
  pub inside : at.closings.end ≤ length s
  pub left-room : at.to.left + 4 * length (part_from h a n (last_cells s at.closings.end at.closings.left)) ≤ length s
  pub right-room : at.to.right + 4 * length (part_from h b n (last_cells s at.closings.end at.openings.left)) ≤ length s
  pub apart : Apart (at.closings.end - 6 * at.openings.left) (6 * at.openings.left) at.to.left
      (4 * length (part_from h a n (last_cells s at.closings.end at.closings.left)))

-- Both parts written, and the cells that the note leaves to those behind it.
pub record PartsPut (s : List ℕ) (h : Header) (a b : Half) (n : Note) (at : Cursors) (t : List ℕ) (r : Cursors) : Type 0 where
  pub closings_end : r.closings.end ≡ at.closings.end
  pub openings_end : r.openings.end ≡ at.closings.end
  pub closings_are : last_cells s at.closings.end r.closings.left ≡ passed a n (last_cells s at.closings.end at.closings.left)
  pub closings_few : r.closings.left ≤ at.closings.left
  pub openings_are : last_cells s at.closings.end r.openings.left ≡ passed b n (last_cells s at.closings.end at.openings.left)
  pub openings_few : r.openings.left ≤ at.openings.left
  pub order : r.openings.left ≤ r.closings.left
  pub put : BothPut s at.to (gather note_words (part_from h a n (last_cells s at.closings.end at.closings.left)))
      (gather note_words (part_from h b n (last_cells s at.closings.end at.openings.left))) t r.to

pub record NotesAsks (s : List ℕ) (h : Header) (a b : Half) (from : Contents) (to : Ends) : Type 0 where
  pub placed : BothPlaced s from to (4 * length (notes_left h a s from from.notes.left from.cells.left)) (4 * length (notes_left h b s from from.notes.left from.cells.left))

-- ---- cells

-- A cell, if it is the left half's of a split at beat k, and if it is the right half's, counted from beat k on.
unfoldable pub left_cell : ℕ → Cell → List Cell
left_cell k c = cons_if (ltb c.beat k) c []

unfoldable pub right_cell : ℕ → Cell → List Cell
right_cell k c = cons_if (leb k c.beat) (cell_to (c.beat - k) c) []

-- Where a cell goes, its beat there, and the places behind each half's cells then.
unfoldable pub cell_place : ℕ → ℕ → Ends → CellPlace
cell_place k own at =
    cond (ltb own k) (record { to = at.left; beat = own; behind = record { left = at.left + 6; right = at.right } })
    (record { to = at.right; beat = own - k; behind = record { left = at.left; right = at.right + 6 } })

-- Behind a cell at such a place there still is a place.
abbrev pub max_place : ℕ
max_place = 18446744073709551609

-- Each half's cells of the last cells.
unfoldable pub left_cells : ℕ → List ℕ → Contents → ℕ → List Cell
unfolding left_cell last_cells
left_cells k s from left = gather (left_cell k) (last_cells s from.cells.end left)

unfoldable pub right_cells : ℕ → List ℕ → Contents → ℕ → List Cell
unfolding right_cell last_cells
right_cells k s from left = gather (right_cell k) (last_cells s from.cells.end left)

pub record CellsAsks (s : List ℕ) (k : ℕ) (from : Contents) (to : Ends) : Type 0 where
  pub placed : BothPlaced s from to (6 * length (left_cells k s from from.cells.left)) (6 * length (right_cells k s from from.cells.left))

-- ---- the halves

-- A shelf of so many words whose notes stand up to `middle` and whose cells up to `end`.
pub record CountsAsks (s : List ℕ) (at words middle end : ℕ) : Type 0 where
  pub few : words ≤ max_words
  pub notes_low : at + 3 ≤ middle
  pub cells_low : middle ≤ end
  pub high : end ≤ at + words
  pub inside : at + words ≤ length s

-- A sound shelf, two other shelves, and both halves of the take in the first.
pub record BothAsks (s : List ℕ) (h : Header) (a b : Half) (take left right : ℕ) : Type 0 where
  pub sides : Sides a b
  pub left_asks : HalfAsks s h a take left
  pub right_asks : HalfAsks s h b take right
  pub differ : left ≡ right → ⊥
