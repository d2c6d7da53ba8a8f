-- The notes of a join, lane by lane: what each function is asked, and what it leaves. Assumes nothing.
use Rattle.std.specs.Prelude.{◌≡◌, cond, Option, None, Some, List, ◌∷◌, ◌++◌, map, ℕ, ◌+◌, ◌-◌, ◌*◌, ◌≤◌, min, length}
use Rattle.words.specs.Apart.{Apart}
use Rattle.words.specs.Splice.{splice}
use Rattle.model.specs.Binding.{stands_alone}
use Rattle.model.specs.Lists.{gather}
use Rattle.model.specs.Takes.{note_words}
use Rattle.model.specs.declared.Cell.{Cell}
use Rattle.model.specs.declared.Header.{Header}
use Rattle.model.specs.declared.Note.{Note}
use Rattle.laws.specs.CutLines.{joined}
use Rattle.laws.specs.JoinWalk.{lane_ahead, note_run, note_rest}
use Rattle.laws.specs.Relations.{All}
use Rattle.laws.specs.Seam.{but_first, but_last, up_to, from_on, join_apart}
use Rattle.laws.specs.SeamWalk.{note_later}
use Rattle.session.specs.Reading.{last_notes, last_cells}
use Rattle.cuts.specs.declared.halves.Contents.{Contents}
use Rattle.cuts.specs.declared.seam.Seam.{Seam}

-- A note whose ticks are words so many ticks later.
pub record Shiftable (ticks : ℕ) (n : Note) : Type 0 where
  pub start_word : n.start + ticks ≤ 4294967295
  pub end_word : n.end + ticks ≤ 4294967295

-- The notes of a lane in front of the last k notes, so many ticks later.
abbrev pub later_run : ℕ → ℕ → List ℕ → ℕ → ℕ → List Note
later_run lane ticks s end k = map (note_later ticks) (note_run lane (last_notes s end k))

-- The last notes stand apart from the words that are written, and can be moved; room for those of the lane.
pub record NoteRunAsks (s : List ℕ) (to lane ticks end left : ℕ) : Type 0 where
  pub inside : end ≤ length s
  pub shiftable : All (Shiftable ticks) (last_notes s end left)
  pub apart : Apart (end - 4 * left) (4 * left) to (4 * length (later_run lane ticks s end left))
  pub room : to + 4 * length (later_run lane ticks s end left) ≤ length s

-- They are written, and r notes are left.
pub record NoteRunPut (s : List ℕ) (to lane ticks end left : ℕ) (t : List ℕ) (r : ℕ) : Type 0 where
  pub words : t ≡ splice s to (gather note_words (later_run lane ticks s end left))
  pub rest : last_notes s end r ≡ note_rest lane (last_notes s end left)
  pub count : left ≡ r + length (later_run lane ticks s end left)

-- The notes of a lane in front of the last `left` notes are read, and r notes are left.
pub record RunRead (s : List ℕ) (lane end left r : ℕ) : Type 0 where
  pub inside : end ≤ length s
  pub count : left ≡ r + length (note_run lane (last_notes s end left))

-- ---- the seam of a lane

-- A take's notes of a lane, in front of those that are left.
abbrev pub lane_notes : ℕ → List ℕ → Contents → List Note
lane_notes lane s from = note_run lane (last_notes s from.notes.end from.notes.left)

-- The lane's notes by what happens at its seam, if a note goes over the line: ms are the first take's, ns the second's, `ticks` later.
unfoldable pub lane_by : Option Seam → ℕ → List Note → List Note → List Note
lane_by None ticks ms ns = join_apart ticks ms ns
lane_by (Some r) ticks ms ns = cond r.held (but_last ms) ms ++ r.note ∷ map (note_later ticks) (cond r.skipped (but_first ns) ns)

-- A note goes over the line.
abbrev pub over_seam : Header → ℕ → Cell → Cell → List Note → List Note → Seam
over_seam h line c d ms ns = record {
  held = stands_alone h c;
  skipped = stands_alone h d;
  note = joined (up_to h line c ms) (note_later line (from_on h d ns));
}

-- Of the last `left` notes of the first take, `rest` are left; the last `count` notes of the second are ahead.
pub record OverAsks (s : List ℕ) (h : Header) (line : ℕ) (c d : Cell) (end left rest other count : ℕ) : Type 0 where
  pub first_read : RunRead s c.lane end left rest
  pub second_inside : other ≤ length s
  pub end_word : (from_on h d (note_run d.lane (last_notes s other count))).end + line ≤ 4294967295

-- ---- the lane that is next

-- A take's notes and cells stand in their places.
pub record InPlace (s : List ℕ) (from : Contents) : Type 0 where
  pub notes-inside : from.notes.end ≤ length s
  pub cells-inside : from.cells.end ≤ length s

-- The least lane in front of them.
unfoldable pub lane_of : List ℕ → Contents → ℕ
unfolding lane_ahead last_notes last_cells
lane_of s from = min (lane_ahead (λ n. n.lane) (last_notes s from.notes.end from.notes.left)) (lane_ahead (λ c. c.lane) (last_cells s from.cells.end from.cells.left))
