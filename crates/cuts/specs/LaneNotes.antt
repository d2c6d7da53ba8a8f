-- The notes of a join, written lane by lane: what each function is asked, and what it leaves. Assumes nothing.
use Rattle.std.specs.Prelude.{◌≡◌, cond, Option, None, Some, List, [], ◌∷◌, ◌++◌, ℕ, ◌+◌, ◌-◌, ◌*◌, ◌≤◌, length}
use Rattle.words.specs.Splice.{splice}
use Rattle.model.specs.Limits.{max_beats, max_delta}
use Rattle.model.specs.Takes.{note_words}
use Rattle.model.specs.declared.Cell.{Cell}
use Rattle.model.specs.declared.Header.{Header}
use Rattle.model.specs.declared.Note.{Note}
use Rattle.laws.specs.JoinLanes.{join_lanes}
use Rattle.laws.specs.JoinWalk.{Four, note_run, note_rest, cell_run, cell_rest}
use Rattle.laws.specs.Relations.{All}
use Rattle.laws.specs.Seam.{but_first, but_last, join_lane}
use Rattle.session.specs.Reading.{last_notes, last_cells}
use Rattle.cuts.specs.declared.halves.Contents.{Contents}
use Rattle.cuts.specs.declared.lanes.Front.{Front}
use Rattle.cuts.specs.declared.lanes.Rests.{Rests}
use Rattle.cuts.specs.declared.seam.Seam.{Seam}
use Rattle.cuts.specs.Halving.{Noted, Placed}
use Rattle.cuts.specs.Seams.{Shiftable, RunRead, InPlace, lane_by, lane_notes}

-- ---- two takes

-- What is left of a take: its notes, and its cells.
abbrev pub notes_from : List ℕ → Contents → List Note
notes_from s from = last_notes s from.notes.end from.notes.left

abbrev pub cells_from : List ℕ → Contents → List Cell
cells_from s from = last_cells s from.cells.end from.cells.left

-- The joined notes of a lane that stands in front; and of all lanes.
unfoldable pub lane_joined : Header → ℕ → ℕ → List ℕ → Contents → Contents → List Note
lane_joined h beats lane s first second =
    join_lane h beats (lane_notes lane s first) (cell_run lane (cells_from s first)) (lane_notes lane s second) (cell_run lane (cells_from s second))

unfoldable pub lanes_joined : Header → ℕ → List ℕ → Contents → Contents → List Note
lanes_joined h beats s first second = join_lanes h beats (notes_from s first) (cells_from s first) (notes_from s second) (cells_from s second)

-- A cell whose note ends at a word, so many ticks later.
pub record Reaching (ticks : ℕ) (c : Cell) : Type 0 where
  pub after-word : c.after + ticks ≤ 4294967295

-- Two takes stand in their places, apart from the words of the notes to be written, and their ticks can be moved to the line between them.
pub record Joinable (s : List ℕ) (to : ℕ) (h : Header) (beats line : ℕ) (first second : Contents) (notes : List Note) : Type 0 where
  pub first-placed : Placed s first to (4 * length notes)
  pub second_placed : Placed s second to (4 * length notes)
  pub first_shiftable : All (Shiftable line) (notes_from s first)
  pub second_shiftable : All (Shiftable line) (notes_from s second)
  pub second_reaching : All (Reaching line) (cells_from s second)

-- ---- the seam of a lane

-- The first take's notes and cells of the lane are read up to those that are left.
pub record SeamAsks (s : List ℕ) (h : Header) (beats line lane : ℕ) (first : Contents) (rest cells : ℕ) (second : Contents) : Type 0 where
  pub notes_read : RunRead s lane first.notes.end first.notes.left rest
  pub cells-inside : first.cells.end ≤ length s
  pub cells_count : first.cells.left ≡ cells + length (cell_run lane (cells_from s first))
  pub second_in : InPlace s second
  pub second_shiftable : All (Shiftable line) (notes_from s second)
  pub second_reaching : All (Reaching line) (cells_from s second)

-- Of so many notes in front of the seam, those that are no part of the note over the line; and with that note, if there is one.
unfoldable pub kept_by : Seam → ℕ → ℕ
kept_by r count = cond r.held (count - 1) count

unfoldable pub seam_end : Option Seam → ℕ → ℕ
unfolding kept_by
seam_end None count = count
seam_end (Some r) count = kept_by r count + 1

-- The words where that note is written behind those.
unfoldable pub seam_words : List ℕ → ℕ → ℕ → Option Seam → List ℕ
unfolding kept_by
seam_words s to count None = s
seam_words s to count (Some r) = splice s (to + 4 * kept_by r count) (note_words r.note)

-- It is written, and the place behind it is r.
pub record SeamPut (s : List ℕ) (to count : ℕ) (seam : Option Seam) (t : List ℕ) (r : ℕ) : Type 0 where
  pub words : t ≡ seam_words s to count seam
  pub behind : r ≡ to + 4 * seam_end seam count

-- The lane's notes up to the seam, with the note over the line; and the second take's behind it.
unfoldable pub front_by : Option Seam → List Note → List Note
front_by None ms = ms
front_by (Some r) ms = cond r.held (but_last ms) ms ++ r.note ∷ []

unfoldable pub back_by : Option Seam → List Note → List Note
back_by None ns = ns
back_by (Some r) ns = cond r.skipped (but_first ns) ns

-- The last r notes begin with the lane's notes behind its seam.
pub record BackFrom (s : List ℕ) (seam : Option Seam) (lane end left r : ℕ) : Type 0 where
  pub run : note_run lane (last_notes s end r) ≡ back_by seam (note_run lane (last_notes s end left))
  pub rest : note_rest lane (last_notes s end r) ≡ note_rest lane (last_notes s end left)
  pub few : r ≤ left

-- ---- what is left behind a lane

-- So many notes and cells.
pub record Behind (s : List ℕ) (lane : ℕ) (from : Contents) (notes cells : ℕ) : Type 0 where
  pub notes_are : last_notes s from.notes.end notes ≡ note_rest lane (notes_from s from)
  pub notes_few : notes ≤ from.notes.left
  pub cells_are : last_cells s from.cells.end cells ≡ cell_rest lane (cells_from s from)
  pub cells_few : cells ≤ from.cells.left

-- At the take's places.
pub record LeftOf (s : List ℕ) (lane : ℕ) (from r : Contents) : Type 0 where
  pub middle_is : r.notes.end ≡ from.notes.end
  pub end_is : r.cells.end ≡ from.cells.end
  pub left : Behind s lane from r.notes.left r.cells.left

-- The lane's notes up to the seam are written.
pub record FirstPut (s : List ℕ) (to : ℕ) (h : Header) (beats line lane : ℕ) (first second : Contents) (t : List ℕ) (r : Front) : Type 0 where
  pub noted : Noted s to (front_by r.seam (lane_notes lane s first)) t r.at
  pub lane_is : lane_joined h beats lane s first second ≡ lane_by r.seam line (lane_notes lane s first) (lane_notes lane s second)
  pub left : LeftOf s lane first r.rest

-- The joined notes of the lane are written.
pub record LanePut (s : List ℕ) (to : ℕ) (h : Header) (beats lane : ℕ) (first second : Contents) (t : List ℕ) (r : Rests) : Type 0 where
  pub noted : Noted s to (lane_joined h beats lane s first second) t r.at
  pub first-left : LeftOf s lane first r.first
  pub second_left : LeftOf s lane second r.second

-- ---- all lanes

-- Two takes whose notes and cells are in the order of lanes, and room for their joined notes.
pub record JoinNotesAsks (s : List ℕ) (to : ℕ) (h : Header) (beats : ℕ) (first second : Contents) : Type 0 where
  pub beats_few : beats ≤ max_beats
  pub ticks_few : h.delta ≤ max_delta
  pub four : Four 0 (notes_from s first) (cells_from s first) (notes_from s second) (cells_from s second)
  pub joinable : Joinable s to h beats (beats * h.delta) first second (lanes_joined h beats s first second)
