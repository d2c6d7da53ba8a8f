-- A join: its cells by one walk over both takes' cells, what each function is asked, and what it leaves. Assumes nothing.
use Rattle.std.specs.Prelude.{◌≡◌, cond, true, List, [], ◌∷◌, ◌++◌, map, ℕ, ◌+◌, ◌-◌, ◌*◌, ◌≤◌, ◌<◌, leb, length}
use Rattle.words.specs.Apart.{Apart}
use Rattle.words.specs.Splice.{splice}
use Rattle.model.specs.Lists.{gather}
use Rattle.model.specs.Limits.{max_beats}
use Rattle.model.specs.Questions.{fits, header_ok, take_at}
use Rattle.model.specs.Session.{shelf}
use Rattle.model.specs.Soundness.{sound_shelf}
use Rattle.model.specs.Takes.{cell_words, join_takes}
use Rattle.model.specs.declared.Cell.{Cell}
use Rattle.model.specs.declared.Header.{Header}
use Rattle.laws.specs.Lanes.{merge_lane}
use Rattle.laws.specs.Relations.{All}
use Rattle.laws.specs.SeamWalk.{cell_later}
use Rattle.session.specs.Reading.{last_cells}
use Rattle.cuts.specs.declared.lasts.Last.{Last}

-- ---- cells

-- The cells of lanes below l in front, and those from there on.
unfoldable pub lower_cells : ℕ → List Cell → List Cell
lower_cells l [] = []
lower_cells l (c ∷ cs) = cond (leb l c.lane) [] (c ∷ lower_cells l cs)

unfoldable pub upper_cells : ℕ → List Cell → List Cell
upper_cells l [] = []
upper_cells l (c ∷ cs) = cond (leb l c.lane) (c ∷ cs) (upper_cells l cs)

-- The last k cells, so many beats later.
unfoldable pub later_cells : ℕ → List ℕ → ℕ → ℕ → List Cell
unfolding last_cells
later_cells beats s end k = map (cell_later beats) (last_cells s end k)

-- A cell of a lane, whose beat is a word so many beats later.
pub record Movable (beats : ℕ) (c : Cell) : Type 0 where
  pub lane_below : c.lane < 2048
  pub beat_word : beats + c.beat ≤ 4294967295

-- The last cells of a run stand apart from the words that are written, and can be moved.
pub record RunAsks (s : List ℕ) (beats end left to size : ℕ) : Type 0 where
  pub inside : end ≤ length s
  pub movable : All (Movable beats) (last_cells s end left)
  pub apart : Apart (end - 6 * left) (6 * left) to size
  pub room : to + size ≤ length s

-- Room for the cells of lower lanes.
pub record LowerAsks (s : List ℕ) (to lane beats end left : ℕ) : Type 0 where
  pub run : RunAsks s beats end left to (6 * length (lower_cells lane (later_cells beats s end left)))

-- They are written, and r cells are left.
pub record Lowered (s : List ℕ) (to lane beats end left : ℕ) (t : List ℕ) (r : ℕ) : Type 0 where
  pub words : t ≡ splice s to (gather cell_words (lower_cells lane (later_cells beats s end left)))
  pub rest : later_cells beats s end r ≡ upper_cells lane (later_cells beats s end left)
  pub count : left ≡ r + length (lower_cells lane (later_cells beats s end left))

-- The cells of lower lanes, and a cell behind them.
unfoldable pub before : ℕ → List ℕ → Cell → ℕ → ℕ → List Cell
unfolding lower_cells later_cells
before beats s c end left = lower_cells c.lane (later_cells beats s end left) ++ c ∷ []

pub record BeforeAsks (s : List ℕ) (to : ℕ) (c : Cell) (beats end left : ℕ) : Type 0 where
  pub run : RunAsks s beats end left to (6 * length (before beats s c end left))

pub record PutBefore (s : List ℕ) (to : ℕ) (c : Cell) (beats end left : ℕ) (t : List ℕ) (r : ℕ) : Type 0 where
  pub words : t ≡ splice s to (gather cell_words (before beats s c end left))
  pub rest : later_cells beats s end r ≡ upper_cells c.lane (later_cells beats s end left)
  pub count : left + 1 ≡ r + length (before beats s c end left)

-- The joined cells of the first take's last k and the second's last j cells.
unfoldable pub cells_joined : ℕ → List ℕ → Last 6 → Last 6 → ℕ → ℕ → List Cell
unfolding later_cells merge_lane
cells_joined beats s first second k j = merge_lane (λ c. c.lane) (last_cells s first.end k) (later_cells beats s second.end j)

pub record JoinedAsks (s : List ℕ) (to beats : ℕ) (first second : Last 6) : Type 0 where
  pub first-inside : first.end ≤ length s
  pub first-apart : Apart (first.end - 6 * first.left) (6 * first.left) to (6 * length (cells_joined beats s first second first.left second.left))
  pub run : RunAsks s beats second.end second.left to (6 * length (cells_joined beats s first second first.left second.left))

-- ---- two shelves

-- Two sound shelves, which may be one, and another shelf for the join of their takes.
pub record JoinAsks (s : List ℕ) (h : Header) (first second to : ℕ) : Type 0 where
  pub header : header_ok h (length s) ≡ true
  pub first_below : first < h.shelves
  pub second_below : second < h.shelves
  pub to_below : to < h.shelves
  pub first_differs : first ≡ to → ⊥
  pub second_differs : second ≡ to → ⊥
  pub first-sound : sound_shelf h (shelf h s first) ≡ true
  pub second_sound : sound_shelf h (shelf h s second) ≡ true
  pub beats_few : (take_at h s first).beats + (take_at h s second).beats ≤ max_beats

-- The join of their takes fits the other shelf.
pub record PutAsks (s : List ℕ) (h : Header) (first second to : ℕ) : Type 0 where
  pub asks : JoinAsks s h first second to
  pub fit : fits h (join_takes h.delta (take_at h s first) (take_at h s second)) ≡ true
