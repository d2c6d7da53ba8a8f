-- Question 8 of a join: the pairs of cells over the line between the takes, counted lane by lane, and the words of the result.
-- Assumes nothing.
use Rattle.std.specs.Prelude.{List, [], ℕ, ◌+◌, ◌*◌, ◌≤◌, length}
use Rattle.model.specs.Limits.{max_words}
use Rattle.model.specs.Lists.{cons_if}
use Rattle.model.specs.declared.Cell.{Cell}
use Rattle.model.specs.declared.Header.{Header}
use Rattle.laws.specs.JoinCount.{seams}
use Rattle.laws.specs.JoinWalk.{From}
use Rattle.laws.specs.Seam.{bound_at, lone}
use Rattle.cuts.specs.declared.counting.SeamCount.{SeamCount}
use Rattle.cuts.specs.declared.halves.Contents.{Contents}
use Rattle.cuts.specs.Joined.{JoinAsks}

-- How many pairs, and how many of their cells stand alone.
unfoldable pub count_of : Header → List (Cell × Cell) → SeamCount
unfolding lone
count_of h ps = record { pairs = length ps; alone = lone h ps }

-- Two cells, if they are bound over the line.
unfoldable pub pair_at : Header → ℕ → Cell → Cell → List (Cell × Cell)
unfolding bound_at
pair_at h beats c d = cons_if (bound_at h beats c d) (c, d) []

-- ---- all lanes

-- The cells of two takes, in the order of lanes, and not too many pairs to count.
pub record SeamsAsks (h : Header) (beats : ℕ) (first second : List Cell) : Type 0 where
  pub first-from : From (λ c. c.lane) 0 first
  pub second_from : From (λ c. c.lane) 0 second
  pub few : length (seams h beats first second) ≤ max_words

-- ---- the words of the result

-- The words of n, N and C, of two takes' notes and cells, and of so many notes more.
unfoldable pub counted_words : Contents → Contents → ℕ → ℕ
counted_words first second more = 3 + 4 * (first.notes.left + second.notes.left + more) + 6 * (first.cells.left + second.cells.left)

-- Numbers that can be summed.
pub record CountsAsks (h : Header) (first second : Contents) (more fewer : ℕ) : Type 0 where
  pub words_few : h.words ≤ max_words
  pub first_few : first.notes.left + first.cells.left ≤ max_words
  pub second_few : second.notes.left + second.cells.left ≤ max_words
  pub more_few : more ≤ max_words
  pub fewer_few : fewer ≤ 2 * max_words

-- Two sound shelves, and another for the join of their takes.
pub record FitAsks (s : List ℕ) (h : Header) (first second : ℕ) : Type 0 where
  pub result : ℕ
  pub asks : JoinAsks s h first second result
