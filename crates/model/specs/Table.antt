-- The table of proved cases: δ 10, ε 3, lane 60, velocity 100. Each row is a take that the definitions make, with the notes
-- and cells that the paper gives for it; one theorem by computation shows that all of them agree. Assumes nothing.
use Rattle.std.specs.Prelude.{◌≡◌, refl, ℕ, List, [], ◌∷◌, map}
use Rattle.model.specs.Takes.{Take, split_left, split_right, join_takes, notes_of}
use Rattle.model.specs.Histories.{recording_take}
use Rattle.model.specs.declared.Header.{Header}
use Rattle.model.specs.declared.Note.{Note}
use Rattle.model.specs.declared.Cell.{Cell}

-- ---- how the rows are written

pub record Case : Type 0 where
  pub take : Take
  pub notes : List Note
  pub cells : List Cell

unfoldable pub header : Header
header = record { delta = 10; epsilon = 3; shelves = 4; words = 64 }

-- The note [s, e], and one of velocity 50.
unfoldable pub note : ℕ → ℕ → Note
note s e = record { lane = 60; start = s; end = e; velocity = 100 }

unfoldable pub soft : ℕ → ℕ → Note
soft s e = record { lane = 60; start = s; end = e; velocity = 50 }

-- [s, e] in the next lane, 61.
unfoldable pub above : ℕ → ℕ → Note
above s e = record { lane = 61; start = s; end = e; velocity = 100 }

-- A cell: beat, side, before, after; one of velocity 50; one in lane 61.
unfoldable pub cell : ℕ → ℕ → ℕ → ℕ → Cell
cell beat side before after = record { lane = 60; beat = beat; side = side; before = before; after = after; velocity = 100 }

unfoldable pub soft_cell : ℕ → ℕ → ℕ → ℕ → Cell
soft_cell beat side before after = record { lane = 60; beat = beat; side = side; before = before; after = after; velocity = 50 }

unfoldable pub above_cell : ℕ → ℕ → ℕ → ℕ → Cell
above_cell beat side before after = record { lane = 61; beat = beat; side = side; before = before; after = after; velocity = 100 }

-- n beats of a recording; the two sides of a split; a join.
unfoldable pub lay : ℕ → List Note → Take
unfolding recording_take
lay n notes = recording_take 10 (record { beats = n; notes = notes })

unfoldable pub left : ℕ → Take → Take
unfolding split_left
left = split_left 10

unfoldable pub right : ℕ → Take → Take
unfolding split_right
right = split_right 10

unfoldable pub join : Take → Take → Take
unfolding join_takes
join = join_takes 10

-- One note in two beats, split at 1: its left part and its right part.
unfoldable pub left_part : Note → Take
unfolding lay left
left_part n = left 1 (lay 2 (n ∷ []))

unfoldable pub right_part : Note → Take
unfolding lay right
right_part n = right 1 (lay 2 (n ∷ []))

-- D's first, middle and last beat: [5,25], three beats, split at 1 and 2.
unfoldable pub first : Take
unfolding lay left note
first = left 1 (lay 3 (note 5 25 ∷ []))

unfoldable pub middle : Take
unfolding lay left right note
middle = left 1 (right 1 (lay 3 (note 5 25 ∷ [])))

unfoldable pub last : Take
unfolding lay right note
last = right 1 (right 1 (lay 3 (note 5 25 ∷ [])))

row : Take → List Note → List Cell → Case
row take notes cells = record { take = take; notes = notes; cells = cells }

-- ---- the paper's cases

pub paper_cases : List Case
unfolding row note cell lay left right join left_part right_part first middle last
paper_cases =
    -- A: [8,12] split at 1: no notes; the hidden pieces keep their cells.
    row (left_part (note 8 12)) [] (cell 0 1 2 2 ∷ [])
    ∷ row (right_part (note 8 12)) [] (cell 0 0 2 2 ∷ [])
    -- B: joined: [8,12].
    ∷ row (join (left_part (note 8 12)) (right_part (note 8 12))) (note 8 12 ∷ []) (cell 0 1 2 2 ∷ cell 1 0 2 2 ∷ [])
    -- C: [7,13] split at 1: [7,10] and [0,3].
    ∷ row (left_part (note 7 13)) (note 7 10 ∷ []) (cell 0 1 3 3 ∷ [])
    ∷ row (right_part (note 7 13)) (note 0 3 ∷ []) (cell 0 0 3 3 ∷ [])
    -- D: the last two joined, then the first with them: [5,25].
    ∷ row first (note 5 10 ∷ []) (cell 0 1 5 15 ∷ [])
    ∷ row middle (note 0 10 ∷ []) (cell 0 0 5 15 ∷ cell 0 1 15 5 ∷ [])
    ∷ row last (note 0 5 ∷ []) (cell 0 0 15 5 ∷ [])
    ∷ row (join middle last) (note 0 15 ∷ []) (cell 0 0 5 15 ∷ cell 0 1 15 5 ∷ cell 1 0 15 5 ∷ [])
    ∷ row (join first (join middle last)) (note 5 25 ∷ []) (cell 0 1 5 15 ∷ cell 1 0 5 15 ∷ cell 1 1 15 5 ∷ cell 2 0 15 5 ∷ [])
    -- E: a silent beat, D's middle, D's last: [10,25]; split at 2, left: [10,20], never [5,20].
    ∷ row (join (join (lay 1 []) middle) last) (note 10 25 ∷ []) (cell 1 0 5 15 ∷ cell 1 1 15 5 ∷ cell 2 0 15 5 ∷ [])
    ∷ row (left 2 (join (join (lay 1 []) middle) last)) (note 10 20 ∷ []) (cell 1 0 5 15 ∷ cell 1 1 15 5 ∷ [])
    -- F: left of [9,11] with right of [8,12]: [9,12]. G: with right of [8,11]: nothing.
    ∷ row (join (left_part (note 9 11)) (right_part (note 8 12))) (note 9 12 ∷ []) (cell 0 1 1 1 ∷ cell 1 0 2 2 ∷ [])
    ∷ row (join (left_part (note 9 11)) (right_part (note 8 11))) [] (cell 0 1 1 1 ∷ cell 1 0 2 1 ∷ [])
    -- H: [4,10], [10,12] split and joined at 1: two notes still.
    ∷ row (join (left 1 (lay 2 (note 4 10 ∷ note 10 12 ∷ []))) (right 1 (lay 2 (note 4 10 ∷ note 10 12 ∷ []))))
    (note 4 10 ∷ note 10 12 ∷ []) (cell 0 1 6 0 ∷ cell 1 0 0 2 ∷ [])
    -- I: [8,10], split at 1: kept.
    ∷ row (left_part (note 8 10)) (note 8 10 ∷ []) (cell 0 1 2 0 ∷ [])
    ∷ row (right_part (note 8 10)) [] []
    -- J: left of [9,11] with a beat of [0,1]: [9,11].
    ∷ row (join (left_part (note 9 11)) (lay 1 (note 0 1 ∷ []))) (note 9 11 ∷ []) (cell 0 1 1 1 ∷ cell 1 0 0 1 ∷ [])
    -- K: split at 0: empty take and the whole.
    ∷ row (left 0 (lay 2 (note 8 12 ∷ []))) [] []
    ∷ row (right 0 (lay 2 (note 8 12 ∷ []))) (note 8 12 ∷ []) (cell 0 1 2 2 ∷ cell 1 0 2 2 ∷ [])
    ∷ []

-- ---- what the paper's cases do not tell apart

pub further_cases : List Case
unfolding row note soft above cell soft_cell above_cell lay left right join left_part right_part first middle last
further_cases =
    -- Neither alone, equal pairs below ε: [9,11] heals. Just one alone: [5,11] heals.
    row (join (left_part (note 9 11)) (right_part (note 9 11))) (note 9 11 ∷ []) (cell 0 1 1 1 ∷ cell 1 0 1 1 ∷ [])
    ∷ row (join (left_part (note 5 11)) (right_part (note 5 11))) (note 5 11 ∷ []) (cell 0 1 5 1 ∷ cell 1 0 5 1 ∷ [])
    -- Both alone, b2 = 0: left of [7,13] with [0,5]. Both alone, a1 = 0: [5,10] with the right half of [7,13].
    ∷ row (join (left_part (note 7 13)) (lay 1 (note 0 5 ∷ []))) (note 7 10 ∷ note 10 15 ∷ []) (cell 0 1 3 3 ∷ cell 1 0 0 5 ∷ [])
    ∷ row (join (lay 1 (note 5 10 ∷ [])) (right_part (note 7 13))) (note 5 10 ∷ note 10 13 ∷ []) (cell 0 1 5 0 ∷ cell 1 0 3 3 ∷ [])
    -- Just one alone, a1 = 0: [5,10] with the right half of [8,12].
    ∷ row (join (lay 1 (note 5 10 ∷ [])) (right_part (note 8 12))) (note 5 12 ∷ []) (cell 0 1 5 0 ∷ cell 1 0 2 2 ∷ [])
    -- Neither alone: only one of the two numbers equal, and b1 + a2 below ε.
    ∷ row (join (left_part (note 9 12)) (right_part (note 9 11))) [] (cell 0 1 1 2 ∷ cell 1 0 1 1 ∷ [])
    -- Neither alone: a1 + b2 reaches ε, b1 + a2 does not.
    ∷ row (join (left_part (note 9 12)) (right_part (note 8 11))) [] (cell 0 1 1 2 ∷ cell 1 0 2 1 ∷ [])
    -- Two halves that do not meet: a silent beat between them, and another lane.
    ∷ row (join (join (left_part (note 8 12)) (lay 1 [])) (right_part (note 8 12))) [] (cell 0 1 2 2 ∷ cell 2 0 2 2 ∷ [])
    ∷ row (join (left_part (note 8 12)) (right_part (above 8 12))) [] (cell 0 1 2 2 ∷ above_cell 1 0 2 2 ∷ [])
    -- before at ε, and after one below it.
    ∷ row (left_part (note 7 12)) (note 7 10 ∷ []) (cell 0 1 3 2 ∷ [])
    ∷ row (right_part (note 7 12)) [] (cell 0 0 3 2 ∷ [])
    -- A merged note has its first piece's velocity; the right half keeps its own cell's.
    ∷ row (join (left_part (note 7 13)) (right_part (soft 6 14))) (note 7 14 ∷ []) (cell 0 1 3 3 ∷ soft_cell 1 0 4 4 ∷ [])
    ∷ row (right 1 (join (left_part (note 7 13)) (right_part (soft 6 14)))) (soft 0 4 ∷ []) (soft_cell 0 0 4 4 ∷ [])
    -- Cells count the whole note over several beats, and a note inside its beat has none.
    ∷ row (lay 3 (note 2 4 ∷ note 5 25 ∷ []))
    (note 2 4 ∷ note 5 25 ∷ []) (cell 0 1 5 15 ∷ cell 1 0 5 15 ∷ cell 1 1 15 5 ∷ cell 2 0 15 5 ∷ [])
    -- A note from line to line, and one that ends on the line where the next starts: cells in their own beats only.
    ∷ row (lay 3 (note 0 10 ∷ note 10 30 ∷ []))
    (note 0 10 ∷ note 10 30 ∷ []) (cell 0 0 0 10 ∷ cell 0 1 10 0 ∷ cell 1 0 0 20 ∷ cell 1 1 10 10 ∷ cell 2 0 10 10 ∷ cell 2 1 20 0 ∷ [])
    -- Beats of one note in another order: the last beat's end binds nothing in front of the first.
    ∷ row (join last first) (note 0 5 ∷ note 15 20 ∷ []) (cell 0 0 15 5 ∷ cell 1 1 5 15 ∷ [])
    -- The middle twice: each binds the next, and the outer lines nothing.
    ∷ row (join middle middle) (note 0 20 ∷ []) (cell 0 0 5 15 ∷ cell 0 1 15 5 ∷ cell 1 0 5 15 ∷ cell 1 1 15 5 ∷ [])
    -- Inner notes move by whole beats, and stand in order of start among the others.
    ∷ row (right 1 (lay 2 (note 3 4 ∷ note 8 12 ∷ note 14 16 ∷ note 17 20 ∷ [])))
    (note 4 6 ∷ note 7 10 ∷ []) (cell 0 0 2 2 ∷ cell 0 1 3 0 ∷ [])
    ∷ []

-- ---- the theorem

-- What a row's take gives, and what it should give.
abbrev pub given : Case → List Note × List Cell
unfolding notes_of
given c = (notes_of header c.take, c.take.cells)

abbrev pub wanted : Case → List Note × List Cell
wanted c = (c.notes, c.cells)

pub table : List (List Case)
table = paper_cases ∷ further_cases ∷ []

-- Every row of the table, by computation.
pub table_proved : map (map given) table ≡ map (map wanted) table
unfolding table paper_cases further_cases header notes_of
table_proved = refl
