-- Takes: their notes, their words in a shelf, and how they are split and joined. Assumes nothing.
use Rattle.std.specs.Prelude.{ℕ, zero, suc, ◌+◌, ◌-◌, ◌*◌, ◌%◌, Bool, true, false, ◌&&◌, ◌||◌, List, [], ◌∷◌, ◌++◌, map, leb, ltb, eqb, length, get_or, drop, replicate}
use Rattle.model.specs.Lists.{keep, gather, count_from}
use Rattle.model.specs.Limits.{lane_count}
use Rattle.model.specs.Pieces.{first_beat, inside, inside_at}
use Rattle.model.specs.Binding.{line_notes}
use Rattle.model.specs.declared.Header.{Header}
use Rattle.model.specs.declared.Note.{Note}
use Rattle.model.specs.declared.Cell.{Cell}

-- A take: its beats, its inner notes (those that touch no line) and its cells. The other notes follow from the cells.
pub record Take : Type 0 where
  pub beats : ℕ
  pub inner : List Note
  pub cells : List Cell

-- ---- a take's notes

-- Order of notes: lane, then start.
unfoldable pub note_before : Note → Note → Bool
note_before m n = ltb m.lane n.lane || (eqb m.lane n.lane && leb m.start n.start)

-- x at its place in the second list, and from there on `more`.
unfoldable pub insert : Note → (List Note → List Note) → List Note → List Note
unfolding note_before
insert x more [] = x ∷ more []
insert x more (y ∷ ys) = elim (note_before x y) [ true ↦ x ∷ more (y ∷ ys) | false ↦ y ∷ insert x more ys ]

-- Two lists of notes, each in order, as one in order.
unfoldable pub merge : List Note → List Note → List Note
unfolding insert
merge [] ys = ys
merge (x ∷ xs) ys = insert x (λ zs. merge xs zs) ys

-- A take's notes: the inner ones and those that the rules give from the cells.
unfoldable pub notes_of : Header → Take → List Note
unfolding merge line_notes
notes_of h t = merge t.inner (line_notes h t.cells)

-- ---- words

-- The word at place i.
abbrev pub word : List ℕ → ℕ → ℕ
word ws i = get_or ws i 0

-- A note's four words, and a cell's six.
abbrev pub note_words : Note → List ℕ
note_words n = n.lane ∷ n.start ∷ n.end ∷ n.velocity ∷ []

abbrev pub cell_words : Cell → List ℕ
cell_words c = c.lane ∷ c.beat ∷ c.side ∷ c.before ∷ c.after ∷ c.velocity ∷ []

-- The note that four words say, and the cell that six say.
abbrev pub note_of : List ℕ → Note
note_of ws = record { lane = word ws 0; start = word ws 1; end = word ws 2; velocity = word ws 3 }

abbrev pub cell_of : List ℕ → Cell
cell_of ws = record { lane = word ws 0; beat = word ws 1; side = word ws 2; before = word ws 3; after = word ws 4; velocity = word ws 5 }

-- The words that N notes and C cells take with n, N and C in front of them.
abbrev pub words_used : ℕ → ℕ → ℕ
words_used N C = 3 + 4 * N + 6 * C

-- A shelf's W words: beats n, note count N, cell count C, N notes, C cells, then zeros.
unfoldable pub shelf_words : ℕ → ℕ → List Note → List Cell → List ℕ
shelf_words W beats ns cs =
    beats ∷ length ns ∷ length cs ∷ gather note_words ns ++ (gather cell_words cs ++ replicate (W - words_used (length ns) (length cs)) 0)

-- The words of a take in a shelf of the session.
unfoldable pub words_of : Header → Take → List ℕ
unfolding notes_of shelf_words
words_of h t = shelf_words h.words t.beats (notes_of h t) t.cells

-- N notes of four words, and C cells of six.
unfoldable pub read_notes : ℕ → List ℕ → List Note
read_notes zero ws = []
read_notes (suc N) ws = record { lane = word ws 0; start = word ws 1; end = word ws 2; velocity = word ws 3 } ∷ read_notes N (drop 4 ws)

unfoldable pub read_cells : ℕ → List ℕ → List Cell
read_cells zero ws = []
read_cells (suc C) ws =
    record { lane = word ws 0; beat = word ws 1; side = word ws 2; before = word ws 3; after = word ws 4; velocity = word ws 5 }
    ∷ read_cells C (drop 6 ws)

-- The notes in a shelf's words, and the cells.
abbrev pub notes_in : List ℕ → List Note
notes_in ws = read_notes (word ws 1) (drop 3 ws)

abbrev pub cells_in : List ℕ → List Cell
cells_in ws = read_cells (word ws 2) (drop (3 + 4 * word ws 1) ws)

-- The take in a shelf's words.
unfoldable pub take_in : ℕ → List ℕ → Take
unfolding read_notes read_cells inside_at
take_in δ ws = record { beats = word ws 0; inner = keep (inside δ) (notes_in ws); cells = cells_in ws }

-- ---- split and join, for cells and for inner notes: whatever has a lane and a beat and can be put into a beat

-- A cell put into beat i, with only its beat changed; an inner note moved there by whole beats.
abbrev pub cell_to : ℕ → Cell → Cell
cell_to i c = record { lane = c.lane; beat = i; side = c.side; before = c.before; after = c.after; velocity = c.velocity }

abbrev pub note_to : ℕ → ℕ → Note → Note
note_to δ i n = record {
  lane = n.lane;
  start = i * δ + n.start % δ;
  end = i * δ + n.start % δ + (n.end - n.start);
  velocity = n.velocity;
}

abbrev pub lanes : List ℕ
lanes = count_from lane_count 0

-- A list in the order of lanes; in a lane as it was.
unfoldable pub by_lane : {A : Type 0} → (A → ℕ) → List A → List A
by_lane lane xs = gather (λ l. keep (λ x. eqb (lane x) l) xs) lanes

-- What lies before beat k.
unfoldable pub left_of : {A : Type 0} → (A → ℕ) → ℕ → List A → List A
left_of beat k = keep (λ x. ltb (beat x) k)

module _ {A : Type 0} (beat : A → ℕ) (to : ℕ → A → A) where
  -- What lies from beat k on, k beats earlier.
  unfoldable pub right_of : ℕ → List A → List A
  right_of k xs = map (λ x. to (beat x - k) x) (keep (λ x. leb k (beat x)) xs)

  -- All of it n beats later.
  unfoldable pub later_by : ℕ → List A → List A
  later_by n = map (λ x. to (n + beat x) x)

-- Split at beat k: the beats before k.
unfoldable pub split_left : ℕ → ℕ → Take → Take
unfolding left_of
split_left δ k t = record { beats = k; inner = left_of (first_beat δ) k t.inner; cells = left_of (λ c. c.beat) k t.cells }

-- Split at beat k: the other beats.
unfoldable pub split_right : ℕ → ℕ → Take → Take
unfolding right_of
split_right δ k t = record {
  beats = t.beats - k;
  inner = right_of (first_beat δ) (note_to δ) k t.inner;
  cells = right_of (λ c. c.beat) cell_to k t.cells;
}

-- Join: two takes in order.
unfoldable pub join_takes : ℕ → Take → Take → Take
unfolding by_lane later_by
join_takes δ t u = record {
  beats = t.beats + u.beats;
  inner = by_lane (λ n. n.lane) (t.inner ++ later_by (first_beat δ) (note_to δ) t.beats u.inner);
  cells = by_lane (λ c. c.lane) (t.cells ++ later_by (λ c. c.beat) cell_to t.beats u.cells);
}
