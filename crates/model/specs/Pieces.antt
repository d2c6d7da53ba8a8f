-- "Pieces and cells": how beat lines cut a recording's notes. δ is the ticks in a beat; beat b lies between the lines at
-- b × δ and (b + 1) × δ. Assumes nothing.
use Rattle.std.specs.Prelude.{ℕ, suc, ◌-◌, ◌*◌, ◌/◌, min, max, Bool, ◌&&◌, List, [], map, leb, ltb}
use Rattle.model.specs.Lists.{cons_if, gather, count_from}
use Rattle.model.specs.declared.Note.{Note}
use Rattle.model.specs.declared.Cell.{Cell}

-- The beat that a note starts in, and the last that it sounds in: a note that ends on a line ends in the beat before it.
abbrev pub first_beat : ℕ → Note → ℕ
first_beat δ n = n.start / δ

abbrev pub last_beat : ℕ → Note → ℕ
last_beat δ n = (n.end - 1) / δ

-- The beats in which a note has a piece.
abbrev pub note_beats : ℕ → Note → List ℕ
note_beats δ n = count_from (suc (last_beat δ n) - first_beat δ n) (first_beat δ n)

-- A note's piece in beat b: what of it lies between the beat's lines.
unfoldable pub piece_in : ℕ → Note → ℕ → Note
piece_in δ n b = record { lane = n.lane; start = max n.start (b * δ); end = min n.end (suc b * δ); velocity = n.velocity }

-- Beat lines cut a note into pieces.
unfoldable pub note_pieces : ℕ → Note → List Note
unfolding piece_in
note_pieces δ n = map (piece_in δ n) (note_beats δ n)

-- The piece in beat b touches the opening line: the note starts there or before it.
abbrev pub touches_opening : ℕ → Note → ℕ → Bool
touches_opening δ n b = leb n.start (b * δ)

-- The piece in beat b touches the closing line: the note ends there or behind it.
abbrev pub touches_closing : ℕ → Note → ℕ → Bool
touches_closing δ n b = leb (suc b * δ) n.end

-- A note's cell on a line of beat b: ticks from the note's start to the line, and from the line to the note's end.
unfoldable pub cell_at : Note → ℕ → ℕ → ℕ → Cell
cell_at n b side line = record { lane = n.lane; beat = b; side = side; before = line - n.start; after = n.end - line; velocity = n.velocity }

-- A piece that touches a line of its beat has a cell there: none, one, or two where it fills its beat.
unfoldable pub cells_in_beat : ℕ → Note → ℕ → List Cell
unfolding cell_at
cells_in_beat δ n b =
    cons_if (touches_opening δ n b) (cell_at n b 0 (b * δ))
    (cons_if (touches_closing δ n b) (cell_at n b 1 (suc b * δ)) [])

-- A note's cells, over the beats that it has a piece in.
unfoldable pub cells_of_note : ℕ → Note → List Cell
unfolding cells_in_beat
cells_of_note δ n = gather (cells_in_beat δ n) (note_beats δ n)

-- A note that touches no line: it lies inside one beat, behind the opening line and ahead of the closing line.
unfoldable pub inside_at : ℕ → ℕ → ℕ → Bool
inside_at δ start end = ltb (start / δ * δ) start && ltb end (suc (start / δ) * δ)

abbrev pub inside : ℕ → Note → Bool
inside δ n = inside_at δ n.start n.end
