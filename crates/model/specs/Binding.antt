-- "Pieces and cells": which cells stand alone, which are bound, which pieces are hidden, and the notes that cells give.
-- h is the session's header. Assumes nothing.
use Rattle.std.specs.Prelude.{ℕ, suc, ◌+◌, ◌-◌, ◌*◌, Bool, true, false, cond, ◌&&◌, ◌||◌, List, [], ◌∷◌, leb, ltb, eqb}
use Rattle.model.specs.declared.Header.{Header}
use Rattle.model.specs.declared.Note.{Note}
use Rattle.model.specs.declared.Cell.{Cell}

-- ---- two cells

-- A cell on its beat's opening line.
abbrev pub opening : Cell → Bool
opening c = eqb c.side 0

-- A cell stands alone: on side 1 when before ≥ ε or after = 0; on side 0 when after ≥ ε or before = 0.
unfoldable pub stands_alone : Header → Cell → Bool
stands_alone h c =
    cond (opening c) (leb h.epsilon c.after || eqb c.before 0)
    (leb h.epsilon c.before || eqb c.after 0)

-- Where two beats meet, in one lane: the left beat's side 1 cell and the right beat's side 0 cell.
unfoldable pub meet : Cell → Cell → Bool
meet c d = eqb c.lane d.lane && eqb c.side 1 && eqb d.side 0 && eqb d.beat (suc c.beat)

-- Both stand alone: bound when a1 > 0 and b2 > 0.
abbrev pub both_alone : Cell → Cell → Bool
both_alone c d = ltb 0 c.after && ltb 0 d.before

-- Just one stands alone: bound.
abbrev pub one_alone : Header → Cell → Cell → Bool
one_alone h c d = true

-- Neither does: bound when b1 = b2 with a1 = a2, or b1 + a2 ≥ ε.
abbrev pub none_alone : Header → Cell → Cell → Bool
none_alone h c d = eqb c.before d.before && eqb c.after d.after || leb h.epsilon (c.before + d.after)

-- Two cells that meet are bound.
unfoldable pub bound : Header → Cell → Cell → Bool
unfolding stands_alone
bound h c d =
    cond (stands_alone h c) (cond (stands_alone h d) (both_alone c d) (one_alone h c d))
    (cond (stands_alone h d) (one_alone h c d) (none_alone h c d))

-- A cell is bound to the next: in the order of cells the two that meet stand one behind the other, and a take's outer lines bind nothing.
unfoldable pub bound_next : Header → Cell → List Cell → Bool
unfolding meet bound
bound_next h c [] = false
bound_next h c (d ∷ ds) = meet c d && bound h c d

-- ---- pieces

-- A piece that touches a line: its ticks as a note, whether it is shown (not hidden), and whether it is bound to the next.
pub record Piece : Type 0 where
  pub note : Note
  pub shown : Bool
  pub joined : Bool

-- The opening cell of a piece that fills its beat; its closing cell is the next.
unfoldable pub fills : ℕ → Cell → Bool
fills δ c = opening c && leb δ c.after

-- Where a cell's piece starts, and ends, in the take.
unfoldable pub start_of : ℕ → Cell → ℕ
start_of δ c = cond (opening c) (c.beat * δ) (suc c.beat * δ - c.before)

unfoldable pub end_of : ℕ → Cell → ℕ
end_of δ c = cond (opening c) (c.beat * δ + c.after) (suc c.beat * δ)

-- A cell's piece in front of those behind it; with the next cell's it is one piece where it fills its beat.
unfoldable pub add_cell : ℕ → Cell → Bool → Bool → List Piece → List Piece
unfolding fills start_of end_of
add_cell δ c held right [] =
    record {
      note = record { lane = c.lane; start = start_of δ c; end = end_of δ c; velocity = c.velocity };
      shown = held;
      joined = right;
    } ∷ []
add_cell δ c held right (p ∷ ps) =
    cond (fills δ c)
    (record {
      note = record { lane = c.lane; start = start_of δ c; end = p.note.end; velocity = c.velocity };
      shown = held && p.shown;
      joined = p.joined;
    } ∷ ps)
    (record {
      note = record { lane = c.lane; start = start_of δ c; end = end_of δ c; velocity = c.velocity };
      shown = held;
      joined = right;
    } ∷ p ∷ ps)

-- The pieces of cells in order; left: the first cell is bound to one before it. A piece is hidden if a cell of it neither stands alone nor is bound.
unfoldable pub pieces : Header → Bool → List Cell → List Piece
unfolding stands_alone bound_next add_cell
pieces h left [] = []
pieces h left (c ∷ cs) =
    let right = bound_next h c cs in
    add_cell h.delta c (stands_alone h c || left || right) right (pieces h right cs)

-- ---- notes

-- The velocity of a note made of several pieces is that of the first.
abbrev pub merged_velocity : ℕ → ℕ → ℕ
merged_velocity first last = first

-- The first piece is shown.
abbrev pub first_shown : List Piece → Bool
first_shown [] = false
first_shown (p ∷ ps) = p.shown

-- A note that goes on in the first of those behind it: start of the former, end of the latter.
abbrev pub go_on : Note → List Note → List Note
go_on n [] = n ∷ []
go_on n (m ∷ ms) = record { lane = n.lane; start = n.start; end = m.end; velocity = merged_velocity n.velocity m.velocity } ∷ ms

-- A note is a longest run of shown pieces, each bound to the next: start of the first, end of the last, velocity of the first.
unfoldable pub runs : List Piece → List Note
runs [] = []
runs (p ∷ ps) =
    let ns = runs ps in
    cond p.shown (cond (p.joined && first_shown ps) (go_on p.note ns) (p.note ∷ ns)) ns

-- The notes that the rules give from cells in order: those touching or crossing a line.
unfoldable pub line_notes : Header → List Cell → List Note
unfolding pieces runs
line_notes h cells = runs (pieces h false cells)
