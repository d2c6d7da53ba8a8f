-- Soundness by neighbours: the test of a shelf that looks at each cell and the next one only. `Soundness` shows that it is the paper's.
-- Assumes nothing.
use Rattle.std.specs.Prelude.{Bool, ◌&&◌, ◌||◌, cond, not, true, List, [], ◌∷◌, ◌*◌, ◌+◌, suc, ℕ, eqb, leb}
use Rattle.model.specs.Binding.{fills, opening}
use Rattle.model.specs.Lists.{every, keep}
use Rattle.model.specs.Pieces.{first_beat, inside, inside_at}
use Rattle.model.specs.Soundness.{cell_before, cell_in_range, filled, has_ticks, layout_ok, memory_within, notes_given, notes_ok, partners}
use Rattle.model.specs.Takes.{cells_in, notes_in, read_cells, read_notes, word}
use Rattle.model.specs.declared.Cell.{Cell}
use Rattle.model.specs.declared.Header.{Header}
use Rattle.model.specs.declared.Note.{Note}

-- What is asked of a cell by itself.
unfoldable pub cell_ok : ℕ → ℕ → Cell → Bool
unfolding cell_in_range memory_within has_ticks
cell_ok δ beats c = cell_in_range beats c && memory_within δ c && has_ticks c

-- Two cells of one lane and beat.
unfoldable pub same_beat : Cell → Cell → Bool
same_beat c d = eqb c.lane d.lane && eqb c.beat d.beat

-- Neighbours: in order; partners where one of them is of a piece that fills its beat; else two pieces of one beat do not overlap.
unfoldable pub neighbours : ℕ → Cell → Cell → Bool
unfolding cell_before partners
neighbours δ c d = cell_before c d && cond (fills δ c || filled δ d) (partners δ c d) (not (same_beat c d) || leb (c.after + d.before) δ)

-- All neighbours in a list whose first cell is not the second of a piece, nor its last cell the first of one.
unfoldable pub cells_chain : ℕ → Cell → List Cell → Bool
unfolding neighbours
cells_chain δ c [] = not (fills δ c)
cells_chain δ c (d ∷ ds) = neighbours δ c d && cells_chain δ d ds

unfoldable pub cells_sound : ℕ → List Cell → Bool
unfolding cells_chain
cells_sound δ [] = true
cells_sound δ (c ∷ cs) = not (filled δ c) && cells_chain δ c cs

-- A cell's piece and a note that touches no line do not overlap.
unfoldable pub clear : ℕ → Note → Cell → Bool
clear δ n c =
    not (eqb n.lane c.lane && eqb (first_beat δ n) c.beat)
    || cond (opening c) (leb (c.beat * δ + c.after) n.start) (leb (n.end + c.before) (suc c.beat * δ))

-- The beats, notes and cells are a sound take.
unfoldable pub chain_take : Header → ℕ → List Note → List Cell → Bool
unfolding inside_at notes_ok cell_ok cells_sound clear notes_given
chain_take h beats notes cells =
    notes_ok h.delta beats notes && every (cell_ok h.delta beats) cells && cells_sound h.delta cells
    && every (λ n. every (clear h.delta n) cells) (keep (inside h.delta) notes) && notes_given h notes cells

-- The words are a sound shelf.
unfoldable pub chain_shelf : Header → List ℕ → Bool
unfolding layout_ok chain_take read_notes read_cells
chain_shelf h ws = layout_ok h.words ws && chain_take h (word ws 0) (notes_in ws) (cells_in ws)
