-- The notes that cells give, run by run: where a run starts, where it ends, and its note. Assumes nothing.
use Rattle.std.specs.Prelude.{Bool, true, false, ◌&&◌, ◌||◌, List, [], ◌∷◌, ℕ, eqb, Option, Some, None}
use Rattle.model.specs.Binding.{stands_alone, start_of, end_of}
use Rattle.model.specs.declared.Header.{Header}
use Rattle.model.specs.declared.Note.{Note}
use Rattle.model.specs.declared.Cell.{Cell}
use Rattle.laws.specs.Walk.{linked}

-- The cells from the first one on at which a test of a cell and those behind it holds.
abbrev pub from_first : (Cell → List Cell → Bool) → List Cell → List Cell
from_first p [] = []
from_first p (c ∷ cs) = elim (p c cs) [ true ↦ c ∷ cs | false ↦ from_first p cs ]

-- The cells from the first whose piece is shown.
unfoldable pub from_shown : Header → List Cell → List Cell
unfolding stands_alone linked
from_shown h [] = []
from_shown h (c ∷ cs) = elim (stands_alone h c || linked h c cs) [ true ↦ c ∷ cs | false ↦ from_shown h cs ]

-- The cells from the last of the first run.
unfoldable pub from_last : Header → List Cell → List Cell
unfolding linked
from_last h [] = []
from_last h (c ∷ cs) = elim (linked h c cs) [ true ↦ from_last h cs | false ↦ c ∷ cs ]

-- The note of a run from the piece of cell c to the piece of cell d.
unfoldable pub note_of_run : ℕ → Cell → Cell → Note
unfolding start_of end_of
note_of_run δ c d = record { lane = c.lane; start = start_of δ c; end = end_of δ d; velocity = c.velocity }

-- The same note.
unfoldable pub same_note : Note → Note → Bool
same_note m n = eqb m.lane n.lane && eqb m.start n.start && eqb m.end n.end && eqb m.velocity n.velocity

-- The cells behind a run that goes from the first of the cells cs to the first of the cells ds, if n is its note.
unfoldable pub behind_ends : Header → Note → List Cell → List Cell → Option (List Cell)
unfolding note_of_run same_note
behind_ends h n [] ds = None
behind_ends h n (c ∷ cs) [] = None
behind_ends h n (c ∷ cs) (d ∷ ds) = elim (same_note n (note_of_run h.delta c d)) [ true ↦ Some ds | false ↦ None ]

-- The cells behind the first run, if n is its note.
unfoldable pub behind_run : Header → Note → List Cell → Option (List Cell)
unfolding from_shown from_last behind_ends
behind_run h n cs = behind_ends h n (from_shown h cs) (from_last h (from_shown h cs))
