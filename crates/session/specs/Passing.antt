-- Question 4 for the notes of a shelf, one after the other, beside the cells that are left. Assumes nothing.
use Rattle.std.specs.Prelude.{Bool, true, false, ◌&&◌, List, [], ◌∷◌, ℕ, ltb, length, Option, Some, None}
use Rattle.model.specs.Pieces.{first_beat, inside_at, inside}
use Rattle.model.specs.Soundness.{note_ok, follows}
use Rattle.model.specs.declared.Header.{Header}
use Rattle.model.specs.declared.Note.{Note}
use Rattle.model.specs.declared.Cell.{Cell}
use Rattle.laws.specs.Sweep.{skip, clear_two}
use Rattle.session.specs.Checking.{given_by}
use Rattle.session.specs.Running.{behind_run}

-- The first cells, if they are fewer than the second ones; else the second ones.
unfoldable pub fewer : List Cell → List Cell → List Cell
fewer cs ds = elim (ltb (length cs) (length ds)) [ true ↦ cs | false ↦ ds ]

-- What is left behind a note that touches no line: of the cells cs, beside it, those from its beat on, if it is clear of them.
unfoldable pub passed_inner : Header → Note → List Cell → List Cell → Option (List Cell × List Cell)
unfolding skip clear_two
passed_inner h n cs ds =
    let es = skip n.lane (first_beat h.delta n) cs in elim (clear_two h.delta n es) [ true ↦ Some (es, ds) | false ↦ None ]

-- What is left behind a note at a line: of the cells ds those behind their first run, if it is the run's note.
unfoldable pub passed_line : Header → Note → List Cell → List Cell → Option (List Cell × List Cell)
unfolding fewer behind_run
passed_line h n cs ds = elim (behind_run h n ds) [ None ↦ None | Some es ↦ Some (fewer es cs, es) ]

-- What is left behind a note, if it stands rightly beside the cells.
unfoldable pub passed : Header → Note → List Cell → List Cell → Option (List Cell × List Cell)
unfolding inside_at passed_inner passed_line
passed h n cs ds = elim (inside h.delta n) [ true ↦ passed_inner h n cs ds | false ↦ passed_line h n cs ds ]

-- All notes behind a note m are in range, in order and stand rightly beside the cells.
unfoldable pub all_pass : Header → ℕ → Note → List Note → List Cell → List Cell → Bool
unfolding note_ok follows passed given_by
all_pass h beats m [] cs ds = given_by h [] ds
all_pass h beats m (n ∷ ns) cs ds =
    (note_ok h.delta beats n && follows m n) && elim (passed h n cs ds) [ None ↦ false | Some l ↦ all_pass h beats n ns l.0 l.1 ]
