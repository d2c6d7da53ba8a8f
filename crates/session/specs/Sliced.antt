-- Notes and cells in slices of their words. Assumes nothing.
use Rattle.std.specs.Prelude.{List, [], ◌∷◌, map, ℕ, Option, Some, None}
use Rattle.std.specs.Borrow.{Bor}
use Rattle.model.specs.declared.Note.{Note}
use Rattle.model.specs.declared.Cell.{Cell}
use Rattle.session.specs.Reading.{note_at, cell_at}

abbrev pub notes_of : List (List ℕ) → List Note
notes_of = map (λ ws. note_at ws 0)

abbrev pub cells_of : List (List ℕ) → List Cell
cells_of = map (λ ws. cell_at ws 0)

abbrev pub cells_of_option : Option (Bor (List (List ℕ))) → Option (List Cell)
cells_of_option None = None
cells_of_option (Some cs) = Some (cells_of cs.now)

-- What a first cell and those behind it make; nothing without them.
abbrev pub first_cell : Option (Cell × Bor (List (List ℕ))) → List Cell
first_cell None = []
first_cell (Some p) = p.0 ∷ cells_of p.1.now
