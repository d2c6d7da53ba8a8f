-- Question 7: the paper's number and values of the answer to a note list. Assumes nothing.
use Rattle.std.specs.Prelude.{ℕ, cond, List, [], ◌∷◌, length}
use Rattle.model.specs.Lists.{gather}
use Rattle.model.specs.Pieces.{cells_of_note}
use Rattle.model.specs.Machine.{listed}
use Rattle.model.specs.Questions.{list_ok}
use Rattle.model.specs.declared.Header.{Header}

-- A count as a list of one value.
abbrev pub count_words : ℕ → List ℕ
count_words count = count ∷ []

-- The number of cells that the notes of a list have.
unfoldable pub cells_listed : Header → ℕ → List ℕ → ℕ
unfolding listed cells_of_note
cells_listed h beats ws = length (gather (cells_of_note h.delta) (listed beats ws).notes)

-- A list in order is 0 with the number of its cells; a refusal is 7 with nothing.
unfoldable pub list_asked : Header → ℕ → List ℕ → ℕ × List ℕ
unfolding list_ok cells_listed
list_asked h beats ws = cond (list_ok h beats ws) (0, cells_listed h beats ws ∷ []) (7, [])
