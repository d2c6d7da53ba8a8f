-- Lay: questions 6, 7 and 8 with the paper's number and values of the answer, and the words laid. Assumes nothing.
use Rattle.std.specs.Prelude.{◌≡◌, true, cond, List, [], ◌∷◌, ℕ, ◌/◌, ◌≤◌, ◌<◌, leb, length}
use Rattle.model.specs.Lists.{gather}
use Rattle.model.specs.Limits.{max_beats}
use Rattle.model.specs.Pieces.{cells_of_note}
use Rattle.model.specs.Takes.{words_used, shelf_words}
use Rattle.model.specs.Machine.{listed}
use Rattle.model.specs.Questions.{header_ok, list_ok}
use Rattle.model.specs.declared.Header.{Header}
use Rattle.session.specs.Listing.{cells_listed}

-- Questions 6 and 7, in this order: 0 with the number of the list's cells, or a refusal's number with nothing.
unfoldable pub recording_asked : Header → ℕ → List ℕ → ℕ × List ℕ
unfolding list_ok cells_listed
recording_asked h beats ws =
    cond (leb beats max_beats) (cond (list_ok h beats ws) (0, cells_listed h beats ws ∷ []) (7, [])) (6, [])

-- 8. Do n, N and C, the list's notes and their cells fit W words?
unfoldable pub list_fits : Header → List ℕ → ℕ → ℕ × List ℕ
list_fits h ws count = cond (leb (words_used (length ws / 4) count) h.words) (0, count ∷ []) (8, [])

-- Questions 6, 7 and 8, in this order: 0 with the number of the list's cells, or a refusal's number with nothing.
unfoldable pub lay_asked : Header → ℕ → List ℕ → ℕ × List ℕ
unfolding list_ok cells_listed list_fits
lay_asked h beats ws =
    cond (leb beats max_beats) (cond (list_ok h beats ws) (list_fits h ws (cells_listed h beats ws)) (7, [])) (6, [])

-- The words of a shelf with the list's notes and all their cells.
unfoldable pub laid_words : Header → ℕ → List ℕ → List ℕ
unfolding listed cells_of_note shelf_words
laid_words h beats ws = shelf_words h.words beats (listed beats ws).notes (gather (cells_of_note h.delta) (listed beats ws).notes)

-- What laying a list asks: questions 1, 2, 6, 7 and 8 answered yes.
pub record LayAsks (s : List ℕ) (h : Header) (shelf beats : ℕ) (ws : List ℕ) (count : ℕ) : Type 0 where
  pub header : header_ok h (length s) ≡ true
  pub below : shelf < h.shelves
  pub beats_few : beats ≤ max_beats
  pub list : list_ok h beats ws ≡ true
  pub cells : count ≡ cells_listed h beats ws
  pub fits : words_used (length ws / 4) count ≤ h.words
