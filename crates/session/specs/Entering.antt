-- Questions 1 and 2 of a call that names one shelf: the paper's number and values. Assumes nothing.
use Rattle.std.specs.Prelude.{ℕ, cond, List, [], ltb, length}
use Rattle.model.specs.Session.{header_of, words_of_header}
use Rattle.model.specs.Questions.{header_ok}

-- Question 1 on the session's own words, then question 2: 0 with δ, ε, K and W, or a refusal's number with nothing.
unfoldable pub entry_asked : List ℕ → ℕ → ℕ × List ℕ
unfolding header_of header_ok
entry_asked s shelf =
    cond (header_ok (header_of s) (length s)) (cond (ltb shelf (header_of s).shelves) (0, words_of_header (header_of s)) (2, [])) (1, [])
