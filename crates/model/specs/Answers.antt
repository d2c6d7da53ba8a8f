-- Question 1 put to four header words and a length: the paper's number and values. Assumes nothing.
use Rattle.std.specs.Prelude.{ℕ, cond, List, []}
use Rattle.model.specs.Session.{words_of_header}
use Rattle.model.specs.Questions.{header_ok}
use Rattle.model.specs.declared.Header.{Header}

-- A header in range is 0 with δ, ε, K and W; a refusal is 1 with nothing.
unfoldable pub header_asked : Header → ℕ → ℕ × List ℕ
unfolding header_ok
header_asked h len = cond (header_ok h len) (0, words_of_header h) (1, [])
