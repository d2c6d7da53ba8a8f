-- "Reads standard input, one frame a line": lines taken from an input byte by byte, and all that is written. Assumes nothing.
use Rattle.std.specs.Prelude.{cond, List, [], ◌∷◌, ◌++◌, ℕ, eqb, ltb, length}
use Rattle.frames.specs.Answers.{line_answer, line_after}
use Rattle.frames.specs.declared.input.Reading.{Reading}

-- A reading is the session and the characters kept of the line in hand. At first no session is open, and nothing is read.
unfoldable pub start : Reading
start = record { session = []; line = [] }

-- More than 4,001 characters of a line are not kept: it is malformed whatever follows.
abbrev pub kept : List ℕ → ℕ → List ℕ
kept line c = cond (ltb (length line) 4001) (line ++ c ∷ []) line

-- The next byte: a line feed ends the line in hand.
unfoldable pub taken : Reading → ℕ → Reading
unfolding line_after
taken r c =
    cond (eqb c 10) (record { session = line_after r.session r.line; line = [] })
    (record { session = r.session; line = kept r.line c })

-- What is written for it.
unfoldable pub written : Reading → ℕ → List ℕ
unfolding line_answer
written r c = cond (eqb c 10) (line_answer r.session r.line) []

-- The same of several bytes, one after the other.
unfoldable pub taken_all : Reading → List ℕ → Reading
unfolding taken
taken_all r [] = r
taken_all r (c ∷ cs) = taken_all (taken r c) cs

unfoldable pub written_all : Reading → List ℕ → List ℕ
unfolding written taken
written_all r [] = []
written_all r (c ∷ cs) = written r c ++ written_all (taken r c) cs

-- What is written behind the last byte: a last line without a line feed is a frame if it has a character.
unfoldable pub written_last : Reading → List ℕ
unfolding line_answer
written_last r = cond (eqb (length r.line) 0) [] (line_answer r.session r.line)

-- All that is written for an input.
unfoldable pub output_of : List ℕ → List ℕ
unfolding written_all written_last taken_all start
output_of input = written_all start input ++ written_last (taken_all start input)

-- ---- the same said of whole lines

-- The lines of an input behind the characters l: a line feed ends a line; a last line without one is a frame if it has a character.
unfoldable pub lines_from : List ℕ → List ℕ → List (List ℕ)
lines_from l [] = cond (eqb (length l) 0) [] (l ∷ [])
lines_from l (c ∷ cs) = cond (eqb c 10) (l ∷ lines_from [] cs) (lines_from (l ++ c ∷ []) cs)
