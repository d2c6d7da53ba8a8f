-- Lists of calls, each given the session as the one before left it, and the plain machine that is fed them with the numbers that they
-- returned. Write is not among them: it changes no word. Assumes nothing.
use Rattle.std.specs.Prelude.{ℕ, zero, suc, List, [], ◌∷◌}
use Rattle.model.specs.Machine as M
use Rattle.model.specs.Machine.{Machine, recorded}
use Rattle.model.specs.Questions as Q
use Rattle.midi.specs.Reading.{FileAnswer, refused, read, read_file}
use Rattle.file.specs.Calls.{load_number, load_after}

-- A call with its arguments: open, lay, split or join; or load, with a shelf and a file's bytes.
pub data Call : Type 0 where
  beat_call : M.Call → Call
  load_call : ℕ → List ℕ → Call

-- The number that a call returns, and the session's words after it.
unfoldable pub number : List ℕ → Call → ℕ
unfolding Q.number load_number
number s (beat_call c) = Q.number s c
number s (load_call i file) = load_number s i file

unfoldable pub after : List ℕ → Call → List ℕ
unfolding Q.after load_after
after s (beat_call c) = Q.after s c
after s (load_call i file) = load_after s i file

-- The calls with their numbers, and the session's words after all of them.
unfoldable pub answered : List ℕ → List Call → List (Call × ℕ)
unfolding number after
answered s [] = []
answered s (c ∷ cs) = (c, number s c) ∷ answered (after s c) cs

unfoldable pub after_all : List ℕ → List Call → List ℕ
unfolding after
after_all s [] = s
after_all s (c ∷ cs) = after_all (after s c) cs

-- ---- the plain machine

-- A file as read in the session's δ is the recording with the next number; one that is not read changes nothing.
unfoldable pub recorded_file : Machine → ℕ → FileAnswer → Machine
unfolding recorded
recorded_file m i (refused n) = m
recorded_file m i (read r) = recorded m i r

-- A call that returned 0.
unfoldable pub accepted : Machine → Call → Machine
unfolding M.accepted recorded_file read_file
accepted m (beat_call c) = M.accepted m c
accepted m (load_call i file) = recorded_file m i (read_file m.header.delta file)

-- A call with a number above 0 changes nothing.
unfoldable pub fed : Machine → Call × ℕ → Machine
unfolding accepted
fed m c = elim c.1 [ zero ↦ accepted m c.0 | suc n ↦ m ]

-- The machine after a list of calls with their numbers.
unfoldable pub fed_all : Machine → List (Call × ℕ) → Machine
unfolding fed
fed_all m [] = m
fed_all m (c ∷ cs) = fed_all (fed m c) cs
