-- What the functions that take bytes of input leave: one byte, several, and as much of a block as there is room for. Assumes nothing.
use Rattle.std.specs.Prelude.{◌≡◌, List, [], ◌∷◌, ℕ, ◌+◌, ◌≤◌, ◌<◌, length, take}
use Rattle.words.specs.Splice.{splice}
use Rattle.frames.specs.Answering.{max_answer}
use Rattle.frames.specs.Input.{taken_all, written_all}
use Rattle.frames.specs.declared.input.Reading.{Reading}
use Rattle.frames.specs.declared.input.Stop.{Stop}

-- These bytes were taken: what reading them leaves is kept, what is written for them stands in the output from place at on, and to is the
-- place behind it.
pub record Takes (r : Reading) (out : List ℕ) (at : ℕ) (bytes : List ℕ) (r' : Reading) (out' : List ℕ) (to : ℕ) : Type 0 where
  pub state : r' ≡ taken_all r bytes
  pub output : out' ≡ splice out at (written_all r bytes)
  pub end : to ≡ at + length (written_all r bytes)

-- One byte was taken, for which one answer at most is written.
pub record TakesOne (r : Reading) (out : List ℕ) (at c : ℕ) (r' : Reading) (out' : List ℕ) (to : ℕ) : Type 0 where
  pub takes : Takes r out at (c ∷ []) r' out' to
  pub small : to ≤ at + max_answer

-- A block was read on, as far as q says: to its end, or until the output has no room for another answer.
pub record ReadOn (block : List ℕ) (r : Reading) (out : List ℕ) (at : ℕ) (r' : Reading) (out' : List ℕ) (q : Stop) : Type 0 where
  pub within : q.taken ≤ length block
  pub takes : Takes r out at (take q.taken block) r' out' q.end
  pub room : q.end ≤ length out
  pub stops : q.taken < length block → length out < q.end + max_answer
