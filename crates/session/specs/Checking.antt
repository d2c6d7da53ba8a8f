-- What question 4 asks of the notes of a shelf. Assumes nothing.
use Rattle.std.specs.Prelude.{Bool, not, ◌&&◌, List, ℕ}
use Rattle.std.proofs.Math.Option.{none}
use Rattle.model.specs.Lists.{keep, gather}
use Rattle.model.specs.Pieces.{inside_at, inside}
use Rattle.model.specs.Soundness.{notes_ok, same_words}
use Rattle.model.specs.Takes.{note_words}
use Rattle.model.specs.declared.Header.{Header}
use Rattle.model.specs.declared.Note.{Note}
use Rattle.model.specs.declared.Cell.{Cell}
use Rattle.laws.specs.Sweep.{sweep}
use Rattle.laws.specs.Walk.{walk_from}

-- The notes touching or crossing a line are those that the cells give.
unfoldable pub given_by : Header → List Note → List Cell → Bool
unfolding inside_at walk_from
given_by h ns cs = same_words (gather note_words (keep (λ n. not (inside h.delta n)) ns)) (gather note_words (walk_from h none cs))

-- What is asked of notes with cells: those touching no line are clear of the cells cs, the others are those that the cells ds give.
unfoldable pub standing : Header → List Note → List Cell → List Cell → Bool
unfolding inside_at sweep given_by
standing h ns cs ds = sweep h.delta (keep (inside h.delta) ns) cs && given_by h ns ds

-- What is asked of the notes of a shelf, by themselves and with its cells.
unfoldable pub notes_asked : Header → ℕ → List Note → List Cell → Bool
unfolding notes_ok standing
notes_asked h beats ns cs = notes_ok h.delta beats ns && standing h ns cs cs

-- A note that every note may stand behind.
unfoldable pub before_all : Note
before_all = record { lane = 0; start = 0; end = 0; velocity = 0 }
