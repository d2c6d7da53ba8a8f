-- `session::sound::notes_ok` meets its contract.
use mathlib.Core.Path.{◌≡◌}
use lib.ListN.{drop}
use Rattle.session.specs.Sliced.{notes_of, cells_of}
use Rattle.session.specs.Checking.{before_all}
use Rattle.session.specs.Passing.{all_pass}
use Rattle.session.proofs.sound.notes_ok.Given as goal

abbrev pub invariant-loop-words : goal.invariant-loop-words
invariant-loop-words l =
    all_pass l.h l.beats l.last (notes_of (drop l.words-index l.notes)) (cells_of l.left.beside.now) (cells_of l.left.line.now)
    ≡ all_pass l.h l.beats before_all (notes_of l.notes) (cells_of l.cells) (cells_of l.cells)
