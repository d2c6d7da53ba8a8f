-- `session::neighbours::cells_ok` meets its contract.
use mathlib.Core.Path.{◌≡◌}
use mathlib.Core.Bool.{◌&&◌}
use lib.ListN.{drop}
use Rattle.model.specs.Lists.{every}
use Rattle.laws.specs.Chain.{cell_ok, cells_chain, cells_sound}
use Rattle.session.specs.Sliced.{cells_of}
use Rattle.session.proofs.neighbours.cells_ok.Given as goal

abbrev pub invariant-loop-words : goal.invariant-loop-words
invariant-loop-words l =
    every (cell_ok l.delta l.beats) (cells_of l.cells) && cells_sound l.delta (cells_of l.cells)
    ≡ every (cell_ok l.delta l.beats) (cells_of (drop l.words-index l.behind)) && cells_chain l.delta l.last (cells_of (drop l.words-index l.behind))
