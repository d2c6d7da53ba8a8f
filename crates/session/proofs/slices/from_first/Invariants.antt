-- `session::slices::from_first` meets its contract. The measure is how many cells are left.
use Rattle.std.proofs.Common.{◌≡◌, ℕ, length, Bool, List}
use Rattle.std.specs.Borrow.{Bor}
use Rattle.model.specs.declared.Cell.{Cell}
use Rattle.session.specs.Running.{from_first}
use Rattle.session.specs.Sliced.{cells_of}
use Rattle.session.proofs.slices.from_first.Given as goal

abbrev pub invariant-loop-c : goal.invariant-loop-c
invariant-loop-c g l =
    (p : Cell → List Cell → Bool) → ((c : Cell) (behind : Bor (List (List ℕ))) (r : Bool) → goal.F-post g l.test c behind r → r ≡ p c (cells_of behind.now))
    → from_first p (cells_of l.left) ≡ from_first p (cells_of l.cells)

abbrev pub decreases-loop-c : goal.decreases-loop-c
decreases-loop-c g l = length (cells_of l.left)
