-- `cuts::joined::put_joined_cells` meets its contract.
use Rattle.cuts.proofs.JoinCells.{Joining}
use Rattle.cuts.proofs.joined.put_joined_cells.Given as goal

abbrev pub invariant-loop-left : goal.invariant-loop-left
invariant-loop-left l = Joining l.initial.s l.s l.to l.beats l.first l.fn.second l.at l.left l.rest
