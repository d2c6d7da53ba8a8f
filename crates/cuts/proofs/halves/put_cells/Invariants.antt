-- `cuts::halves::put_cells` meets its contract.
use Rattle.cuts.proofs.BothPasses.{Celling}
use Rattle.cuts.proofs.halves.put_cells.Given as goal

abbrev pub invariant-loop-left : goal.invariant-loop-left
invariant-loop-left l = Celling l.initial.s l.s l.beat l.from l.initial.at l.at l.left
