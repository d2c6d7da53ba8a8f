-- `cuts::joined::put_lower` meets its contract.
use Rattle.cuts.proofs.JoinCells.{Lowering}
use Rattle.cuts.proofs.joined.put_lower.Given as goal

abbrev pub invariant-loop-rest : goal.invariant-loop-rest
invariant-loop-rest l = Lowering l.initial.s l.s l.to l.lane l.beats l.cells.end l.cells.left l.at l.rest
