-- `cuts::seam::put_note_run` meets its contract.
use Rattle.cuts.proofs.JoinSeam.{Running}
use Rattle.cuts.proofs.seam.put_note_run.Given as goal

abbrev pub invariant-loop-rest : goal.invariant-loop-rest
invariant-loop-rest l = Running l.initial.s l.s l.to l.lane l.ticks l.notes.end l.notes.left l.at l.rest
