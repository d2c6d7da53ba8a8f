-- `cuts::halves::put_notes` meets its contract.
use Rattle.cuts.proofs.BothPasses.{Noting}
use Rattle.cuts.proofs.halves.put_notes.Given as goal

abbrev pub invariant-loop-left : goal.invariant-loop-left
invariant-loop-left l = Noting l.initial.s l.s l.split.h l.split.before l.split.behind l.from l.initial.at.to l.at l.left
