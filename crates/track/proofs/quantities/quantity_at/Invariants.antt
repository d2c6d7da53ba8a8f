-- `track::quantities::quantity_at` meets its contract.
use Rattle.track.proofs.ReadGroups.{Reading}
use Rattle.track.proofs.quantities.quantity_at.Given as goal

abbrev pub invariant-loop-group : goal.invariant-loop-group
invariant-loop-group l = Reading l.s l.at l._group l.q l.sum
