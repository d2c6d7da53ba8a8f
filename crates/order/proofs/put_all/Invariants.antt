-- `order::put_all` meets its contract.
use Rattle.order.specs.Notes.{events_of}
use Rattle.order.specs.Whole.{Put}
use Rattle.order.proofs.put_all.Given as goal

abbrev pub invariant-loop-e : goal.invariant-loop-e
invariant-loop-e l = Put (events_of l.notes) l.initial.events l.events l.e
