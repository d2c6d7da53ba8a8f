-- `events::windows::put_window` meets its contract.
use Rattle.events.proofs.WindowLoops.{Putting}
use Rattle.events.proofs.windows.put_window.Given as goal

abbrev pub invariant-loop-event : goal.invariant-loop-event
invariant-loop-event l = Putting l.events l.fn.from.tick l.fn.from.at l.initial.out l.event-index l.reached.tick l.reached.at l.out
