-- `events::windows::window_length` meets its contract.
use Rattle.events.proofs.WindowLoops.{Counting}
use Rattle.events.proofs.windows.window_length.Given as goal

abbrev pub invariant-loop-event : goal.invariant-loop-event
invariant-loop-event l = Counting l.events l.fn.from.tick l.fn.from.at l.event-index l.reached.tick l.reached.at
