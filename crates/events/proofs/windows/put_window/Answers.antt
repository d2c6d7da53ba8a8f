-- `events::windows::put_window` meets its contract.
use native.Mathlib.Omega.{arith}
use Rattle.events.proofs.WindowLoops.{putting_start, counting_on, counting_within, counting_room, counting_over, putting_more, putting_over}
use Rattle.events.proofs.windows.put_window.Goals as goal

pub loop-event-init : goal.loop-event-init
loop-event-init c = putting_start _ _ c.requires.0

pub tick_of-tick-requires : goal.tick_of-tick-requires
tick_of-tick-requires c = omega (arith, counting_within c.loop-event.invariant.counting (omega arith))

pub overflow_sub-tick : goal.overflow_sub-tick
overflow_sub-tick c = omega (arith, counting_on c.loop-event.invariant.counting (omega arith), c.tick_of-tick.ensures)

pub put_event-requires : goal.put_event-requires
put_event-requires c = (omega (arith, counting_within c.loop-event.invariant.counting (omega arith), c.tick_of-tick.ensures), omega (arith, counting_room c.loop-event.invariant.counting (omega arith) _ c.tick_of-tick.ensures, c.loop-event.invariant.long, c.requires.1))

pub loop-event-preserved : goal.loop-event-preserved
loop-event-preserved c = putting_more c.loop-event.invariant (omega arith) _ _ c.tick_of-tick.ensures c.put_event.ensures.0 c.put_event.ensures.1

pub shape_of-out : goal.shape_of-out
shape_of-out c = c.loop-event.invariant.long

pub returns : goal.returns
returns c = record { reached = counting_over c.loop-event.invariant.counting (omega arith); bytes = putting_over c.loop-event.invariant (omega arith) }
