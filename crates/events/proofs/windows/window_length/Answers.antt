-- `events::windows::window_length` meets its contract.
use native.Mathlib.Omega.{arith}
use Rattle.events.proofs.WindowLoops.{counting_start, counting_on, counting_within, counting_room, counting_more, counting_over}
use Rattle.events.proofs.windows.window_length.Goals as goal

pub loop-event-init : goal.loop-event-init
loop-event-init c = counting_start _ c.requires.0

pub tick_of-tick-requires : goal.tick_of-tick-requires
tick_of-tick-requires c = omega (arith, counting_within c.loop-event.invariant (omega arith))

pub overflow_sub-tick : goal.overflow_sub-tick
overflow_sub-tick c = omega (arith, counting_on c.loop-event.invariant (omega arith), c.tick_of-tick.ensures)

pub group_count-requires : goal.group_count-requires
group_count-requires c = omega (arith, counting_within c.loop-event.invariant (omega arith), c.tick_of-tick.ensures)

pub overflow_cast-reached : goal.overflow_cast-reached
overflow_cast-reached c = omega (arith, counting_room c.loop-event.invariant (omega arith) _ c.tick_of-tick.ensures, c.requires.1, c.group_count.ensures)

pub overflow_add-reached : goal.overflow_add-reached
overflow_add-reached c = omega (arith, counting_room c.loop-event.invariant (omega arith) _ c.tick_of-tick.ensures, c.requires.1, c.group_count.ensures)

pub overflow_add-reached-in-loop-event : goal.overflow_add-reached-in-loop-event
overflow_add-reached-in-loop-event c = omega (arith, counting_room c.loop-event.invariant (omega arith) _ c.tick_of-tick.ensures, c.requires.1, c.group_count.ensures)

pub loop-event-preserved : goal.loop-event-preserved
loop-event-preserved c = counting_more c.loop-event.invariant (omega arith) _ _ c.tick_of-tick.ensures (omega (arith, c.group_count.ensures))

pub returns : goal.returns
returns c = counting_over c.loop-event.invariant (omega arith)
