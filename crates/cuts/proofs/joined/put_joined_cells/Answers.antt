-- `cuts::joined::put_joined_cells` meets its contract.
use mathlib.Core.Path.{refl}
use native.Mathlib.Omega.{arith}
use Rattle.cuts.proofs.JoinCells.{before_asks, some_fewer, at_room, joining_cell, last_asks, joined-room, joined-done}
use Rattle.cuts.proofs.joined.put_joined_cells.Goals as goal

pub put_before-next-requires : goal.put_before-next-requires
put_before-next-requires c = before_asks c.requires c.loop-left.invariant c.loop-left-test.true c.cell_at-c.ensures

pub overflow_sub-at : goal.overflow_sub-at
overflow_sub-at c = omega (arith, some_fewer c.requires c.loop-left.invariant c.loop-left-test.true c.cell_at-c.ensures c.put_before-next.ensures.put)

pub overflow_add-at-in-loop-left : goal.overflow_add-at-in-loop-left
overflow_add-at-in-loop-left c = omega (arith, at_room c.requires c.loop-left.invariant c.loop-left-test.true c.cell_at-c.ensures c.put_before-next.ensures.put)

pub loop-left-preserved : goal.loop-left-preserved
loop-left-preserved c = joining_cell c.requires c.loop-left.invariant c.loop-left-test.true c.cell_at-c.ensures c.put_before-next.ensures.put refl c.put_before-next.ensures.end_is

pub put_lower-over-requires : goal.put_lower-over-requires
put_lower-over-requires c = last_asks c.requires c.loop-left.invariant (omega (arith, c.loop-left-test.false))

pub overflow_add-result : goal.overflow_add-result
overflow_add-result c = omega (arith, (joined-room c.requires c.loop-left.invariant (omega (arith, c.loop-left-test.false)) c.put_lower-over.ensures.put).1)

pub returns : goal.returns
returns c = joined-done c.requires c.loop-left.invariant (omega (arith, c.loop-left-test.false)) c.put_lower-over.ensures.put
