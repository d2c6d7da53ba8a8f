-- `cuts::joined::put_lower` meets its contract.
use native.Mathlib.Omega.{arith}
use Rattle.cuts.proofs.JoinCells.{lower_movable, lower-room, lowering_cell, lowered_stop, lowered_end}
use Rattle.cuts.proofs.joined.put_lower.Goals as goal

pub overflow_add-later : goal.overflow_add-later
overflow_add-later c = omega (arith, (lower_movable c.args.cells.fits c.requires c.loop-rest.invariant c.loop-rest-test.true c.cell_at-c.ensures).beat_word)

pub put-requires : goal.put-requires
put-requires c = (omega arith, lower-room c.args.cells.fits c.requires c.loop-rest.invariant c.loop-rest-test.true c.cell_at-c.ensures c.if-lane-c.false)

pub loop-rest-preserved : goal.loop-rest-preserved
loop-rest-preserved c = lowering_cell c.args.cells.fits c.requires c.loop-rest.invariant c.loop-rest-test.true c.cell_at-c.ensures c.if-lane-c.false (rw c.into.ensures at c.put.ensures)

pub returns-clause-put : goal.returns-clause-put
returns-clause-put c = lowered_end c.args.cells.fits c.requires c.loop-rest.invariant c.keep-2.ensures.left_is (omega (arith, c.loop-rest-test.false))

pub returns-then-lane-c-clause-put : goal.returns-then-lane-c-clause-put
returns-then-lane-c-clause-put c = rw c.keep.ensures.left_is (lowered_stop c.args.cells.fits c.requires c.loop-rest.invariant c.loop-rest-test.true c.cell_at-c.ensures c.if-lane-c.true)
