-- `cuts::seam::put_note_run` meets its contract.
use native.Mathlib.Omega.{arith}
use Rattle.cuts.proofs.JoinSeam.{run_shiftable, run_room, running_note, run_over, run_end}
use Rattle.cuts.proofs.seam.put_note_run.Goals as goal

pub overflow_add-later : goal.overflow_add-later
overflow_add-later c = omega (arith, (run_shiftable c.args.notes.fits c.requires c.loop-rest.invariant c.loop-rest-test.true c.note_at-n.ensures).start_word)

pub overflow_add-later-in-loop-rest : goal.overflow_add-later-in-loop-rest
overflow_add-later-in-loop-rest c = omega (arith, (run_shiftable c.args.notes.fits c.requires c.loop-rest.invariant c.loop-rest-test.true c.note_at-n.ensures).end_word)

pub put-requires : goal.put-requires
put-requires c = (omega arith, run_room c.args.notes.fits c.requires c.loop-rest.invariant c.loop-rest-test.true c.note_at-n.ensures c.if-n-lane.false)

pub loop-rest-preserved : goal.loop-rest-preserved
loop-rest-preserved c = running_note c.args.notes.fits c.requires c.loop-rest.invariant c.loop-rest-test.true c.note_at-n.ensures c.if-n-lane.false (rw c.into.ensures at c.put.ensures)

pub returns-clause-put : goal.returns-clause-put
returns-clause-put c = run_end c.args.notes.fits c.requires c.loop-rest.invariant c.keep-2.ensures.left_is (omega (arith, c.loop-rest-test.false))

pub returns-then-n-lane-clause-put : goal.returns-then-n-lane-clause-put
returns-then-n-lane-clause-put c = rw c.keep.ensures.left_is (run_over c.args.notes.fits c.requires c.loop-rest.invariant c.loop-rest-test.true c.note_at-n.ensures c.if-n-lane.true)
