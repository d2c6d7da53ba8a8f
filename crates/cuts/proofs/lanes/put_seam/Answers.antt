-- `cuts::lanes::put_seam` meets its contract.
use native.Mathlib.Omega.{arith}
use Rattle.cuts.proofs.LaneSeam.{kept_few, put-apart, over_room, put_over}
use Rattle.cuts.proofs.lanes.put_seam.Goals as goal

pub returns-in_default : goal.returns-in_default
returns-in_default c = put-apart _ c.in_default.is

pub overflow_mul-at : goal.overflow_mul-at
overflow_mul-at c = omega (arith, kept_few c.in-Some.over c.args.count, c.kept_notes.ensures, c.requires.0)

pub overflow_add-at : goal.overflow_add-at
overflow_add-at c = omega (arith, kept_few c.in-Some.over c.args.count, c.kept_notes.ensures, c.requires.0)

pub put-requires : goal.put-requires
put-requires c = (omega arith, over_room _ c.in-Some.is c.args.to c.kept_notes.ensures c.requires.1)

pub overflow_add-result-2 : goal.overflow_add-result-2
overflow_add-result-2 c = omega (arith, over_room _ c.in-Some.is c.args.to c.kept_notes.ensures c.requires.1)

pub returns : goal.returns
returns c = put_over _ c.in-Some.is c.kept_notes.ensures (rw c.into.ensures at c.put.ensures)
