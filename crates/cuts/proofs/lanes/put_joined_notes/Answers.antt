-- `cuts::lanes::put_joined_notes` meets its contract. The measure is how many lanes are left.
use native.Mathlib.Omega.{arith}
use Rattle.cuts.proofs.LaneWalk.{walk_start, walk_next, walk_later, walk-done, lane_asks, walk-lane}
use Rattle.cuts.proofs.lanes.put_joined_notes.Goals as goal

pub loop-lane-init : goal.loop-lane-init
loop-lane-init c = walk_next c.requires 0 (walk_start c.requires) c.least_lane-lane.ensures

pub put_lane-rests-requires : goal.put_lane-rests-requires
put_lane-rests-requires c = lane_asks c.requires c.loop-lane.invariant c.loop-lane-test.true

pub loop-lane-smaller : goal.loop-lane-smaller
loop-lane-smaller c =
    let next = walk-lane c.requires c.loop-lane.invariant c.loop-lane-test.true c.put_lane-rests.ensures in
    omega (arith, walk_later c.requires _ next c.least_lane-lane-in-loop-lane.ensures (omega (arith, c.loop-lane-test.true)), c.loop-lane-test.true)

pub loop-lane-preserved : goal.loop-lane-preserved
loop-lane-preserved c = walk_next c.requires _ (walk-lane c.requires c.loop-lane.invariant c.loop-lane-test.true c.put_lane-rests.ensures) c.least_lane-lane-in-loop-lane.ensures

pub returns : goal.returns
returns c = walk-done c.requires c.loop-lane.invariant c.loop-lane-test.false
