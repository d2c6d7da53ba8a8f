-- `cuts::counting::count_seams` meets its contract. The measure is how many cells are left of both takes.
use native.Mathlib.Omega.{arith}
use mathlib.Core.Path.{◌∙◌}
use Rattle.cuts.proofs.JoinCounts.{ahead_of_cells, some-left, none-left, seams_counted, fewer_cells, pairs-room, alone-room, counting_lane}
use Rattle.cuts.proofs.counting.count_seams.Goals as goal

pub overflow_add-pairs : goal.overflow_add-pairs
overflow_add-pairs c =
    let left = c.lane_ahead.ensures ∙ ahead_of_cells _ in
    let over = c.lane_ahead-in-loop-left.ensures ∙ ahead_of_cells _ in
    omega (
      arith,
      pairs-room c.loop-left.invariant (some-left _ c.is_empty.ensures c.loop-left-test.true) left over c.min-lane.ensures
          c.lane_run.ensures.run c.lane_run-in-loop-left.ensures.run c.lane_run.ensures.rest c.lane_run-in-loop-left.ensures.rest c.run_count-next.ensures c.requires.few,
    )

pub overflow_add-alone : goal.overflow_add-alone
overflow_add-alone c =
    let left = c.lane_ahead.ensures ∙ ahead_of_cells _ in
    let over = c.lane_ahead-in-loop-left.ensures ∙ ahead_of_cells _ in
    omega (
      arith,
      alone-room c.loop-left.invariant (some-left _ c.is_empty.ensures c.loop-left-test.true) left over c.min-lane.ensures
          c.lane_run.ensures.run c.lane_run-in-loop-left.ensures.run c.lane_run.ensures.rest c.lane_run-in-loop-left.ensures.rest c.run_count-next.ensures c.requires.few,
    )

pub loop-left-smaller : goal.loop-left-smaller
loop-left-smaller c =
    let left = c.lane_ahead.ensures ∙ ahead_of_cells _ in
    let over = c.lane_ahead-in-loop-left.ensures ∙ ahead_of_cells _ in
    fewer_cells c.loop-left.invariant (some-left _ c.is_empty.ensures c.loop-left-test.true) left over c.min-lane.ensures
    c.lane_run.ensures.rest c.lane_run-in-loop-left.ensures.rest

pub loop-left-preserved : goal.loop-left-preserved
loop-left-preserved c =
    let left = c.lane_ahead.ensures ∙ ahead_of_cells _ in
    let over = c.lane_ahead-in-loop-left.ensures ∙ ahead_of_cells _ in
    counting_lane c.loop-left.invariant (some-left _ c.is_empty.ensures c.loop-left-test.true) left over c.min-lane.ensures
    c.lane_run.ensures.run c.lane_run-in-loop-left.ensures.run c.lane_run.ensures.rest c.lane_run-in-loop-left.ensures.rest c.run_count-next.ensures

pub returns : goal.returns
returns c = seams_counted c.loop-left.invariant (none-left _ c.is_empty.ensures c.loop-left-test.false)
