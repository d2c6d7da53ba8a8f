-- `cuts::seam::behind_cell_run` meets its contract.
use native.Mathlib.Omega.{arith}
use Rattle.cuts.proofs.JoinCounts.{run_few, run_behind}
use Rattle.cuts.proofs.seam.behind_cell_run.Goals as goal

pub overflow_sub-cells : goal.overflow_sub-cells
overflow_sub-cells c = run_few _ _ c.count_run.ensures _ _ _ c.args.cells.fits c.arrays.ensures

pub returns-clause-run : goal.returns-clause-run
returns-clause-run c = rw c.keep.ensures.left_is (run_behind _ _ c.count_run.ensures _ _ _ c.args.cells.fits c.arrays.ensures, omega arith)
