-- `cuts::counting::lane_run` meets its contract.
use mathlib.Core.Path.{ap, ◌∙◌}
use Rattle.session.specs.Sliced.{cells_of}
use Rattle.cuts.proofs.JoinCounts.{run_inside, run_taken, run_dropped}
use Rattle.cuts.proofs.counting.lane_run.Goals as goal

pub split_at-requires : goal.split_at-requires
split_at-requires c = run_inside _ _ c.count_run.ensures

pub returns-clause-run : goal.returns-clause-run
returns-clause-run c = ap cells_of c.split_at.ensures.front ∙ run_taken _ _ c.count_run.ensures

pub returns-clause-rest : goal.returns-clause-rest
returns-clause-rest c = ap cells_of c.split_at.ensures.back ∙ run_dropped _ _ c.count_run.ensures
