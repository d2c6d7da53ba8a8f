-- `cuts::seam::count_run` meets its contract.
use mathlib.Core.Path.{◌∙◌}
use Rattle.std.proofs.Common.{rules, tests}
use Rattle.std.proofs.lemmas.Iterator.{IsFirst-from_position, YieldsList-from_slice}
use Rattle.session.specs.Reading.{cell_at}
use Rattle.cuts.proofs.JoinCounts.{Other, Own, run_ends}
use Rattle.cuts.proofs.seam.count_run.Goals as goal

pub returns : goal.returns
unfolding cell_at
returns c =
    c.unwrap_or.ensures ∙ run_ends c.args.lane c.args.cells.now _
    (IsFirst-from_position _ _ _ (Other c.args.lane) (Own c.args.lane) c.position-other.ensures.ran (YieldsList-from_slice _ c.iter.ensures.rest)
    (λ x q k. search (rules, tests)) (λ x q k. search (rules, tests)))
