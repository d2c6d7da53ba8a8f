-- `cuts::seam::least_lane` meets its contract.
use Rattle.cuts.proofs.JoinSeam.{least_is}
use Rattle.cuts.proofs.seam.least_lane.Goals as goal

pub returns : goal.returns
returns c = least_is _ _ _ c.lane_of.ensures c.lane_of-2.ensures c.min.ensures
