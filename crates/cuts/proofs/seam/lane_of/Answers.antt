-- `cuts::seam::lane_of` meets its contract.
use Rattle.cuts.proofs.JoinSeam.{lane_is}
use Rattle.cuts.proofs.seam.lane_of.Goals as goal

pub returns : goal.returns
returns c = lane_is _ _ c.lane.ensures c.lane-2.ensures c.min.ensures
