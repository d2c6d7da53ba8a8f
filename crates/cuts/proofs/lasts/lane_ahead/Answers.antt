-- `cuts::lasts::lane_ahead` meets its contract.
use Rattle.cuts.proofs.JoinCounts.{ahead-none, ahead-is}
use Rattle.cuts.proofs.lasts.lane_ahead.Goals as goal

pub returns-in_default : goal.returns-in_default
returns-in_default g c = ahead-none _ c.in_default.ensures.value

pub returns : goal.returns
returns g c = ahead-is _ c.in-Some.ensures.value
