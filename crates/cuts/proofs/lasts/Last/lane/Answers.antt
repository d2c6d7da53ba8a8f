-- `cuts::lasts::Last::lane` meets its contract.
use native.Mathlib.Omega.{arith}
use mathlib.Core.Path.{◌∙◌}
use Rattle.cuts.proofs.JoinCounts.{ahead_of_last}
use Rattle.cuts.proofs.lasts.Last.lane.Goals as goal

pub arrays-requires : goal.arrays-requires
arrays-requires g c = (omega arith, (omega (arith, c.requires.some), (c.requires.some.0, c.requires.inside)))

pub lane_ahead-requires : goal.lane_ahead-requires
lane_ahead-requires g c = (omega (arith, c.requires.some), c.requires.some.0)

pub returns : goal.returns
returns g c = c.lane_ahead.ensures ∙ ahead_of_last _ c.requires.some.0 _ _ _ c.arrays.ensures
