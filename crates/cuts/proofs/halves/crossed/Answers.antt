-- `cuts::halves::crossed` meets its contract.
use mathlib.Core.Path.{ap}
use Rattle.cuts.specs.Halving.{is_right}
use Rattle.cuts.proofs.Parts.{crossed_right, crossed_left}
use Rattle.cuts.proofs.halves.crossed.Goals as goal

pub returns-in-Left : goal.returns-in-Left
returns-in-Left c = crossed_left _ _ _ (ap is_right c.in-Left.is)

pub returns-in-Right : goal.returns-in-Right
returns-in-Right c = crossed_right _ _ _ (ap is_right c.in-Right.is)
