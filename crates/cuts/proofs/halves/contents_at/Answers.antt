-- `cuts::halves::contents_at` meets its contract.
use Rattle.cuts.specs.Halving.{contents_at}
use Rattle.cuts.proofs.halves.contents_at.Goals as goal

pub returns : goal.returns
unfolding contents_at
returns c = c.counted.ensures
