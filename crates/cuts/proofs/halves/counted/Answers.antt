-- `cuts::halves::counted` meets its contract.
use Rattle.cuts.proofs.Parts.{contents_same}
use Rattle.cuts.proofs.halves.counted.Goals as goal

pub returns : goal.returns
returns c = contents_same _ _ _ _ _
