-- `cuts::joined::beats_at` meets its contract.
use native.Mathlib.Omega.{arith}
use Rattle.model.proofs.Headers.{in_range}
use Rattle.model.specs.Takes.{take_in}
use Rattle.cuts.proofs.joined.beats_at.Goals as goal

pub bounds-shelf-0 : goal.bounds-shelf-0
bounds-shelf-0 c = omega (arith, c.shelf.ensures.long, in_range c.args.s.ok)

pub returns : goal.returns
unfolding take_in
returns c = rw c.shelf.ensures.words
