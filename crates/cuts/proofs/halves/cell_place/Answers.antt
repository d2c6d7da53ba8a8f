-- `cuts::halves::cell_place` meets its contract.
use Rattle.cuts.specs.BothHalves.{cell_place}
use borrow.Author.Tests.{lt-ltb, le-ltb}
use Rattle.cuts.proofs.halves.cell_place.Goals as goal

pub returns-then-own-beat : goal.returns-then-own-beat
unfolding cell_place
returns-then-own-beat c = rw (lt-ltb _ _ c.if-own-beat.true)

pub returns : goal.returns
unfolding cell_place
returns c = rw (le-ltb _ _ c.if-own-beat.false)
