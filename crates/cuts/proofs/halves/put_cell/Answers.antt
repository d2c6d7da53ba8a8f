-- `cuts::halves::put_cell` meets its contract.
use native.Mathlib.Omega.{arith}
use Rattle.cuts.proofs.BothParts.{place-room, place-put}
use Rattle.cuts.proofs.halves.put_cell.Goals as goal

pub put-requires : goal.put-requires
put-requires c = (omega arith, place-room _ _ _ c.cell_place-place.ensures _ c.requires.0 c.requires.1)

pub returns : goal.returns
returns c = place-put _ _ _ c.cell_place-place.ensures _ (rw c.into.ensures at c.put.ensures)
