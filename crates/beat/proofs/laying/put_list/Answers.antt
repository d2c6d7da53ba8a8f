-- `beat::laying::put_list` meets its contract.
use Rattle.beat.proofs.Lays.{sized, cells_asks, frame_asks, list_laid}
use native.Mathlib.Omega.{arith}
use Rattle.beat.proofs.laying.put_list.Goals as goal

pub shelf_at-at-requires : goal.shelf_at-at-requires
shelf_at-at-requires c = omega (arith, sized c.requires, c.requires.below)

pub copy_from-requires : goal.copy_from-requires
copy_from-requires c = omega (arith, sized c.requires, c.shelf_at-at.ensures)

pub put_cells-requires : goal.put_cells-requires
put_cells-requires c = cells_asks c.requires c.shelf_at-at.ensures c.copy_from.ensures

pub put_frame-requires : goal.put_frame-requires
put_frame-requires c = frame_asks c.requires c.shelf_at-at.ensures c.copy_from.ensures c.put_cells.ensures

pub returns : goal.returns
returns c =
    list_laid c.requires c.shelf_at-at.ensures c.copy_from.ensures c.put_cells.ensures
    c.put_frame.ensures
