-- `file::loading::put_recording` meets its contract.
use Rattle.file.proofs.LaidRecordings.{sized, shelf_asks, counts_ask, notes_asks, cells_asks, frame_asks, recording_laid}
use native.Mathlib.Omega.{arith}
use Rattle.file.proofs.loading.put_recording.Goals as goal

pub first_places-requires : goal.first_places-requires
first_places-requires c = counts_ask c.requires

pub put_notes-requires : goal.put_notes-requires
put_notes-requires c = notes_asks c.requires c.first_places.ensures

pub shelf_at-at-requires : goal.shelf_at-at-requires
shelf_at-at-requires c = shelf_asks c.requires

pub overflow_add-at : goal.overflow_add-at
overflow_add-at c = omega (arith, sized c.requires, c.shelf_at-at.ensures)

pub put_cells-requires : goal.put_cells-requires
put_cells-requires c = cells_asks c.requires c.shelf_at-at.ensures c.put_notes.ensures

pub put_frame-requires : goal.put_frame-requires
put_frame-requires c = frame_asks c.requires c.shelf_at-at.ensures c.put_notes.ensures c.put_cells.ensures

pub returns : goal.returns
returns c = recording_laid c.requires c.shelf_at-at.ensures c.put_notes.ensures c.put_cells.ensures c.put_frame.ensures
