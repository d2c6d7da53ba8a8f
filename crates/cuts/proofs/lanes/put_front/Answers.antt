-- `cuts::lanes::put_front` meets its contract.
use Rattle.cuts.proofs.LaneWrites.{first_asks, seam_asks, put_asks, first_behind, first-put}
use Rattle.cuts.proofs.lanes.put_front.Goals as goal

pub put_note_run-notes-requires : goal.put_note_run-notes-requires
put_note_run-notes-requires c = first_asks c.args.lane c.requires

pub seam_of-seam-requires : goal.seam_of-seam-requires
seam_of-seam-requires c = seam_asks c.args.lane c.requires c.put_note_run-notes.ensures.put c.behind_cell_run-cells.ensures.run

pub put_seam-at-requires : goal.put_seam-at-requires
put_seam-at-requires c = put_asks c.args.lane c.requires c.put_note_run-notes.ensures.put c.behind_cell_run-cells.ensures.run _ c.seam_of-seam.ensures

pub returns : goal.returns
returns c =
    let notes = c.put_note_run-notes.ensures in
    let cells = c.behind_cell_run-cells.ensures in
    first-put c.args.lane c.requires notes.put cells.run _ c.seam_of-seam.ensures c.put_seam-at.ensures
    (first_behind c.args.lane c.requires notes.put cells.run)
    notes.end_is
    cells.end_is
