-- `cuts::lanes::put_lane` meets its contract.
use native.Mathlib.Omega.{arith}
use Rattle.cuts.proofs.LaneWrites.{second_asks, behind-room, second_behind, lane-put}
use Rattle.cuts.proofs.lanes.put_lane.Goals as goal

pub put_note_run-notes-requires : goal.put_note_run-notes-requires
put_note_run-notes-requires c = second_asks c.args.lane c.requires c.put_front-front.ensures c.behind_seam-behind.ensures.back c.behind_seam-behind.ensures.end_is

pub overflow_add-result : goal.overflow_add-result
overflow_add-result c =
    let behind = c.behind_seam-behind.ensures in
    omega (arith, behind-room c.args.lane c.requires c.put_front-front.ensures behind.back behind.end_is c.put_note_run-notes.ensures.put)

pub returns : goal.returns
returns c =
    let front = c.put_front-front.ensures in
    let behind = c.behind_seam-behind.ensures in
    let notes = c.put_note_run-notes.ensures in
    let cells = c.behind_cell_run-cells.ensures in
    lane-put c.args.lane c.requires front behind.back behind.end_is notes.put
    (second_behind c.args.lane c.requires front behind.back behind.end_is notes.put cells.run)
    notes.end_is
    cells.end_is
