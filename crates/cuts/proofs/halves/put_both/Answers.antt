-- `cuts::halves::put_both` meets its contract.
use Rattle.session.proofs.Sources.{place_asks}
use Rattle.cuts.proofs.HalfWords.{range, read}
use Rattle.cuts.proofs.SplitWords.{notes_asks, cells_asks, left_counts, right_counts, both-put}
use Rattle.cuts.proofs.halves.put_both.Goals as goal

pub shelf_at-l-requires : goal.shelf_at-l-requires
shelf_at-l-requires c = place_asks (range c.requires.left_asks) c.requires.left_asks.to_below

pub shelf_at-r-requires : goal.shelf_at-r-requires
shelf_at-r-requires c = place_asks (range c.requires.left_asks) c.requires.right_asks.to_below

pub put_notes-middle-requires : goal.put_notes-middle-requires
put_notes-middle-requires c =
    let from = read c.requires.left_asks c.contents_of-from.ensures in
    notes_asks c.requires from c.shelf_at-l.ensures c.shelf_at-r.ensures

pub put_cells-end-requires : goal.put_cells-end-requires
put_cells-end-requires c =
    let from = read c.requires.left_asks c.contents_of-from.ensures in
    cells_asks c.requires from c.shelf_at-l.ensures c.shelf_at-r.ensures c.put_notes-middle.ensures

pub put_counts-requires : goal.put_counts-requires
put_counts-requires c =
    let from = read c.requires.left_asks c.contents_of-from.ensures in
    left_counts c.requires from c.shelf_at-l.ensures c.shelf_at-r.ensures c.put_notes-middle.ensures c.put_cells-end.ensures

pub put_counts-requires-2 : goal.put_counts-requires-2
put_counts-requires-2 c =
    let from = read c.requires.left_asks c.contents_of-from.ensures in
    right_counts c.requires from c.shelf_at-l.ensures c.shelf_at-r.ensures c.put_notes-middle.ensures c.put_cells-end.ensures c.put_counts.ensures

pub returns : goal.returns
returns c =
    let from = read c.requires.left_asks c.contents_of-from.ensures in
    both-put c.requires from c.shelf_at-l.ensures c.shelf_at-r.ensures c.put_notes-middle.ensures c.put_cells-end.ensures c.put_counts.ensures c.put_counts-2.ensures
