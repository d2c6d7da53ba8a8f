-- `writer::many::fits` meets its contract: by the bound, or by the events counted.
use native.Mathlib.Omega.{arith}
use Rattle.writer.proofs.Shelves.{ordered, lanes_split, track_asks}
use Rattle.writer.proofs.Written.{bound-fits, left-short, counted_fits}
use Rattle.writer.proofs.many.fits.Goals as goal

pub returns-then-track_most-room : goal.returns-then-track_most-room
returns-then-track_most-room c = let m = rw c.end-end.ensures at c.track_most.ensures in bound-fits c.args.take.sound _ (omega (arith, c.if-track_most-room.true, m))

pub runs-n-requires : goal.runs-n-requires
runs-n-requires c = (ordered c.args.take.sound, c.requires.starts, c.requires.limits)

pub length_left-length-requires : goal.length_left-length-requires
length_left-length-requires c =
    let p = c.args.take.sound in
    let l = c.requires in
    let r = c.runs-n.ensures in
    rw c.end-end.ensures (track_asks c.args.take r.0 r.1 _ l.next l.here l.there l.table, omega (arith, left-short p (lanes_split r.0).all, p.few))

pub overflow_add-result : goal.overflow_add-result
overflow_add-result c =
    let p = c.args.take.sound in
    let l = rw c.end-end.ensures at c.length_left-length.ensures in
    omega (arith, left-short p (lanes_split c.runs-n.ensures.0).all, l, p.few)

pub returns : goal.returns
returns c = counted_fits c.args.take.sound (lanes_split c.runs-n.ensures.0).all _ (rw c.end-end.ensures at c.length_left-length.ensures)
