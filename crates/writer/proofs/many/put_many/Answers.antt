-- `writer::many::put_many` meets its contract.
use mathlib.Core.Path.{sym, ◌∙◌}
use native.Mathlib.Omega.{arith}
use Rattle.writer.proofs.Shelves.{ordered, lanes_split, track_asks}
use Rattle.writer.proofs.Written.{left-short, left-room, header-room, file-put}
use Rattle.writer.proofs.many.put_many.Goals as goal

pub runs-n-requires : goal.runs-n-requires
runs-n-requires c = (ordered c.args.take.sound, omega (arith, c.requires.starts), omega (arith, c.requires.limits))

pub put_left-behind-requires : goal.put_left-behind-requires
put_left-behind-requires c =
    let r = c.runs-n.ensures in
    let l = c.requires in
    let f = sym c.fits.ensures ∙ c.if-not-fits.false in
    rw c.end-end.ensures
    (track_asks c.args.take r.0 r.1 _ (omega (arith, l.next)) (omega (arith, l.here)) (omega (arith, l.there)) (omega (arith, l.table)), left-room c.args.take.sound (lanes_split r.0).all c.args.out.now f)

pub overflow_cast-behind : goal.overflow_cast-behind
overflow_cast-behind c =
    let p = c.args.take.sound in
    let t = rw c.end-end.ensures at c.put_left-behind.ensures in
    omega (arith, left-short p (lanes_split c.runs-n.ensures.0).all, t.0, p.few)

pub put_header-requires : goal.put_header-requires
put_header-requires c =
    let p = c.args.take.sound in
    let t = rw c.end-end.ensures at c.put_left-behind.ensures in
    (p.delta_low, header-room p (lanes_split c.runs-n.ensures.0).all _ (sym c.fits.ensures ∙ c.if-not-fits.false) t.1)

pub returns : goal.returns
returns c =
    let p = c.args.take.sound in
    let t = rw c.end-end.ensures at c.put_left-behind.ensures in
    file-put p (lanes_split c.runs-n.ensures.0).all _ (sym c.fits.ensures ∙ c.if-not-fits.false) t.0 t.1 c.put_header.ensures
