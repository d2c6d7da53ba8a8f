-- `writer::few::put_lent` meets its contract.
use mathlib.Core.Path.{◌∙◌}
use native.Mathlib.Omega.{arith}
use Rattle.writer.proofs.FewNotes.{table_asks, table_leb}
use Rattle.writer.proofs.Written.{left-short, left-room, header-room, file-put, file-none}
use Rattle.writer.proofs.few.put_lent.Goals as goal

pub fits-requires : goal.fits-requires
fits-requires c = rw c.end-end.ensures (table_asks c.args.take.sound c.requires.0 c.put_sorted.ensures)

pub returns-then-not-fits : goal.returns-then-not-fits
returns-then-not-fits c =
    let p = c.args.take.sound in
    let e = c.put_sorted.ensures in
    file-none p _ (table_leb p c.requires.0 e _ (rw c.end-end.ensures at c.fits.ensures) ∙ c.if-not-fits.true)

pub put_track-behind-requires : goal.put_track-behind-requires
put_track-behind-requires c =
    let p = c.args.take.sound in
    let e = c.put_sorted.ensures in
    let f = table_leb p c.requires.0 e _ (rw c.end-end.ensures at c.fits.ensures) ∙ c.if-not-fits.false in
    rw c.end-end.ensures (table_asks p c.requires.0 e, left-room p e c.args.out.now f)

pub overflow_cast-behind : goal.overflow_cast-behind
overflow_cast-behind c =
    let p = c.args.take.sound in
    let e = c.put_sorted.ensures in
    let t = rw c.end-end.ensures at c.put_track-behind.ensures in
    omega (arith, left-short p e, t.0, c.requires.0)

pub put_header-requires : goal.put_header-requires
put_header-requires c =
    let p = c.args.take.sound in
    let e = c.put_sorted.ensures in
    let f = table_leb p c.requires.0 e _ (rw c.end-end.ensures at c.fits.ensures) ∙ c.if-not-fits.false in
    let t = rw c.end-end.ensures at c.put_track-behind.ensures in
    (p.delta_low, header-room p e _ f t.1)

pub returns : goal.returns
returns c =
    let p = c.args.take.sound in
    let e = c.put_sorted.ensures in
    let f = table_leb p c.requires.0 e _ (rw c.end-end.ensures at c.fits.ensures) ∙ c.if-not-fits.false in
    let t = rw c.end-end.ensures at c.put_track-behind.ensures in
    file-put p e _ f t.0 t.1 c.put_header.ensures
