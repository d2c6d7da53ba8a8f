-- `writer::files::put_lent` meets its contract.
use native.Mathlib.Omega.{arith}
use Rattle.writer.proofs.Shelves.{ordered, ends_within}
use Rattle.writer.proofs.files.put_lent.Goals as goal

pub plan-requires : goal.plan-requires
plan-requires c =
    let p = c.args.take.sound in
    let w = c.in-Some.ensures in
    rw c.new-width.ensures (ordered p, w.most, λ i h. omega (arith, ends_within p i h, w.late, c.end.ensures), p.few, omega (arith, c.args.tables.now.long.1))

pub put_wide-requires : goal.put_wide-requires
put_wide-requires c =
    let n = c.plan.ensures in
    let w = rw c.end.ensures at c.in-Some.ensures in
    let l = c.args.tables.now.long in (
      record { fair = n.fair c.if-plan.true; places = n.places c.if-plan.true; fits = w.fits },
      record { starts = omega (arith, l.0); limits = omega (arith, l.1); next = omega (arith, l.2); here = omega (arith, l.3); there = omega (arith, l.4); table = omega (arith, l.5) },
    )
