-- `writer::dense::put_dense` meets its contract.
use mathlib.Core.Path.{refl}
use native.Mathlib.Omega.{arith}
use Rattle.writer.proofs.Ranked.{ranks_keyed, planned_last, planned_short, dense_small, end_room, dense_put}
use Rattle.writer.proofs.dense.put_dense.Goals as goal

pub plan-ticks-requires : goal.plan-ticks-requires
plan-ticks-requires c = (ranks_keyed c.args.take.sound c.requires, omega arith)

pub overflow_sub-time : goal.overflow_sub-time
overflow_sub-time c = omega (arith, planned_last c.args.take.sound c.requires c.plan-ticks.ensures, c.end.ensures)

pub put_events-requires : goal.put_events-requires
put_events-requires c =
    let p = c.args.take.sound in
    let w = c.plan-ticks.ensures in
    (ranks_keyed p c.requires, omega (arith, c.if-out-length.false), w.first, planned_short p c.requires w (omega (arith, c.if-ticks-gt127.false)), omega arith)

pub put_end-requires : goal.put_end-requires
put_end-requires c =
    let g = rw c.end.ensures at c.group_count.ensures in
    let r = end_room c.args.take.sound c.requires c.plan-ticks.ensures (omega (arith, c.if-ticks-gt127.false)) g c.args.out.now (omega (arith, c.if-out-length.false)) c.put_events.ensures in
    (omega (arith, c.requires, c.end.ensures), rw c.end.ensures r)

pub overflow_cast-length-2 : goal.overflow_cast-length-2
overflow_cast-length-2 c =
    let g = rw c.end.ensures at c.group_count.ensures in
    omega (arith, dense_small c.args.take.sound c.requires c.plan-ticks.ensures (omega (arith, c.if-ticks-gt127.false)) g)

pub returns : goal.returns
returns c =
    let g = rw c.end.ensures at c.group_count.ensures in
    let t = rw c.end.ensures at c.put_end.ensures in
    dense_put c.args.take.sound c.requires c.plan-ticks.ensures (omega (arith, c.if-ticks-gt127.false)) g c.args.out.now (omega (arith, c.if-out-length.false)) refl c.put_events.ensures t.1 c.put_header.ensures
