-- `order::runs` meets its contract: the lanes passed have their notes.
use Rattle.std.proofs.Common.{arith}
use Rattle.order.specs.Runs.{runs-start, runs_more, runs_done}
use Rattle.order.proofs.runs.Goals as goal

pub loop-i-init : goal.loop-i-init
loop-i-init c = (runs-start _ _ _ _, omega arith)

pub loop-i-preserved : goal.loop-i-preserved
loop-i-preserved c =
    let o = c.loop-i.invariant in
    let k = c.loop-i-test.true in
    let e = c.requires.0.each c.loop-i.i k in
    let m = o.0.least k in
    (runs_more c.requires.0 o.0 k c.run_end-r.ensures (omega (arith, m, e.lane)) (omega (arith, m, e.lane)), omega (arith, m, e.lane))

pub returns : goal.returns
returns c = let o = c.loop-i.invariant in (runs_done o.0 c.loop-i-test.false (omega (arith, o.1)) (omega (arith, o.1)), o.1)
