-- `order::put_all` meets its contract.
use Rattle.std.proofs.Common.{◌∙◌, arith, length-take-le}
use Rattle.std.proofs.lemmas.List.{take-append-le}
use Rattle.order.specs.Events.{length-events}
use Rattle.order.specs.Whole.{put_more, put_over}
use Rattle.order.proofs.put_all.Goals as goal

pub loop-e-preserved : goal.loop-e-preserved
loop-e-preserved c =
    let o = c.loop-e.invariant in
    let l = length-take-le _ _ c.requires in
    put_more _ o (length-events _ 0 _) (omega (arith, c.loop-e-test.true, o.long, l)) (omega (arith, c.loop-e-test.true, o.long)) c.event_at.ensures

pub returns : goal.returns
returns c =
    let n = c.args.notes in
    let o = c.loop-e.invariant in
    let l = length-events n.words.now 0 n.count in
    take-append-le _ _ _ (omega (arith, o.long, length-take-le _ _ c.requires)) ∙ put_over o (omega (arith, l)) (omega (arith, c.loop-e-test.false, length-take-le _ _ c.requires))
