-- `events::tracks::put_left` meets its contract.
use native.Mathlib.Omega.{arith}
use Rattle.events.proofs.TrackLoops.{putting_more, putting_over, counting_room, counting_over, window_asks, left_window}
use borrow.Author.Rules.{rules}
use Rattle.events.proofs.tracks.put_left.Goals as goal

pub take_window-w-requires : goal.take_window-w-requires
take_window-w-requires c = let q = c.requires.0 in (window_asks c.loop-left.invariant.counting.ahead c.loop-left-test.true q.lanes (omega (arith, q.room)) (omega (arith, q.here)), omega (arith, q.there), omega (arith, q.table))

pub put_window-reached-requires : goal.put_window-reached-requires
put_window-reached-requires c =
    let i = c.loop-left.invariant in
    let w = c.take_window-w.ensures in
    (left_window i.counting.ahead w (search rules) (omega (arith, c.requires.0.short)), omega (arith, counting_room i.counting w (search rules), c.requires.1, i.long))

pub loop-left-preserved : goal.loop-left-preserved
loop-left-preserved c =
    putting_more c.loop-left.invariant c.take_window-w.ensures (search rules) _ _ _ c.loop-left-test.true c.put_window-reached.ensures.reached.0 c.put_window-reached.ensures.reached.1 c.next_width-width.ensures c.put_window-reached.ensures.bytes

pub put_end-requires : goal.put_end-requires
put_end-requires c = let i = c.loop-left.invariant in (omega (arith, c.requires.0.short), omega (arith, counting_over i.counting c.loop-left-test.false, i.long, c.requires.1))

pub returns : goal.returns
returns c =
    let i = c.loop-left.invariant in
    (omega (arith, counting_over i.counting c.loop-left-test.false, c.put_end.ensures.0), putting_over i c.loop-left-test.false c.put_end.ensures.1)
