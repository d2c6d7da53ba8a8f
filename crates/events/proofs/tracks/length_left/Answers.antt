-- `events::tracks::length_left` meets its contract.
use native.Mathlib.Omega.{arith}
use Rattle.events.proofs.TrackLoops.{counting_room, counting_more, counting_over, window_asks, left_window}
use borrow.Author.Rules.{rules}
use Rattle.events.proofs.tracks.length_left.Goals as goal

pub take_window-w-requires : goal.take_window-w-requires
take_window-w-requires c = let q = c.requires.0 in (window_asks c.loop-left.invariant.ahead c.loop-left-test.true q.lanes (omega (arith, q.room)) (omega (arith, q.here)), omega (arith, q.there), omega (arith, q.table))

pub window_length-reached-requires : goal.window_length-reached-requires
window_length-reached-requires c =
    let i = c.loop-left.invariant in
    let w = c.take_window-w.ensures in
    (left_window i.ahead w (search rules) (omega (arith, c.requires.0.short)), omega (arith, counting_room i w (search rules), c.requires.1))

pub loop-left-preserved : goal.loop-left-preserved
loop-left-preserved c =
    counting_more c.loop-left.invariant c.take_window-w.ensures (search rules) _ _ _ c.loop-left-test.true c.window_length-reached.ensures.0 c.window_length-reached.ensures.1 c.next_width-width.ensures

pub returns : goal.returns
returns c = omega (arith, counting_over c.loop-left.invariant c.loop-left-test.false, c.group_count.ensures)
