-- `events::tracks::length_left` meets its contract.
use Prim.Native.Nat.{◌+◌, ◌-◌}
use lib.ListN.{length}
use Rattle.order.specs.Notes.{events_of}
use Rattle.events.specs.Tracks.{track_left, events_left}
use Rattle.events.proofs.TrackLoops.{Counting}
use Rattle.events.proofs.tracks.length_left.Given as goal

abbrev pub invariant-loop-left : goal.invariant-loop-left
invariant-loop-left l =
    Counting (events_of l.notes) l.ends l.n l.end (l.initial.reached.at + length (track_left l.end 0 (events_left l.notes l.initial.starts l.ends)))
    l.starts l.left l.from l.width l.reached.at l.reached.tick

abbrev pub decreases-loop-left : goal.decreases-loop-left
decreases-loop-left l =
    272629761 - l.from
