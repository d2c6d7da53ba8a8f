-- `order::runs` meets its contract: the lanes passed have their notes.
use Rattle.std.proofs.Common.{◌-◌, ◌≤◌}
use Rattle.order.specs.Runs.{Runs}
use Rattle.order.proofs.runs.Given as goal

abbrev pub invariant-loop-i : goal.invariant-loop-i
invariant-loop-i l = Runs l.notes.words.now l.notes.count l.starts l.ends l.i l.l × (l.l ≤ 2048)

abbrev pub decreases-loop-i : goal.decreases-loop-i
decreases-loop-i l = l.notes.count - l.i
