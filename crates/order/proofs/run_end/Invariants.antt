-- `order::run_end` meets its contract.
use Rattle.std.proofs.Common.{◌≡◌, ℕ, ◌<◌, ◌≤◌}
use Rattle.order.specs.Events.{lane_at}
use Rattle.order.proofs.run_end.Given as goal

abbrev pub invariant-loop-i : goal.invariant-loop-i
invariant-loop-i l = (j : ℕ) → l.from ≤ j → j < l.i → lane_at l.notes.words.now j ≡ l.lane
