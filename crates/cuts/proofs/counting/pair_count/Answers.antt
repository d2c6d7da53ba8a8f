-- `cuts::counting::pair_count` meets its contract.
use mathlib.Core.Path.{ap}
use mathlib.Core.Bool.{not}
use Rattle.cuts.proofs.JoinCounts.{counted_none, not_bound, one_pair}
use Rattle.cuts.proofs.counting.pair_count.Goals as goal

pub returns-then-not-bound_over : goal.returns-then-not-bound_over
returns-then-not-bound_over c = not_bound _ _ _ _ c.bound_over.ensures (ap not c.if-not-bound_over.true) (counted_none c.default.ensures)

pub returns : goal.returns
returns c = one_pair _ _ _ _ c.bound_over.ensures (ap not c.if-not-bound_over.false) c.stands_alone.ensures c.from.ensures c.stands_alone-2.ensures c.from-2.ensures
