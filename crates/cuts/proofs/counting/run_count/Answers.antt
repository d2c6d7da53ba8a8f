-- `cuts::counting::run_count` meets its contract.
use Rattle.cuts.proofs.JoinCounts.{counted_none, no_first, no_second, lane_pair}
use Rattle.cuts.proofs.counting.run_count.Goals.{in_default-via-in-Some+in_default, in_default-via-in_default}
use Rattle.cuts.proofs.counting.run_count.Goals as goal

pub returns-in_default : goal.returns-in_default
returns-in_default c =
    elim c.in_default.branch [
      | in_default-via-in-Some+in_default w ↦ no_second _ _ _ _ w.in_default.ensures'.value (counted_none c.default.ensures)
      | in_default-via-in_default w ↦ no_first _ _ _ _ w.in_default.ensures.value (counted_none c.default.ensures)
    ]

pub returns : goal.returns
returns c = lane_pair _ _ _ _ c.in-Some-Some.ensures.value c.in-Some-Some.ensures'.value c.from.ensures c.from-2.ensures c.pair_count.ensures
