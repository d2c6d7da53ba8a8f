-- `cuts::lanes::put_joined_notes` meets its contract. The measure is how many lanes are left.
use Prim.Native.Nat.{◌-◌}
use Rattle.cuts.proofs.LaneWalk.{Walking}
use Rattle.cuts.proofs.lanes.put_joined_notes.Given as goal

abbrev pub invariant-loop-lane : goal.invariant-loop-lane
invariant-loop-lane l = Walking l.initial.s l.s l.initial.rests.at l.fn.h l.fn.beats l.initial.rests.first l.initial.rests.second l.rests l.lane

abbrev pub decreases-loop-lane : goal.decreases-loop-lane
decreases-loop-lane l = 2048 - l.lane
