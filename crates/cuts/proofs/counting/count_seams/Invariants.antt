-- `cuts::counting::count_seams` meets its contract. The measure is how many cells are left of both takes.
use Prim.Native.Nat.{◌+◌}
use lib.ListN.{length}
use Rattle.laws.specs.JoinCount.{seams}
use Rattle.session.specs.Sliced.{cells_of}
use Rattle.cuts.proofs.JoinCounts.{Counting}
use Rattle.cuts.proofs.counting.count_seams.Given as goal

abbrev pub invariant-loop-left : goal.invariant-loop-left
invariant-loop-left l = Counting l.h l.beats (seams l.h l.beats (cells_of l.first) (cells_of l.second)) (cells_of l.left) (cells_of l.over) l.pairs l.alone

abbrev pub decreases-loop-left : goal.decreases-loop-left
decreases-loop-left l = length (cells_of l.left) + length (cells_of l.over)
