-- `beat::cells::put_lines` meets its contract. The measure is how many ticks of the note are left.
use Rattle.beat.proofs.Makes.{Lining}
use Prim.Native.Nat.{◌-◌}
use Rattle.beat.proofs.cells.put_lines.Given as goal

abbrev pub invariant-loop-line : goal.invariant-loop-line
invariant-loop-line l = Lining l.initial.s l.s l.at l.delta l.n l.first l.beat l.line l.to

abbrev pub decreases-loop-line : goal.decreases-loop-line
decreases-loop-line l = l.n.end - l.line
