-- `beat::cells::put_cells` meets its contract.
use Rattle.beat.proofs.Makes.{Celling}
use Prim.Native.Nat.{◌+◌, ◌*◌}
use Rattle.beat.proofs.cells.put_cells.Given as goal

abbrev pub invariant-loop-k : goal.invariant-loop-k
invariant-loop-k l = Celling l.initial.s l.s l.at l.count l.by.delta l.end (l.at + 4 * l.k) l.to
